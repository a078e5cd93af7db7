-- What is left of the pieces has the number.
use Rattle.std.proofs.Common.{◌≡◌, map, drop}
use Rattle.std.specs.List.{filter, slice_get}
use Rattle.machine_links.specs.Pieces.{flat}
use Rattle.machine_links.proofs.rest.nth_marked.Given as goal

abbrev pub invariant-loop-at : goal.invariant-loop-at
invariant-loop-at l = slice_get (map (λ w. w.seq) (filter (λ w. w.held.ready) (flat (drop l.at l.pieces)))) l.left
    ≡ slice_get (map (λ w. w.seq) (filter (λ w. w.held.ready) (flat l.pieces))) l.k
