-- What is left of the list has the number.
use Rattle.std.proofs.Common.{◌≡◌, map, drop}
use Rattle.std.specs.List.{filter, slice_get}
use Rattle.machine_links.proofs.stretch.nth_ready.Given as goal

abbrev pub invariant-loop-w : goal.invariant-loop-w
invariant-loop-w l = slice_get (map (λ w. w.seq) (filter (λ w. w.held.ready) (drop l.w-index l.waiting))) l.left
    ≡ slice_get (map (λ w. w.seq) (filter (λ w. w.held.ready) l.waiting)) l.k
