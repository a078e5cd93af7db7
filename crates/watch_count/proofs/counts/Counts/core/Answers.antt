-- A core's numbers are those of what is kept of it.
use Rattle.std.proofs.Common.{◌≤◌, ◌<◌, ◌∙◌, Some, ap, length, option_map, slice_get, sym, arith}
use Rattle.std.proofs.lemmas.Option.{slice_get-get_or, slice_get-map, slice_get_past}
use Rattle.watch_count.specs.KeptCores.{numbers_after}
use Rattle.watch_count.specs.Sizes.{core_size}
use Rattle.watch_count.specs.Counts.{Counts}
use Rattle.watch_count.proofs.Lists.{map-at}
use Rattle.watch_count.proofs.counts.Counts.core.Goals as goal

pub numbers-requires : goal.numbers-requires
numbers-requires c =
    let k = c.self.inside in
    let within : c.args.core < length k.cores.items = omega (arith, c.if-core-len.true, c.len.ensures) in
    let small = map-at (λ x. core_size x ≤ k.bound) (numbers_after k.events) k.cores.items c.args.core c.index.result.now
    c.self.invariant.kept.cores within in
    let size = ap (λ x. core_size (numbers_after k.events x)) c.index.ensures in
    omega (arith, size, small, c.self.invariant.kept.small)

pub returns-then-core-len : goal.returns-then-core-len
returns-then-core-len c =
    let k = c.self.inside in
    let within : c.args.core < length k.cores.items = omega (arith, c.if-core-len.true, c.len.ensures) in
    ap Some (c.numbers.ensures ∙ ap (numbers_after k.events) c.index.ensures)
    ∙ ap (option_map (numbers_after k.events)) (sym (slice_get-get_or k.cores.items c.args.core _ within))
    ∙ sym (slice_get-map (numbers_after k.events) k.cores.items c.args.core)
    ∙ ap (λ (s : Counts). slice_get s.cores c.args.core) c.self.view_is

pub returns-else-core-len : goal.returns-else-core-len
returns-else-core-len c =
    let k = c.self.inside in
    let past : length k.cores.items ≤ c.args.core = omega (arith, c.if-core-len.false, c.len.ensures) in
    ap (option_map (numbers_after k.events)) (sym (slice_get_past k.cores.items c.args.core past))
    ∙ sym (slice_get-map (numbers_after k.events) k.cores.items c.args.core)
    ∙ ap (λ (s : Counts). slice_get s.cores c.args.core) c.self.view_is
