-- The bit that is set and has so many set ones below it.
use Rattle.std.proofs.Common.{◌≡◌, ◌<◌, refl, sym, arith, length}
use Rattle.std.specs.Prelude.{filter}
use Rattle.std.proofs.lemmas.Option.{slice_get_past}
use Rattle.rules_maps.specs.Masks.{has}
use Rattle.rules_tcc.specs.Seen.{numbers}
use Rattle.bus_tcc.proofs.Halves.{halves}
use Rattle.bus_tcc.proofs.Numbers.{before-end, this-one}
use Rattle.bus_tcc.proofs.Ones.{ones-below}
use Rattle.bus_tcc.proofs.bus.CoreSet.nth_below.Goals as goal

pub returns-then-k-below : goal.returns-then-k-below
returns-then-k-below c =
    sym (slice_get_past (filter (has c.args.self.bits) (numbers c.args.count)) c.args.k
    (omega (arith, c.if-k-below.true, c.from-below.ensures, c.count_below.ensures)))

pub nth_one-requires : goal.nth_one-requires
nth_one-requires c =
    let m = c.args.self.bits in
    omega (
      arith,
      c.if-k-below.false,
      c.from-below.ensures,
      c.count_below.ensures,
      ones-below m c.args.count,
      halves m c.args.count,
    )

pub returns : goal.returns
returns c =
    let m = c.args.self.bits in
    let n = c.args.count in
    let at = c.nth_one.result in
    let passed : length (filter (has m) (numbers at)) ≡ c.args.k = omega (arith, c.nth_one.ensures.before, ones-below m at) in
    let within : c.args.k < length (filter (has m) (numbers n)) =
    omega (arith, c.if-k-below.false, c.from-below.ensures, c.count_below.ensures) in
    this-one (has m) at n c.args.k 0 (omega (arith, passed)) refl (sym c.nth_one.ensures.set)
    (before-end (has m) at n c.args.k passed within)
