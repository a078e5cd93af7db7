use Rattle.std.proofs.Common.{◌≡◌, ◌<◌, sym, length, get_or, false, arith, length-set}
use Rattle.spec_cache.proofs.PlaceLaws.{IsNoted-more, trues-lt}
use Rattle.spec_cache.proofs.places.Places.note.Goals as goal

pub push_reserved-requires : goal.push_reserved-requires
push_reserved-requires c =
    let e : get_or c.self.inside.flags.items c.args.at false ≡ false = sym (rw c.if-not-index.true at c.index.ensures) in
    let b : c.args.at < length c.self.inside.flags.items = rw (sym c.self.view_is) at c.requires in
    omega (arith, trues-lt c.self.inside.flags.items c.args.at b e, c.self.invariant.0.count, c.self.invariant.1, c.self.inside.places.ok.0)

pub invariant_of-self : goal.invariant_of-self
invariant_of-self c =
    let e : get_or c.self.inside.flags.items c.args.at false ≡ false = sym (rw c.if-not-index.true at c.index.ensures) in
    let b : c.args.at < length c.self.inside.flags.items = rw (sym c.self.view_is) at c.requires in (
      rw (length-set, c.push_reserved.ensures.items)
          (IsNoted-more (length c.self.inside.flags.items) c.self.inside.flags.items c.self.inside.places.items c.self.invariant.0 c.args.at
          b e),
      rw length-set (omega (arith, c.push_reserved.ensures.capacity, c.self.invariant.1)),
    )
