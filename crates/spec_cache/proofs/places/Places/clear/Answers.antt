use Rattle.std.proofs.Common.{◌≡◌, ◌∙◌, ◌++◌, ap, refl, length, take, drop, arith, List, Bool}
use Rattle.base_lemmas.proofs.Lemmas.{write_back-whole}
use Rattle.spec_cache.proofs.PlaceLaws.{IsNoted-none}
use Rattle.spec_cache.proofs.places.Places.clear.Goals as goal

pub invariant_of-self : goal.invariant_of-self
invariant_of-self c =
    let l : length c.unflag.new.flags ≡ length c.self.inside.flags.items = c.unflag.auto.flags
    ∙ ap (λ (bs : List Bool). length bs) c.deref_mut.ensures.value in
    let e : take c.self.inside.flags.len (c.unflag.new.flags ++ drop (length c.unflag.new.flags) c.self.inside.flags.items)
    ≡ c.unflag.new.flags = write_back-whole c.unflag.new.flags c.self.inside.flags.items c.self.inside.flags.len l c.self.inside.flags.ok.0
    in
    rw e (
      (rw c.clear.ensures.items (IsNoted-none (length c.unflag.new.flags) c.unflag.new.flags c.unflag.ensures refl)),
      omega (arith, c.clear.ensures.capacity, c.self.invariant.1, l),
    )
