use Rattle.std.proofs.Common.{◌≡◌, ◌∙◌, [], refl, ap, length, length-set, arith, sym, append-nil, vec_len}
use Rattle.std.proofs.lemmas.List.{nil_from_length}
use Rattle.dir_lines.proofs.Spilling.{none-popped, spilling-begins, spilling-room, spilling-next, spilling-done}
use Rattle.dir_lines.proofs.mark_set.spill.Goals as goal

pub loop-place-init : goal.loop-place-init
loop-place-init c = (refl, λ p m. spilling-begins p c.args.few.now.items c.args.many.now m)

pub more-requires-clause-within : goal.more-requires-clause-within
more-requires-clause-within c =
    (spilling-room c.requires.0 c.loop-place.few.items c.pop.new.self.items c.loop-place.many c.in-Some.place
    (c.loop-place.invariant.1 c.requires.0 c.requires.1) c.in-Some.ensures.items).0

pub more-requires-clause-fits : goal.more-requires-clause-fits
more-requires-clause-fits c =
    (spilling-room c.requires.0 c.loop-place.few.items c.pop.new.self.items c.loop-place.many c.in-Some.place
    (c.loop-place.invariant.1 c.requires.0 c.requires.1) c.in-Some.ensures.items).1

pub loop-place-preserved : goal.loop-place-preserved
loop-place-preserved c = (
  ap length c.more.ensures ∙ (length-set c.loop-place.many _ _ ∙ c.loop-place.invariant.0),
  λ p m. spilling-next p c.loop-place.few.items c.pop.new.self.items c.loop-place.many c.more.new.many c.in-Some.place
      (c.loop-place.invariant.1 p m) c.in-Some.ensures.items c.more.ensures,
)

pub returns-clause-spilled : goal.returns-clause-spilled
returns-clause-spilled c p m =
    let same : c.loop-place.few.items ≡ c.pop.new.self.items = c.in_default.ensures.items ∙ append-nil c.pop.new.self.items in
    let none : c.loop-place.few.items ≡ [] =
    nil_from_length c.loop-place.few.items
    (let z : vec_len c.loop-place.few ≡ 0 = none-popped (vec_len c.loop-place.few) (λ q. let e = c.in_default.ensures.variant.1 q in cc) in
    omega (arith, c.loop-place.few.ok)) in
    (sym same ∙ none, spilling-done p c.loop-place.few.items c.loop-place.many none (c.loop-place.invariant.1 p m))
