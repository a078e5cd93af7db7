-- The first piece and the others are all.
use Rattle.std.proofs.Common.{◌≡◌, ◌<◌, ◌++◌, length, length-append, sym, ap, subst, ◌∙◌, arith}
use Rattle.machine_links.specs.Pieces.{AreFull, flat}
use Rattle.machine_links.proofs.Pieces.{flat-first}
use Rattle.machine_links.proofs.Full.{full-remove}
use Rattle.machine_links.proofs.rest.Rest.take_first.Goals as goal

pub overflow_sub-self : goal.overflow_sub-self
overflow_sub-self c =
    let xs = c.self.inside.pieces.items in
    let x = c.remove-first.result in
    let some : 0 < length xs = omega (arith, c.self.inside.pieces.ok) in
    let split : flat xs ≡ x ++ flat c.remove-first.new.self.items =
    flat-first xs x some c.remove-first.ensures.value ∙ ap (λ ys. x ++ flat ys) (sym c.remove-first.ensures.items) in
    omega (arith, ap length split, length-append x (flat c.remove-first.new.self.items), c.self.invariant.counted, c.len.ensures)

pub invariant_of-self : goal.invariant_of-self
invariant_of-self c =
    let xs = c.self.inside.pieces.items in
    let x = c.remove-first.result in
    let some : 0 < length xs = omega (arith, c.self.inside.pieces.ok) in
    let split : flat xs ≡ x ++ flat c.remove-first.new.self.items =
    flat-first xs x some c.remove-first.ensures.value ∙ ap (λ ys. x ++ flat ys) (sym c.remove-first.ensures.items) in
    record {
      counted = omega (
        arith,
        ap length split,
        length-append x (flat c.remove-first.new.self.items),
        c.self.invariant.counted,
        c.len.ensures,
      );
      full = subst AreFull (sym c.remove-first.ensures.items) (full-remove xs 0 some (λ k l ne. c.self.invariant.full k l));
    }

pub returns-clause-some : goal.returns-clause-some
returns-clause-some c =
    let xs = c.self.inside.pieces.items in
    let x = c.remove-first.result in
    let some : 0 < length xs = omega (arith, c.self.inside.pieces.ok) in
    let split : flat xs ≡ x ++ flat c.remove-first.new.self.items =
    flat-first xs x some c.remove-first.ensures.value ∙ ap (λ ys. x ++ flat ys) (sym c.remove-first.ensures.items) in
    sym split ∙ c.self.view_is
