use Rattle.std.proofs.Common.{◌≡◌, ◌+◌, ◌-◌, ◌∙◌, ◌<◌, length, take, vec_len, ap, subst, arith}
use Rattle.dir_lines.proofs.Marks.{IsPlace, remove-last, those-forget}
use Rattle.dir_lines.proofs.marked.forget.Goals as goal

pub returns-then-at-len-clause-items : goal.returns-then-at-len-clause-items
returns-then-at-len-clause-items c p n h e same =
    let placed : IsPlace c.deref.result.now c.args.line c.place-at.result =
    record { within = c.place-at.ensures.within; after = c.place-at.ensures.after; before = c.place-at.ensures.before } in
    let r = those-forget p c.args.line n c.place-at.result c.args.marked.now.items
    (subst (λ xs. IsPlace xs c.args.line c.place-at.result) c.deref.ensures.value placed) h e same in
    let some : 0 < c.place-at.result = r.0 in
    let long : length c.args.marked.now.items ≡ c.place-at.result - 1 + 1 =
    omega (arith, c.if-at-len.true, c.len.ensures, c.args.marked.now.ok) in
    let last : vec_len c.args.marked.now - 1 ≡ c.place-at.result - 1 = omega (arith, c.if-at-len.true, c.len.ensures) in
    c.pop.ensures.rest
    ∙ (ap (λ k. take k c.args.marked.now.items) last ∙ (remove-last c.args.marked.now.items (c.place-at.result - 1) long ∙ r.1))

pub returns-then-at-gt0-clause-items : goal.returns-then-at-gt0-clause-items
returns-then-at-gt0-clause-items c p n h e same =
    let placed : IsPlace c.deref.result.now c.args.line c.place-at.result =
    record { within = c.place-at.ensures.within; after = c.place-at.ensures.after; before = c.place-at.ensures.before } in
    let r = those-forget p c.args.line n c.place-at.result c.args.marked.now.items
    (subst (λ xs. IsPlace xs c.args.line c.place-at.result) c.deref.ensures.value placed) h e same in
    c.remove.ensures.items ∙ r.1

pub returns-else-at-gt0-clause-items : goal.returns-else-at-gt0-clause-items
returns-else-at-gt0-clause-items c p n h e same =
    let placed : IsPlace c.deref.result.now c.args.line c.place-at.result =
    record { within = c.place-at.ensures.within; after = c.place-at.ensures.after; before = c.place-at.ensures.before } in
    let r = those-forget p c.args.line n c.place-at.result c.args.marked.now.items
    (subst (λ xs. IsPlace xs c.args.line c.place-at.result) c.deref.ensures.value placed) h e same in
    let some : 0 < c.place-at.result = r.0 in
    absurd (omega arith)
