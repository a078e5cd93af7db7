use Rattle.std.proofs.Common.{◌≡◌, [], ◌∷◌, ◌++◌, length, ◌∙◌, subst, arith}
use Rattle.std.specs.List.{insert}
use Rattle.dir_lines.proofs.Marks.{IsPlace, insert-last, those-note, when_ok}
use Rattle.dir_lines.proofs.marked.note.Goals as goal

pub returns-else-is_err-clause-items : goal.returns-else-is_err-clause-items
returns-else-is_err-clause-items c p n h e same =
    let placed : IsPlace c.deref.result.now c.args.line c.place-at.result =
    record { within = c.place-at.ensures.within; after = c.place-at.ensures.after; before = c.place-at.ensures.before } in
    let last : c.place-at.result ≡ length c.args.marked.now.items =
    omega (arith, c.if-at-len.true, c.len.ensures, c.args.marked.now.ok) in
    when_ok c.push.result c.push.new.self.items (c.args.marked.now.items ++ c.args.line ∷ []) c.args.marked.now.items
    (c.push.ensures.succeeds c.requires) c.push.ensures.items
    ∙ (insert-last c.args.marked.now.items c.args.line c.place-at.result last
    ∙ those-note p c.args.line n c.place-at.result c.args.marked.now.items
    (subst (λ xs. IsPlace xs c.args.line c.place-at.result) c.deref.ensures.value placed) h e same)

pub returns-else-is_err-2-clause-items : goal.returns-else-is_err-2-clause-items
returns-else-is_err-2-clause-items c p n h e same =
    let placed : IsPlace c.deref.result.now c.args.line c.place-at.result =
    record { within = c.place-at.ensures.within; after = c.place-at.ensures.after; before = c.place-at.ensures.before } in
    when_ok c.insert.result c.insert.new.self.items (insert c.args.marked.now.items c.place-at.result c.args.line) c.args.marked.now.items
    (c.insert.ensures.succeeds c.requires) c.insert.ensures.items
    ∙ those-note p c.args.line n c.place-at.result c.args.marked.now.items
    (subst (λ xs. IsPlace xs c.args.line c.place-at.result) c.deref.ensures.value placed) h e same
