-- The words that it carries are all of its line.
use Rattle.std.proofs.Common.{inl, inr, sym, ◌∙◌}
use Rattle.net_core.proofs.Words.Away.{elsewhere}
use Rattle.net_core.proofs.noting.note_msg.Goals as goal

pub returns-in-WriteBack : goal.returns-in-WriteBack
returns-in-WriteBack c = λ l free.
    let w = c.in-WriteBack in
    let noted = c.note.ensures l free in
    elim w.is [
      | inl e ↦ (noted.0, λ v own. rw e.3 (elsewhere w.line.0 e.0.0 v e.2.0 e.1 (λ q. noted.1 (sym own ∙ q))))
      | inr e ↦ (noted.0, λ v own. rw e.3 (elsewhere w.line.0 e.0.0 v e.2.0 e.1 (λ q. noted.1 (sym own ∙ q))))
    ]
