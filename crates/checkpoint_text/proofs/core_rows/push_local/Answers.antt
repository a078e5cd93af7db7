-- Registers, pc and reservation as one row.
use Rattle.std.proofs.Common.{ℕ, ◌≡◌, ◌∙◌, List, [], ◌∷◌, ◌++◌, Option, ap, sym}
use Rattle.rules_program.specs.Program.{Local}
use Rattle.row_text.specs.Rows.{row_text}
use Rattle.checkpoint_text.specs.Numbers.{local_numbers, optional}
use Rattle.checkpoint_text.proofs.Written.{long-row}
use Rattle.checkpoint_text.proofs.core_rows.push_local.Goals as goal

numbers-here : (l : Local) (k pc a b : ℕ) (r : Option ℕ) (regs : List ℕ) → pc ≡ l.pc → r ≡ l.reserved → optional r ≡ a ∷ b ∷ []
    → regs ≡ l.regs → k ∷ pc ∷ a ∷ b ∷ regs ≡ k ∷ local_numbers l
unfolding local_numbers
numbers-here l k pc a b r regs p q o e =
    ap (λ n. k ∷ n ∷ a ∷ b ∷ regs) p ∙ ap (λ t. k ∷ l.pc ∷ (t ++ regs)) (sym o)
    ∙ ap (λ s. k ∷ l.pc ∷ (optional s ++ regs)) q ∙ ap (λ rs. k ∷ l.pc ∷ (optional l.reserved ++ rs)) e

pub returns : goal.returns
returns c =
    let pair = c.reserved_numbers-reserved in
    long-row _ (c.args.k ∷ c.pc.result ∷ pair.result.0 ∷ pair.result.1 ∷ []) _ _ _ _ _ c.in_ok-begin_long.ensures
    c.in_ok-push_registers.ensures c.in_ok-end_row.ensures
    ∙ ap (λ ns. c.args.text.now ++ row_text (record { word = c.args.word.now; numbers = ns }))
    (numbers-here c.args.state.now c.args.k _ _ _ _ _ c.pc.ensures c.reserved.ensures pair.ensures c.regs.ensures)
