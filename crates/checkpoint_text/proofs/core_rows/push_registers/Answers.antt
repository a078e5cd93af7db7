use Rattle.std.proofs.Common.{ℕ, ◌≡◌, ◌<◌, ◌+◌, ◌∙◌, List, ◌++◌, arith, drop, length}
use Rattle.std.specs.List.{flat_map}
use Rattle.std.proofs.lemmas.Grind.{common_steps}
use Rattle.std.proofs.lemmas.List.{drop_more}
use Rattle.reg_checkpoint.specs.Registers.{IsRegisters}
use Rattle.rules_program.specs.Registers.{register}
use Rattle.row_text.specs.Rows.{number_text}
use Rattle.checkpoint_text.proofs.core_rows.push_registers.Goals as goal
use Rattle.checkpoint_text.proofs.core_rows.push_registers.Goals.{in-Some+in_ok-push_number, in_default}

-- one more register is written
register-more : (regs : List ℕ) (i r v : ℕ) (text new all : List ℕ) → IsRegisters regs → i < 32 → r ≡ i → v ≡ register regs r
    → text ++ flat_map number_text (drop i regs) ≡ all → new ≡ text ++ number_text v
    → new ++ flat_map number_text (drop (i + 1) regs) ≡ all
unfolding register
register-more regs i r v text new all h l e f before g =
    let n : length regs ≡ 32 = h.count in
    grind (arith, common_steps, drop_more)

pub loop-number-preserved : goal.loop-number-preserved
loop-number-preserved c =
    elim c.match-new.branch [
      | in-Some+in_ok-push_number w ↦ (record {
        written = register-more c.args.regs.now c.loop-number.number w.in-Some.r _ _ _ _ w.get.ensures.registers c.loop-number-test.true
            w.in-Some.ensures.value w.get.ensures.value c.loop-number.invariant.written (w.text-is ∙ w.in_ok-push_number.ensures);
        count = λ l. w.get.ensures.registers.count;
      })
      | in_default w ↦ (let is_there = w.in_default.ensures.valid.1 c.loop-number-test.true in absurd cc)
    ]

pub returns : goal.returns
returns c = grind (arith, common_steps)
