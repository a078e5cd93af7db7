use Rattle.std.proofs.Common.{ℕ, map, ap, ◌∙◌, ◌≡◌, ◌++◌, arith}
use Rattle.std.proofs.lemmas.Grind.{common_steps}
use Rattle.watch_state.specs.Cores.{saved_record}
use Rattle.watch_state.specs.Plain.{record_of}
use Rattle.watch_state.proofs.Growing.{piece-more}
use Rattle.watch_state.proofs.registers.add_all_saved.Goals as goal
use Rattle.watch_state.proofs.registers.add_all_saved.Goals.{in-Some+in_ok-add_saved_register, in_default}

pub loop-number-preserved : goal.loop-number-preserved
loop-number-preserved c =
    elim c.match-new.branch [
      | in-Some+in_ok-add_saved_register b ↦
          piece-more (saved_record c.args.core.0 c.args.regs.now) c.loop-number.number (map record_of c.args.records.now)
          (map record_of c.loop-number.records) (map record_of c.match-new.records) c.loop-number.invariant
          (ap (λ rs. map record_of rs) b.records-is ∙ b.in_ok-add_saved_register.ensures
          ∙ ap (λ (r : ℕ). map record_of c.loop-number.records ++ saved_record c.args.core.0 c.args.regs.now r)
          b.in-Some.ensures.value)
      | in_default b ↦ grind (arith, common_steps)
    ]

pub returns : goal.returns
returns c =
    let all : c.loop-number.number ≡ 32 = omega arith in
    rw all at c.loop-number.invariant
