use Rattle.std.proofs.Common.{◌≡◌, ◌-◌, arith}
use Rattle.std.proofs.lemmas.Grind.{common_steps}
use Rattle.base_lemmas.proofs.Lemmas.{flat_map-range_with_len_more}
use Rattle.report_text.specs.Text.{register_text, registers_text}
use Rattle.report_text.proofs.body.push_registers.Goals as goal
use Rattle.report_text.proofs.body.push_registers.Goals.{in-Some+in_ok-push_register, in_default}

pub loop-number-preserved : goal.loop-number-preserved
loop-number-preserved c =
    let more = flat_map-range_with_len_more (register_text c.args.regs.now) 1 (c.loop-number.number - 1) c.loop-number.number
    (omega arith) in
    elim c.match-new.branch [
      | in-Some+in_ok-push_register w ↦ grind (arith, common_steps, more)
      | in_default w ↦ grind (arith, common_steps)
    ]

pub returns : goal.returns
unfolding registers_text
returns c =
    let all : c.loop-number.number ≡ 32 = omega arith in
    rw all at c.loop-number.invariant
