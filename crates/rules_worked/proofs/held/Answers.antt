-- The schedule is computed by the definitions alone.
use Rattle.std.proofs.Common.{refl}
use Rattle.image_load.specs.Memory.{segment_at, word_of as image_load-word_of, all_four}
use Rattle.image_load.specs.Raw.{raw_images}
use Rattle.image_load.specs.Start.{start as image_load-start, first_ram}
use Rattle.rv_decode.specs.Decoding.{inst_of, decoded}
use Rattle.rv_exec.specs.Effects.{planned, results, finished}
use Rattle.rv_exec.specs.Running.{program as rv_exec-program}
use Rattle.rv_code.specs.Machine.{program, in_ram, start_regs}
use Rattle.rv_plain.specs.Machine.{plain_start}
use Rattle.rules_program.specs.Plain.{plain_step, steps, begun, closed, transaction}
use Rattle.rules_program.specs.Registers.{zeroed, register, written}
use Rattle.rules_tcc.proofs.Lemmas.{computed}
use Rattle.rules_phases.specs.Phased.{is_late, is_held, phased_next, phased_from}
use Rattle.rules_phases.specs.Phases.{phases_along, phases_in, phases_of, phase_of}
use Rattle.rules_worked.proofs.held.Goals as goal

pub returns : goal.returns
unfolding computed segment_at image_load-word_of all_four raw_images image_load-start inst_of decoded planned results finished
    rv_exec-program program first_ram in_ram start_regs plain_start plain_step steps begun closed transaction zeroed register written
    is_late is_held phased_next phased_from phases_along phases_in phases_of phase_of
returns c = record { schedules = (refl, refl, refl) }
