-- The instruction at pc as what the program does there.
use Rattle.std.proofs.Common.{◌≡◌, ℕ, Some, ap, ◌∙◌, sym}
use Rattle.rules_program.specs.Program.{unreserved, Need}
use Rattle.rules_program.specs.Plain.{Trapped}
use Rattle.rules_maps.specs.Shape.{Shape}
use Rattle.rules_tcc.specs.State.{CoreState}
use Rattle.rules_tcc.specs.Execute.{end_transaction, execute, execute_need}
use Rattle.image_load.specs.Start.{Start}
use Rattle.rv_code.specs.Instructions.{Runs, FailsToFetch}
use Rattle.rv_code.specs.Machine.{program, in_ram}
use Rattle.rv_decode.specs.declared.instruction.Inst.{Inst}
use Rattle.rv_exec.specs.Effects.{planned}
use Rattle.rv_exec.specs.Running.{bounded, alone}
use Rattle.core_node.specs.Executing.{concluded}
use Rattle.core_node.proofs.Finished.{finished_traps}
use Rattle.core_node.proofs.Programs.{execute_same}

pub executed_as : (sh : Shape) (m : Start) (id : ℕ) (s : CoreState) (inst : Inst) (n : Need) → Runs m s.local inst
    → n ≡ bounded (in_ram m.settings) (planned inst s.local) → execute sh (program m) id s ≡ execute_need sh (alone inst) id s n
unfolding execute
executed_as sh m id s inst n r e =
    ap (execute_need sh (program m) id s) (r.need ∙ sym e) ∙ execute_same sh (program m) (alone inst) id s n r.after

pub trapped_as : (sh : Shape) (m : Start) (id : ℕ) (s : CoreState) (trap : ℕ) → FailsToFetch m s.local trap
    → execute sh (program m) id s ≡ Some (end_transaction sh id s.phase (concluded (unreserved s.local) (Trapped trap) s))
unfolding execute
trapped_as sh m id s trap f =
    ap (execute_need sh (program m) id s) f
    ∙ ap (λ (t : CoreState). Some (end_transaction sh id s.phase t)) (finished_traps (program m) trap 0 s)
