-- The records of the registers so far are there.
use Rattle.std.proofs.Common.{◌≡◌, ◌++◌, map}
use Rattle.std.specs.List.{flat_map}
use Rattle.rules_tcc.specs.Seen.{numbers}
use Rattle.watch_state.specs.Cores.{register_record}
use Rattle.watch_state.specs.Plain.{record_of}
use Rattle.watch_state.proofs.registers.add_all_registers.Given as goal

abbrev pub invariant-loop-number : goal.invariant-loop-number
invariant-loop-number l =
    map record_of l.records ≡ map record_of l.fn.records ++ flat_map (register_record l.core.0 l.regs) (numbers l.number)
