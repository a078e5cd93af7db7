-- The registers, the pc of the checkpoint, and its registers.
use Rattle.std.proofs.Common.{[], ◌∷◌, ◌++◌, map}
use Rattle.std.specs.List.{flat_map}
use Rattle.rules_tcc.specs.Seen.{numbers}
use Rattle.core_node.specs.View.{core_of}
use Rattle.watch_state.specs.Cores.{register_record, register_records, saved_record}
use Rattle.watch_state.specs.Plain.{record_of}
use Rattle.watch_state.specs.Records.{SavedPc}
use Rattle.watch_state.proofs.Growing.{then}
use Rattle.watch_state.proofs.registers.add_registers.Goals as goal

pub returns : goal.returns
unfolding register_records core_of
returns c =
    let id = c.args.id.0 in
    let core = c.args.core.now in
    let pc = SavedPc id core.check.pc ∷ [] in
    let regs = flat_map (register_record id core.state.regs) (numbers 32) in
    let saved = flat_map (saved_record id core.check.regs) (numbers 32) in
    let t0 = map record_of c.args.records.now in
    let t1 = map record_of c.add_all_registers.new.records in
    let t2 = map record_of c.add.new.records in
    let t3 = map record_of c.add_all_saved.new.records in
    then regs (pc ++ saved) t0 t1 t3 (rw c.regs.ensures at c.in_ok-add_all_registers.ensures)
    (then pc saved t1 t2 t3 (rw c.pc-pc.ensures at c.in_ok-add.ensures) (rw c.regs-2.ensures at c.in_ok-add_all_saved.ensures))
