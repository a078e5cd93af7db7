-- Each core in turn.
use Rattle.std.proofs.Common.{string_bytes}
use Rattle.bus_tcc.specs.Machine.{bus_settings_of, bus_world_of}
use Rattle.watch_state.proofs.Lemmas.{lines-more}
use Rattle.bus_state.specs.Parts.{bus_core_records}
use Rattle.bus_state.proofs.cores.push_cores.Goals as goal

pub loop-core-preserved : goal.loop-core-preserved
loop-core-preserved c =
    let m = c.args.system.now in
    lines-more (λ j. bus_core_records (bus_settings_of m) j ((bus_world_of m).cores j)) c.loop-core.core (string_bytes c.args.text.now)
    (string_bytes c.loop-core.text) (string_bytes c.push_core.new.text) c.loop-core.invariant c.in_ok-push_core.ensures
