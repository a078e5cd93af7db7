-- Each of the cores in turn.
use Rattle.std.proofs.Common.{string_bytes}
use Rattle.bus_tcc.specs.Machine.{bus_settings_of}
use Rattle.watch_state.proofs.Lemmas.{flats-more}
use Rattle.bus_state.specs.Text.{core_evicts, enabled_lines}
use Rattle.bus_state.proofs.Told.{text_of_event}
use Rattle.bus_state.proofs.events.push_evicts.Goals as goal

pub loop-core-preserved : goal.loop-core-preserved
unfolding enabled_lines
loop-core-preserved c =
    let m = c.args.system.now in
    flats-more (text_of_event m) (core_evicts (bus_settings_of m)) c.loop-core.core (string_bytes c.args.text.now)
    (string_bytes c.loop-core.text) (string_bytes c.push_core_evicts.new.text) c.loop-core.invariant c.in_ok-push_core_evicts.ensures
