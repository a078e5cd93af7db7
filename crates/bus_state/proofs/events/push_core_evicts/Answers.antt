-- Each of the sets in turn.
use Rattle.std.proofs.Common.{string_bytes}
use Rattle.bus_tcc.specs.Machine.{bus_settings_of}
use Rattle.watch_state.proofs.Lemmas.{flats-more}
use Rattle.bus_state.specs.Text.{set_evicts, enabled_lines}
use Rattle.bus_state.proofs.Told.{text_of_event}
use Rattle.bus_state.proofs.events.push_core_evicts.Goals as goal

pub loop-set-preserved : goal.loop-set-preserved
unfolding enabled_lines
loop-set-preserved c =
    let m = c.args.system.now in
    flats-more (text_of_event m) (set_evicts (bus_settings_of m) c.args.core.0) c.loop-set.set (string_bytes c.args.text.now)
    (string_bytes c.loop-set.text) (string_bytes c.push_set_evicts.new.text) c.loop-set.invariant c.in_ok-push_set_evicts.ensures
