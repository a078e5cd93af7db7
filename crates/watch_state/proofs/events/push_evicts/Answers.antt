-- Each core in turn.
use Rattle.std.proofs.Common.{string_bytes}
use Rattle.net_core.specs.Machine.{settings_of}
use Rattle.watch_state.specs.Events.{core_evicts}
use Rattle.watch_state.specs.Text.{events_text}
use Rattle.watch_state.proofs.Flying.{text_of_event}
use Rattle.watch_state.proofs.Listed.{flats-more}
use Rattle.watch_state.proofs.events.push_evicts.Goals as goal

pub loop-core-preserved : goal.loop-core-preserved
unfolding events_text
loop-core-preserved c =
    let m = c.args.system.now in
    flats-more (text_of_event m) (core_evicts (settings_of m)) c.loop-core.core (string_bytes c.args.text.now)
    (string_bytes c.loop-core.text) (string_bytes c.push_core_evicts.new.text) c.loop-core.invariant c.in_ok-push_core_evicts.ensures
