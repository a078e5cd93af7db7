-- Each set in turn.
use Rattle.std.proofs.Common.{string_bytes}
use Rattle.net_core.specs.Machine.{settings_of}
use Rattle.watch_state.specs.Events.{set_evicts}
use Rattle.watch_state.specs.Text.{events_text}
use Rattle.watch_state.proofs.Flying.{text_of_event}
use Rattle.watch_state.proofs.Listed.{flats-more}
use Rattle.watch_state.proofs.events.push_core_evicts.Goals as goal

pub loop-set-preserved : goal.loop-set-preserved
unfolding events_text
loop-set-preserved c =
    let m = c.args.system.now in
    flats-more (text_of_event m) (set_evicts (settings_of m) c.args.core.0) c.loop-set.set (string_bytes c.args.text.now)
    (string_bytes c.loop-set.text) (string_bytes c.push_set_evicts.new.text) c.loop-set.invariant c.in_ok-push_set_evicts.ensures
