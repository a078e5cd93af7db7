-- Each core in turn.
use Rattle.std.proofs.Common.{string_bytes}
use Rattle.net_core.specs.Machine.{settings_of, world_of}
use Rattle.watch_state.specs.Cores.{core_records}
use Rattle.watch_state.proofs.Growing.{lines-more}
use Rattle.watch_state.proofs.nodes.push_cores.Goals as goal

pub loop-core-preserved : goal.loop-core-preserved
loop-core-preserved c =
    let m = c.args.system.now in
    lines-more (λ j. core_records (settings_of m) j ((world_of m).cores j)) c.loop-core.core (string_bytes c.args.text.now)
    (string_bytes c.loop-core.text) (string_bytes c.push_core.new.text) c.loop-core.invariant c.in_ok-push_core.ensures
