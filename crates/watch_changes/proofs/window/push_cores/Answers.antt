use Rattle.std.specs.String.{string_bytes}
use Rattle.rules_maps.specs.Nodes.{Core}
use Rattle.watch_state.proofs.Lemmas.{piece-more}
use Rattle.watch_changes.specs.Changes.{all_lines}
use Rattle.watch_changes.specs.Plain.{records_now}
use Rattle.watch_changes.proofs.window.push_cores.Goals as goal

pub loop-core-preserved : goal.loop-core-preserved
loop-core-preserved c =
    piece-more (λ k. all_lines (records_now c.args.system.now (Core k))) c.loop-core.core (string_bytes c.args.text.now)
    (string_bytes c.loop-core.text) (string_bytes c.push_core.new.text) c.loop-core.invariant c.in_ok-push_core.ensures
