use Rattle.std.specs.String.{string_bytes}
use Rattle.rules_maps.specs.Nodes.{Dir}
use Rattle.watch_state.proofs.Lemmas.{piece-more}
use Rattle.watch_changes.specs.Changes.{all_lines}
use Rattle.watch_changes.specs.Plain.{records_now}
use Rattle.watch_changes.proofs.window.push_directories.Goals as goal

pub loop-dir-preserved : goal.loop-dir-preserved
loop-dir-preserved c =
    piece-more (λ k. all_lines (records_now c.args.system.now (Dir k))) c.loop-dir.dir (string_bytes c.args.text.now)
    (string_bytes c.loop-dir.text) (string_bytes c.push_directory.new.text) c.loop-dir.invariant c.in_ok-push_directory.ensures
