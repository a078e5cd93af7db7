-- Each directory in turn.
use Rattle.std.proofs.Common.{string_bytes}
use Rattle.image_load.specs.Start.{first_ram}
use Rattle.net_core.specs.Machine.{settings_of, start_of, world_of}
use Rattle.watch_state.specs.Directories.{directory_records}
use Rattle.watch_state.proofs.Growing.{lines-more}
use Rattle.watch_state.proofs.nodes.push_directories.Goals as goal

pub loop-dir-preserved : goal.loop-dir-preserved
loop-dir-preserved c =
    let m = c.args.system.now in
    lines-more (λ j. directory_records (settings_of m) (first_ram (start_of m)) j ((world_of m).dirs j)) c.loop-dir.dir
    (string_bytes c.args.text.now) (string_bytes c.loop-dir.text) (string_bytes c.push_directory.new.text) c.loop-dir.invariant
    c.in_ok-push_directory.ensures
