-- What was told are all records.
use Rattle.std.specs.String.{string_bytes}
use Rattle.image_load.specs.Contents.{started}
use Rattle.net_core.specs.Machine.{start_of, world_of}
use Rattle.watch_changes.proofs.Begun.{told-all}
use Rattle.watch_changes.proofs.window.begin.Goals as goal

pub returns : goal.returns
unfolding started
returns c =
    let m = c.args.system.now in
    told-all (start_of m) (world_of m) (string_bytes c.args.text.now) (string_bytes c.push_cores.new.text)
    (string_bytes c.push_directories.new.text) (string_bytes c.push_vendor.new.text) (string_bytes c.push_links.new.text)
    c.in_ok-push_cores.ensures c.in_ok-push_directories.ensures c.in_ok-push_vendor.ensures c.in_ok-push_links.ensures
