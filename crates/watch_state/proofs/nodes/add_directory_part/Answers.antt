-- The directory's state is that of the machine, which began with this code.
use Rattle.std.proofs.Common.{◌≡◌, map}
use Rattle.image_load.specs.Contents.{started}
use Rattle.image_load.specs.Start.{first_ram}
use Rattle.directory.specs.Data.{dir_of}
use Rattle.net_core.specs.Machine.{settings_of, start_of, world_of}
use Rattle.watch_state.specs.Directories.{directory_part}
use Rattle.watch_state.proofs.nodes.add_directory_part.Goals as goal

pub returns : goal.returns
returns c =
    let m = c.args.system.now in
    let d = c.args.dir.0 in
    let known = map (λ l. l.0) c.args.known.now in
    let words = map (λ l. l.0) c.args.words.now in
    let first = first_ram (start_of m) in
    let code = c.code.result.now in
    let same : directory_part code.settings (first_ram (started code)) d known words (dir_of first c.directory.result.now)
    ≡ directory_part (settings_of m) first d known words ((world_of m).dirs d) =
    λ i. directory_part (c.code.ensures i).settings (first_ram (started (c.code.ensures i))) d known words (c.directory.ensures.state i) in
    rw same at (c.add_part.ensures first)
