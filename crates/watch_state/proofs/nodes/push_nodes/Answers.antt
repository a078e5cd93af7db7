-- The cores, the directories and the vendor.
use Rattle.std.proofs.Common.{ℕ, [], ◌∷◌, ◌++◌, ap, ◌∙◌, string_bytes}
use Rattle.std.specs.List.{flat_map}
use Rattle.image_load.specs.Start.{first_ram}
use Rattle.rules_tcc.specs.Seen.{numbers}
use Rattle.net_core.specs.Machine.{settings_of, start_of, world_of}
use Rattle.watch_state.specs.Cores.{core_records}
use Rattle.watch_state.specs.Directories.{directory_records}
use Rattle.watch_state.specs.Lines.{record_lines}
use Rattle.watch_state.specs.Records.{VendorIs}
use Rattle.watch_state.specs.Text.{node_records}
use Rattle.watch_state.proofs.Growing.{lines-then}
use Rattle.watch_state.proofs.nodes.push_nodes.Goals as goal

pub returns : goal.returns
unfolding node_records
returns c =
    let m = c.args.system.now in
    let sh = settings_of m in
    let w = world_of m in
    let cores = flat_map (λ k. core_records sh k (w.cores k)) (numbers sh.cores) in
    let dirs = flat_map (λ d. directory_records sh (first_ram (start_of m)) d (w.dirs d)) (numbers sh.dirs) in
    let vendor = VendorIs w.next ∷ [] in
    let t0 = string_bytes c.args.text.now in
    let t1 = string_bytes c.push_cores.new.text in
    let t2 = string_bytes c.push_directories.new.text in
    let t3 = string_bytes c.push_vendor.new.text in
    lines-then cores (dirs ++ vendor) t0 t1 t3 c.in_ok-push_cores.ensures
    (lines-then dirs vendor t1 t2 t3 c.in_ok-push_directories.ensures
    (c.in_ok-push_vendor.ensures ∙ ap (λ (t : ℕ). t2 ++ record_lines (VendorIs t ∷ [])) c.next_tid.ensures))
