-- Piece after piece.
use Rattle.std.proofs.Common.{◌++◌, string_bytes, codes}
use Rattle.std.proofs.lemmas.Result.{on_ok_weaker}
use Rattle.watch_count.proofs.Pieces.{grown6, went-well}
use Rattle.watch_count.proofs.cells.push_table_names.Goals as goal

pub returns : goal.returns
returns c =
    let t0 = string_bytes c.args.text.now in
    let t1 = string_bytes c.push_str.new.self in
    let t2 = string_bytes c.push_str-2.new.self in
    let t3 = string_bytes c.push_str-3.new.self in
    let t4 = string_bytes c.push_str-4.new.self in
    let t5 = string_bytes c.push_str-5.new.self in
    let t6 = string_bytes c.push_str-6.new.self in
    let p1 = codes ",attempts_begun,attempts_committed,attempts_violated,attempts_open,attempts_row,attempts_gaveup" in
    let p2 = codes ",instructions_executed,instructions_committed,instructions_lost,instructions_open" in
    let p3 = codes ",accesses_loads,accesses_stores,accesses_changes,accesses_misses,accesses_fills,accesses_overflows" in
    let p4 = codes ",evictions_clean,evictions_dirty,evictions_modified" in
    let p5 = codes ",phases_Running,phases_AwaitTid,phases_DoomedTid,phases_Probing" in
    let p6 = codes ",phases_Ready,phases_Overflowing,phases_Solo,phases_Halted" in
    on_ok_weaker c.push_str-6.result
    (λ last. grown6 t0 t1 t2 t3 t4 t5 t6 p1 p2 p3 p4 p5 p6
    c.in_ok-push_str.ensures.bytes
    c.in_ok-push_str-2.ensures.bytes
    c.in_ok-push_str-3.ensures.bytes
    c.in_ok-push_str-4.ensures.bytes
    c.in_ok-push_str-5.ensures.bytes
    last)
    (went-well c.push_str-6.result t6 (t5 ++ p6) t5 c.push_str-6.ensures.bytes)
