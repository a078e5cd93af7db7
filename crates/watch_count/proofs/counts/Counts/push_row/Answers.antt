-- Piece after piece.
use Rattle.std.proofs.Common.{◌++◌, string_bytes, codes, map, ap, ◌∙◌}
use Rattle.std.proofs.lemmas.Result.{on_ok_weaker}
use Rattle.schedule_text.specs.Grammar.{newline}
use Rattle.watch_count.specs.KeptCores.{numbers_after}
use Rattle.watch_count.specs.Totals.{all_cores, all_messages}
use Rattle.watch_count.specs.Csv.{cell, settings_cells, seed_cells, end_cell, core_cells, messages_cells, csv_row}
use Rattle.watch_count.proofs.Pieces.{grown8, went-well}
use Rattle.watch_count.proofs.counts.Counts.push_row.Goals as goal

pub returns : goal.returns
unfolding csv_row
returns c =
    let n = numbers_after c.self.inside.events in
    let t0 = string_bytes c.args.text.now in
    let t1 = string_bytes c.push_str.new.self in
    let t2 = string_bytes c.push_settings.new.text in
    let t3 = string_bytes c.push_seed.new.text in
    let t4 = string_bytes c.push_end_cell.new.text in
    let t5 = string_bytes c.push_cell.new.text in
    let t6 = string_bytes c.push_core_cells.new.text in
    let t7 = string_bytes c.push_messages_cells.new.text in
    let t8 = string_bytes c.push_str-2.new.self in
    let p1 = codes "1" in
    let p2 = settings_cells c.args.config.now in
    let p3 = seed_cells c.args.seed in
    let p4 = end_cell c.args.done in
    let p5 = cell c.args.events in
    let p6 = core_cells (all_cores (map n c.self.inside.cores.items)) in
    let p7 = messages_cells (all_messages c.self.inside.messages) in
    let p8 = newline in
    on_ok_weaker c.push_str-2.result
    (λ last. grown8 t0 t1 t2 t3 t4 t5 t6 t7 t8
    p1 p2 p3 p4 p5 p6 p7 p8
    c.in_ok-push_str.ensures.bytes
    c.in_ok-push_settings.ensures
    c.in_ok-push_seed.ensures
    c.in_ok-push_end_cell.ensures
    c.in_ok-push_cell.ensures
    (c.in_ok-push_core_cells.ensures
    ∙ ap (λ cs. t5 ++ core_cells cs) (c.all_cores.ensures ∙ ap (λ ks. all_cores (map n ks)) c.deref.ensures.value))
    (c.in_ok-push_messages_cells.ensures ∙ ap (λ m. t6 ++ messages_cells m) c.all_messages.ensures)
    last
    ∙ ap (λ s. string_bytes c.args.text.now ++ csv_row c.args.config.now c.args.seed c.args.done c.args.events s) c.self.view_is)
    (went-well c.push_str-2.result (string_bytes c.push_str-2.new.self)
    (string_bytes c.push_messages_cells.new.text ++ newline) (string_bytes c.push_messages_cells.new.text)
    c.push_str-2.ensures.bytes)
