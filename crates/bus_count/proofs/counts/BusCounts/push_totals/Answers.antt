-- Piece after piece.
use Rattle.std.proofs.Common.{◌++◌, string_bytes, codes, ap, ◌∙◌}
use Rattle.std.proofs.lemmas.Result.{on_ok_weaker}
use Rattle.schedule_text.specs.Grammar.{newline}
use Rattle.watch_count.specs.Totals.{all_cores}
use Rattle.watch_count.specs.Csv.{cell, seed_cells, end_cell, core_cells}
use Rattle.watch_count.proofs.Lemmas.{grown9, went-well}
use Rattle.bus_count.specs.Csv.{bus_csv_text, bus_names, bus_settings_cells, packets_cells}
use Rattle.bus_count.proofs.counts.BusCounts.push_totals.Goals as goal

pub returns : goal.returns
unfolding bus_csv_text
returns c =
    let s = c.args.self.now in
    let t0 = string_bytes c.args.text.now in
    let t1 = string_bytes c.push_names.new.text in
    let t2 = string_bytes c.push_str.new.self in
    let t3 = string_bytes c.push_settings.new.text in
    let t4 = string_bytes c.push_seed.new.text in
    let t5 = string_bytes c.push_end_cell.new.text in
    let t6 = string_bytes c.push_cell.new.text in
    let t7 = string_bytes c.push_table_cells.new.text in
    let t8 = string_bytes c.push_packets_cells.new.text in
    let t9 = string_bytes c.push_str-2.new.self in
    let p1 = bus_names in
    let p2 = newline ++ codes "1" in
    let p3 = bus_settings_cells c.args.config.now in
    let p4 = seed_cells c.args.seed in
    let p5 = end_cell c.args.done in
    let p6 = cell c.args.events in
    let p7 = core_cells (all_cores s.common.cores) in
    let p8 = packets_cells s.packets in
    let p9 = newline in
    on_ok_weaker c.push_str-2.result
    (λ last. grown9 t0 t1 t2 t3 t4 t5 t6 t7 t8 t9
    p1 p2 p3 p4 p5 p6 p7 p8 p9
    c.in_ok-push_names.ensures
    c.in_ok-push_str.ensures.bytes
    c.in_ok-push_settings.ensures
    c.in_ok-push_seed.ensures
    c.in_ok-push_end_cell.ensures
    c.in_ok-push_cell.ensures
    (c.in_ok-push_table_cells.ensures ∙ ap (λ x. t6 ++ core_cells (all_cores x.common.cores)) c.self.view_is)
    (c.in_ok-push_packets_cells.ensures ∙ ap (λ x. t7 ++ packets_cells x.packets) c.self.view_is)
    last)
    (went-well c.push_str-2.result (string_bytes c.push_str-2.new.self) (t8 ++ newline) t8 c.push_str-2.ensures.bytes)
