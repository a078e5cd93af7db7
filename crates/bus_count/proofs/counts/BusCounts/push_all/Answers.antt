-- Piece after piece.
use Rattle.std.proofs.Common.{◌++◌, string_bytes, codes, ap, ◌∙◌}
use Rattle.std.proofs.lemmas.Result.{on_ok_weaker}
use Rattle.std.specs.List.{flat_map}
use Rattle.schedule_text.specs.Grammar.{newline}
use Rattle.report_text.specs.Lines.{end_line, events_line}
use Rattle.watch_count.specs.Text.{tables_text, entry_line, entry_conflict}
use Rattle.watch_count.proofs.Lemmas.{grown8}
use Rattle.bus_trace.specs.Lines.{bus_config_line}
use Rattle.bus_count.specs.Text.{bus_count_text, packets_line}
use Rattle.bus_count.proofs.counts.BusCounts.push_all.Goals as goal

pub returns : goal.returns
unfolding bus_count_text
returns c =
    let s = c.args.self.now in
    let t0 = string_bytes c.args.text.now in
    let t1 = string_bytes c.push_str.new.self in
    let t2 = string_bytes c.push_bus_config.new.text in
    let t3 = string_bytes c.push_tables.new.text in
    let t4 = string_bytes c.push_packets.new.text in
    let t5 = string_bytes c.push_lines.new.text in
    let t6 = string_bytes c.push_conflicts.new.text in
    let t7 = string_bytes c.push_end.new.text in
    let t8 = string_bytes c.push_events.new.text in
    let p1 = codes "tcc-bus-count 1" ++ newline in
    let p2 = bus_config_line c.args.config.now in
    let p3 = tables_text s.common.cores in
    let p4 = packets_line s.packets in
    let p5 = flat_map entry_line s.common.lines in
    let p6 = flat_map entry_conflict s.common.conflicts in
    let p7 = end_line c.args.done in
    let p8 = events_line c.args.events in
    on_ok_weaker c.push_events.result
    (λ last. grown8 t0 t1 t2 t3 t4 t5 t6 t7 t8
    p1 p2 p3 p4 p5 p6 p7 p8
    c.in_ok-push_str.ensures.bytes
    c.in_ok-push_bus_config.ensures
    (c.in_ok-push_tables.ensures ∙ ap (λ x. t2 ++ tables_text x.common.cores) c.self.view_is)
    (c.in_ok-push_packets.ensures ∙ ap (λ x. t3 ++ packets_line x.packets) c.self.view_is)
    (c.in_ok-push_lines.ensures ∙ ap (λ x. t4 ++ flat_map entry_line x.common.lines) c.self.view_is)
    (c.in_ok-push_conflicts.ensures ∙ ap (λ x. t5 ++ flat_map entry_conflict x.common.conflicts) c.self.view_is)
    c.in_ok-push_end.ensures
    last)
    c.push_events.ensures
