-- Piece after piece.
use Rattle.std.proofs.Common.{◌++◌, string_bytes, codes, map, ap, ◌∙◌}
use Rattle.std.proofs.lemmas.Result.{on_ok_weaker}
use Rattle.std.specs.List.{flat_map}
use Rattle.schedule_text.specs.Grammar.{newline, config_line}
use Rattle.report_text.specs.Lines.{end_line, events_line}
use Rattle.watch_count.specs.KeptCores.{numbers_after}
use Rattle.watch_count.specs.Text.{tables_text, messages_text, entry_line, entry_conflict, count_text}
use Rattle.watch_count.proofs.Pieces.{grown8}
use Rattle.watch_count.proofs.counts.Counts.push_all.Goals as goal

pub returns : goal.returns
unfolding count_text
returns c =
    let n = numbers_after c.self.inside.events in
    let t0 = string_bytes c.args.text.now in
    let t1 = string_bytes c.push_str.new.self in
    let t2 = string_bytes c.push_config.new.text in
    let t3 = string_bytes c.push_tables.new.text in
    let t4 = string_bytes c.push_messages.new.text in
    let t5 = string_bytes c.push_lines.new.text in
    let t6 = string_bytes c.push_conflicts.new.text in
    let t7 = string_bytes c.push_end.new.text in
    let t8 = string_bytes c.push_events.new.text in
    let p1 = codes "tcc-count 1" ++ newline in
    let p2 = config_line c.args.config.now in
    let p3 = tables_text (map n c.self.inside.cores.items) in
    let p4 = messages_text c.self.inside.messages in
    let p5 = flat_map entry_line c.self.inside.lines.entries in
    let p6 = flat_map entry_conflict c.self.inside.conflicts.entries in
    let p7 = end_line c.args.done in
    let p8 = events_line c.args.events in
    on_ok_weaker c.push_events.result
    (λ last. grown8 t0 t1 t2 t3 t4 t5 t6 t7 t8
    p1 p2 p3 p4 p5 p6 p7 p8
    c.in_ok-push_str.ensures.bytes
    c.in_ok-push_config.ensures
    (c.in_ok-push_tables.ensures ∙ ap (λ ks. t2 ++ tables_text (map n ks)) c.deref.ensures.value)
    c.in_ok-push_messages.ensures
    c.in_ok-push_lines.ensures
    c.in_ok-push_conflicts.ensures
    c.in_ok-push_end.ensures
    last
    ∙ ap (λ s. string_bytes c.args.text.now ++ count_text c.args.config.now c.args.done c.args.events s) c.self.view_is)
    c.push_events.ensures
