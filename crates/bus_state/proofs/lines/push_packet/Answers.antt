-- The words that the packet hasn't are dashes, whatever stands there.
use Rattle.std.proofs.Common.{◌++◌, ◌∙◌, ap, codes, string_bytes, sym}
use Rattle.rules_maps.specs.Masks.{masked}
use Rattle.schedule_text.specs.Grammar.{newline}
use Rattle.watch_trace.specs.Words.{field, value_words}
use Rattle.bus_trace.proofs.Lemmas.{values_masked}
use Rattle.bus_state.specs.Lines.{bus_record_line}
use Rattle.bus_state.proofs.Pieces.{ended}
use Rattle.bus_state.proofs.lines.push_packet.Goals as goal

pub returns : goal.returns
unfolding bus_record_line
returns c =
    let t = c.args.line.now in
    let t1 = string_bytes c.push_fields.new.text in
    ended c.push_str.result (string_bytes c.args.text.now) t1 (string_bytes c.push_values.new.text) (string_bytes c.push_str.new.self)
    (field (codes "packet ") t.line.0 ++ field (codes " mask ") t.mask.0) (value_words t.mask.0 (masked t.mask.0 t.words)) newline
    c.in_ok-push_fields.ensures
    (c.in_ok-push_values.ensures ∙ ap (λ x. t1 ++ x) (sym (values_masked t.mask.0 t.words))) c.push_str.ensures.bytes
