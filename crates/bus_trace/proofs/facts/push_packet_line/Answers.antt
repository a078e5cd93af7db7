-- The words that the packet hasn't are dashes, whatever stands there.
use Rattle.std.proofs.Common.{◌++◌, append_assoc, codes, string_bytes, ap, sym, ◌∙◌}
use Rattle.std.proofs.lemmas.Result.{on_ok_weaker}
use Rattle.watch_trace.specs.Words.{field, value_words}
use Rattle.bus_trace.specs.Lines.{packet_line_words}
use Rattle.bus_trace.proofs.Values.{values_masked}
use Rattle.bus_trace.proofs.facts.push_packet_line.Goals as goal

pub returns : goal.returns
unfolding packet_line_words
returns c =
    let t = c.args.line.now in
    let old = string_bytes c.args.text.now in
    let a = field (codes " line ") t.line.0 in
    let b = field (codes " mask ") t.mask.0 in
    let v = value_words t.mask.0 t.words in
    on_ok_weaker c.push_values.result
    (λ last. last ∙ ap (λ x. x ++ v) c.in_ok-push_fields.ensures ∙ append_assoc old (a ++ b) v
    ∙ ap (λ x. old ++ ((a ++ b) ++ x)) (sym (values_masked t.mask.0 t.words)))
    c.push_values.ensures
