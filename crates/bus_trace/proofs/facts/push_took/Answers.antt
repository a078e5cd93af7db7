-- Piece after piece.
use Rattle.std.proofs.Common.{◌≡◌, ℕ, List, ◌++◌, append_assoc, codes, string_bytes, ap, ◌∙◌, OnOk, Result, Ok, Err}
use Rattle.std.specs.Prelude.{is_ok, if◌then◌else◌}
use Rattle.std.proofs.lemmas.Result.{on_ok_weaker}
use Rattle.schedule_text.specs.Grammar.{newline}
use Rattle.watch_trace.specs.Words.{field}
use Rattle.bus_trace.specs.Lines.{bus_fact_line}
use Rattle.bus_trace.proofs.facts.push_took.Goals as goal

went-well : {T E : Type 0} (r : Result T E) (now good bad : List ℕ) → now ≡ (if is_ok r then good else bad) → OnOk r (now ≡ good)
went-well (Ok v) now good bad e = e
went-well (Err v) now good bad e = tt

pub returns : goal.returns
unfolding bus_fact_line
returns c =
    let old = string_bytes c.args.text.now in
    let a = codes " took Packet" in
    let b = field (codes " tid ") c.args.tid.0 in
    let t2 = string_bytes c.push_field.new.text in
    on_ok_weaker c.push_str-2.result
    (λ last. last
    ∙ ap (λ x. x ++ newline) (c.in_ok-push_field.ensures ∙ ap (λ x. x ++ b) c.in_ok-push_str.ensures.bytes ∙ append_assoc old a b)
    ∙ append_assoc old (a ++ b) newline)
    (went-well c.push_str-2.result (string_bytes c.push_str-2.new.self) (t2 ++ newline) t2 c.push_str-2.ensures.bytes)
