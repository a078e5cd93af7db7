-- The table has as many outcomes as states are told.
use Rattle.std.proofs.Common.{◌≡◌, ◌++◌, ◌∙◌, ap, append_assoc, arith, codes, length}
use Rattle.std.proofs.lemmas.Result.{on_ok_weaker}
use Rattle.std.specs.String.{string_bytes}
use Rattle.text_outcomes.specs.Table.{count_lines, first_lines}
use Rattle.report_text.specs.Lines.{newline}
use Rattle.run_outcomes.specs.declared.outcomes.Results.{Results}
use Rattle.text_outcomes.proofs.Parts.{outcomes-count}
use Rattle.text_outcomes.proofs.table.push_head.Goals as goal

pub returns : goal.returns
unfolding first_lines
returns c =
    let t = c.args.table.now in
    let e = t.explored.now in
    let r = t.results.now in
    let counts = count_lines r.done (length e.states) e.transactions (length r.firsts) in
    let count = outcomes-count e r in
    let done = ap (λ (x : Results). x.done) c.results.view_is in
    let states : c.len.result ≡ length e.states = grind arith in
    let transactions : c.transactions.result ≡ e.transactions = grind arith in
    let outcomes : c.len-2.result ≡ length r.firsts = grind arith in
    let pushed = rw (done, states, transactions, outcomes) at c.push_counts.ensures in
    rw count
    (on_ok_weaker c.push_counts.result
    (λ is. is ∙ ap (λ xs. xs ++ counts) c.in_ok-push_str.ensures.bytes
    ∙ append_assoc (string_bytes c.args.text.now) (codes "tcc-outcomes 1" ++ newline) counts)
    pushed)
