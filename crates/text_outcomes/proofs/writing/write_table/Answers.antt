-- The parts make the table.
use Rattle.std.proofs.Common.{◌≡◌, ◌∙◌, ◌++◌, ap}
use Rattle.std.proofs.lemmas.Result.{IfErr-weaker, on_ok_weaker}
use Rattle.std.specs.String.{string_bytes}
use Rattle.text_outcomes.specs.Sources.{table_of}
use Rattle.text_outcomes.specs.Table.{head_text}
use Rattle.text_outcomes.proofs.Outcomes.{table-broken, table-put}
use Rattle.text_outcomes.proofs.Parts.{table-some}
use Rattle.text_outcomes.proofs.Put.{broken-later, cut-none, put-whole}
use Rattle.text_outcomes.proofs.writing.write_table.Goals as goal

pub returns-in-Err-clause-broken : goal.returns-in-Err-clause-broken
returns-in-Err-clause-broken g c = cut-none _ _ (table-some _ _)

pub returns-in-Ok-put_outcomes-clause-written : goal.returns-in-Ok-put_outcomes-clause-written
returns-in-Ok-put_outcomes-clause-written g c =
    let t = table_of c.args.table.now in
    let head : string_bytes c.push_head.new.text ≡ head_text t =
    c.in-Ok.ensures ∙ ap (λ xs. xs ++ head_text t) c.new-held.ensures.bytes in
    on_ok_weaker c.put_tail.result
    (put-whole _ _ _ _ _ (table-put c.args.table.now.tell t _ _ _ _ head c.in-Ok-put_outcomes.ensures.put))
    c.put_tail.ensures.written

pub returns-in-Ok-put_outcomes-clause-broken : goal.returns-in-Ok-put_outcomes-clause-broken
returns-in-Ok-put_outcomes-clause-broken g c =
    let t = table_of c.args.table.now in
    let head : string_bytes c.push_head.new.text ≡ head_text t =
    c.in-Ok.ensures ∙ ap (λ xs. xs ++ head_text t) c.new-held.ensures.bytes in
    IfErr-weaker c.put_tail.result _ _ (λ why h. broken-later _ _ _ _ _ _ _ _ why
    (table-put c.args.table.now.tell t _ _ _ _ head c.in-Ok-put_outcomes.ensures.put) c.in-Ok-put_outcomes.ensures.faults_stay h)
    c.put_tail.ensures.broken

pub returns-clause-broken : goal.returns-clause-broken
returns-clause-broken g c =
    let t = table_of c.args.table.now in
    let head : string_bytes c.push_head.new.text ≡ head_text t =
    c.in-Ok.ensures ∙ ap (λ xs. xs ++ head_text t) c.new-held.ensures.bytes in
    table-broken c.args.table.now.tell t _ _ c.in-Err-put_outcomes.broken head c.in-Err-put_outcomes.ensures.broken
