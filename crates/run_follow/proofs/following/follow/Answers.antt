-- From the machine at its start.
use Rattle.std.proofs.Common.{◌++◌, ◌≡◌, ◌∙◌, ap, arith, length, map, sym}
use Rattle.std.proofs.lemmas.List.{length-map}
use Rattle.image_load.specs.Contents.{started}
use Rattle.rv_code.specs.Machine.{program}
use Rattle.rv_plain.specs.PlainState.{order_of}
use Rattle.tcc_msg.specs.Plain.{event_of}
use Rattle.rules_tcc.specs.Step.{run, run_from}
use Rattle.net_core.specs.Machine.{history_of, start_of}
use Rattle.run_follow.specs.Following.{followed_from}
use Rattle.run_follow.proofs.Runs.{followed-few}
use Rattle.run_follow.proofs.following.follow.Goals as goal

pub returns-clause-ran : goal.returns-clause-ran
unfolding run started
returns-clause-ran c =
    let orders = map order_of c.args.orders.now in
    let code = sym c.in_ok-refined.ensures.code in
    let first = sym c.in_ok-refined.ensures.start in
    (λ i. run_from (started (code i)).settings (program (started (code i))) (followed_from (started (code i)) orders c.args.most (first i))
    (first i)) ∙ c.in_ok-go_on.ensures.took.ran

pub returns-clause-few : goal.returns-clause-few
returns-clause-few c =
    let m = c.in_ok-refined.refined.machine in
    let es = followed_from (start_of m) (map order_of c.args.orders.now) c.args.most (history_of m) in
    let are : map event_of c.go_on.new.refined.taken ≡ es =
    c.in_ok-go_on.ensures.took.taken ∙ ap (λ l. map event_of l ++ es) c.in_ok-refined.ensures.taken in
    let same = ap length are in
    let mapped = length-map c.go_on.new.refined.taken event_of in
    let few = followed-few (start_of m) (map order_of c.args.orders.now) c.args.most (history_of m) in
    omega (arith, same, mapped, few)
