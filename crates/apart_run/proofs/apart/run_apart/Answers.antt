-- The logs are those of this machine's nodes, and fit one another.
use Rattle.std.proofs.Common.{IfOk, Result, Ok, Err, subst}
use Rattle.image_load.specs.Contents.{started}
use Rattle.apart_run.specs.Joined.{IsMergedRun}
use Rattle.apart_run.proofs.Merging.{are-logs, merged-run}
use Rattle.apart_run.proofs.apart.run_apart.Goals as goal

pub merge-requires : goal.merge-requires
merge-requires g c = record {
  logs = are-logs c.in_ok-nodes.nodes.code c.in_ok-logs.logs.config c.in_ok-logs.logs.by_node c.in_ok-logs.ensures.config
      c.in_ok-logs.ensures.fits;
}

if-ok : {A E : Type 0} {P Q : A → Type 0} (r : Result A E) → IfOk r P → ((x : A) → P x → Q x) → IfOk r Q
if-ok (Ok x) p f = f x p
if-ok (Err e) p f = tt

pub returns : goal.returns
returns g c =
    if-ok c.merge.result c.merge.ensures.merged
    (λ s m. subst (λ d. IsMergedRun (started d) c.args.plan.now.steps s.events) c.in_ok-nodes.ensures.code
    (merged-run c.in_ok-nodes.nodes.code c.in_ok-logs.logs.config c.args.plan.now.steps c.in_ok-logs.logs.by_node s.events
    c.in_ok-logs.ensures.config c.in_ok-logs.ensures.fits c.in_ok-logs.ensures.few m))
