-- All cores, at their entries.
use Rattle.std.proofs.Common.{◌≡◌, ap, sym, subst, ◌∙◌, ◌+◌, arith}
use Rattle.machine_cores.proofs.Starts.{AreFirst, all-first, first-states, is-first, one-more_core}
use Rattle.machine_cores.proofs.counting.start_cores.Goals as goal

pub loop-c-preserved : goal.loop-c-preserved
loop-c-preserved c =
    let first = is-first _ _ _ _ _ c.config.ensures c.entry.ensures c.in_ok-start.ensures.config c.in_ok-start.ensures.id
    c.in_ok-start.ensures.state in
    subst (AreFirst c.args.code.now (c.loop-c.c + 1)) (sym c.in_ok-push.ensures) (one-more_core _ _ _ _ c.loop-c.invariant first)

pub returns-clause-cores : goal.returns-clause-cores
returns-clause-cores c =
    let every : c.loop-c.c ≡ c.cores-c-end.result = omega (arith, c.loop-c-test.false, c.loop-c.auto.c-end) in
    all-first _ _ _ (every ∙ c.cores-c-end.ensures.value ∙ ap (λ s. s.cores) c.config.ensures) c.loop-c.invariant

pub returns-clause-start : goal.returns-clause-start
returns-clause-start c = first-states _ _ _ c.loop-c.invariant
