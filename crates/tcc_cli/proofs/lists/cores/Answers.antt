-- One core more as it is shown.
use Rattle.std.proofs.Common.{◌≡◌, ◌∙◌, map, subst, arith}
use Rattle.std.specs.List.{range_with_len}
use Rattle.report_text.specs.Plain.{shown_core}
use Rattle.rv_plain.specs.PlainState.{plain_of}
use Rattle.tcc_cli.proofs.Shown.{shown-more}
use Rattle.tcc_cli.proofs.lists.cores.Goals as goal

pub loop-c-preserved : goal.loop-c-preserved
unfolding plain_of
loop-c-preserved c =
    c.in_ok-push.ensures
    ∙ shown-more (λ core. shown_core ((plain_of c.args.plain.now).cores core)) c.loop-c.c c.loop-c.cores _ c.loop-c.invariant
    (λ i. record { ended = c.ended.ensures i; pc = c.pc.ensures i; regs = c.regs.ensures i; console = c.console.ensures i })

pub returns : goal.returns
returns c =
    let every : c.loop-c.c ≡ c.cores-c-end.result = omega (arith, c.loop-c-test.false, c.loop-c.auto.c-end) in
    subst (λ n. c.loop-c.cores ≡ map (λ core. shown_core ((plain_of c.args.plain.now).cores core)) (range_with_len 0 n))
    (every ∙ c.cores-c-end.ensures.value) c.loop-c.invariant
