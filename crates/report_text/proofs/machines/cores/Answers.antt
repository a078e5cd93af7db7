-- One core more as it is shown.
use Rattle.std.proofs.Common.{◌≡◌, ◌∙◌, ◌<◌, ap, length, map, subst, arith}
use Rattle.std.specs.List.{range_with_len}
use Rattle.std.specs.Prelude.{get_or}
use Rattle.std.proofs.lemmas.List.FromFn.{get_or-map-range_with_len, length-map-range_with_len}
use Rattle.report_text.specs.Plain.{shown_core}
use Rattle.report_text.proofs.OneMore.{one-more}
use Rattle.report_text.proofs.machines.cores.Goals as goal

pub index-requires : goal.index-requires
index-requires g c =
    let many = length-map-range_with_len (λ core. ((g.M.ShownCores.plain c.args.machine.now).cores core).console) 0
    (g.M.ShownCores.count c.args.machine.now) in
    let given = ap length c.requires in
    let seen = ap length c.consoles.view_is in
    let cores = c.core_count-c-end.ensures in
    let at = c.loop-c-test.true in
    omega (arith, many, given, seen, cores, at)

pub loop-c-preserved : goal.loop-c-preserved
loop-c-preserved g c =
    let m = g.M.ShownCores.plain c.args.machine.now in
    let cores = c.core_count-c-end.ensures in
    let at = c.loop-c-test.true in
    let there : c.loop-c.c < g.M.ShownCores.count c.args.machine.now = omega (arith, cores, at) in
    let console : c.deref.result.now ≡ (m.cores c.loop-c.c).console =
    c.deref.ensures.value ∙ c.behind-consoles.view_is ∙ c.index.ensures
    ∙ ap (λ xs. get_or xs c.loop-c.c c.index.result.now) (c.consoles.view_is ∙ c.requires)
    ∙ get_or-map-range_with_len (λ core. (m.cores core).console) 0 (g.M.ShownCores.count c.args.machine.now) c.loop-c.c c.loop-c.c
    c.index.result.now there (omega arith) in
    c.in_ok-push.ensures
    ∙ one-more (λ core. shown_core (m.cores core)) c.loop-c.c c.loop-c.cores _ c.loop-c.invariant
    (λ i. record {
      ended = c.ended.ensures i;
      pc = (c.pc.ensures ∙ ap (λ l. l.pc) c.committed-check.ensures) i;
      regs = (c.regs.ensures ∙ ap (λ l. l.regs) c.committed-check.ensures) i;
      console = console i;
    })

pub returns : goal.returns
returns g c =
    let m = g.M.ShownCores.plain c.args.machine.now in
    let every : c.loop-c.c ≡ c.core_count-c-end.result = omega (arith, c.loop-c-test.false, c.loop-c.auto.c-end) in
    subst (λ n. c.loop-c.cores ≡ map (λ core. shown_core (m.cores core)) (range_with_len 0 n)) (every ∙ c.core_count-c-end.ensures)
    c.loop-c.invariant
