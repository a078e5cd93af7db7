-- What is counted of the machine at its start is what is counted of what was loaded.
use Rattle.std.proofs.Common.{◌∙◌, ◌≤◌, List, ap, length, subst, sym}
use Rattle.std.proofs.lemmas.Result.{IfOk-weaker}
use Rattle.image_load.specs.Contents.{Contents, started}
use Rattle.tcc_base.specs.Settings.{IsAllowed}
use Rattle.rules_maps.specs.Nodes.{Event}
use Rattle.rules_riscv.specs.Starting.{at_start}
use Rattle.watch_run.proofs.Leading.{StartsAt, coming-first, counted-there}
use Rattle.watch_run.proofs.counting.count.Goals as goal

pub count_from_start-requires-clause-allowed : goal.count_from_start-requires-clause-allowed
count_from_start-requires-clause-allowed g c =
    subst (λ (k : Contents). IsAllowed k.settings) (sym c.in_ok-system.ensures.code)
    (subst IsAllowed c.config.ensures c.settings_are_allowed.ensures)

pub count_from_start-requires-clause-first : goal.count_from_start-requires-clause-first
count_from_start-requires-clause-first g c =
    c.in_ok-system.ensures.start ∙ ap (λ (k : Contents). at_start (started k)) (sym c.in_ok-system.ensures.code)

pub count_from_start-requires-clause-enough : goal.count_from_start-requires-clause-enough
count_from_start-requires-clause-enough g c =
    let starts : StartsAt c.args.loaded.now c.in_ok-system.system = record {
      code = c.in_ok-system.ensures.code;
      first = c.in_ok-system.ensures.start;
    } in
    subst (λ (es : List Event). length es ≤ c.args.most)
    (sym (coming-first (g.E.Events.coming c.args.events.now) c.args.loaded.now c.in_ok-system.system starts)) c.requires.enough

pub returns : goal.returns
returns g c =
    let starts : StartsAt c.args.loaded.now c.in_ok-system.system = record {
      code = c.in_ok-system.ensures.code;
      first = c.in_ok-system.ensures.start;
    } in
    let come = coming-first (g.E.Events.coming c.args.events.now) c.args.loaded.now c.in_ok-system.system starts in
    IfOk-weaker c.count_from_start.result _ _
    (λ k h. counted-there c.args.loaded.now c.in_ok-system.system _ _ k.done k.events k.counts starts come h)
    c.count_from_start.ensures
