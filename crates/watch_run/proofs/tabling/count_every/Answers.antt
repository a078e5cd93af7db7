-- The table of the machine at its start is that of what was loaded.
use Rattle.std.proofs.Common.{◌∙◌, ◌≤◌, List, ap, length, subst, sym}
use Rattle.std.proofs.lemmas.Result.{IfErr-weaker, IfOk-weaker}
use Rattle.image_load.specs.Contents.{Contents, started}
use Rattle.tcc_base.specs.Settings.{IsAllowed}
use Rattle.tcc_world.specs.Page.{Written}
use Rattle.rules_maps.specs.Nodes.{Event}
use Rattle.rules_riscv.specs.Starting.{at_start}
use Rattle.watch_run.proofs.Leading.{StartsAt, coming-first}
use Rattle.watch_run.proofs.Tabled.{broken-there, table-none, table-there}
use Rattle.watch_run.proofs.tabling.count_every.Goals as goal

pub returns-in-Err-clause-broken : goal.returns-in-Err-clause-broken
returns-in-Err-clause-broken g c = table-none _ _ _ _

pub table_from_start-requires-clause-allowed : goal.table_from_start-requires-clause-allowed
table_from_start-requires-clause-allowed g c =
    subst (λ (k : Contents). IsAllowed k.settings) (sym c.in-Ok.ensures.code)
    (subst IsAllowed c.config.ensures c.settings_are_allowed.ensures)

pub table_from_start-requires-clause-first : goal.table_from_start-requires-clause-first
table_from_start-requires-clause-first g c = c.in-Ok.ensures.start ∙ ap (λ (k : Contents). at_start (started k)) (sym c.in-Ok.ensures.code)

pub table_from_start-requires-clause-enough : goal.table_from_start-requires-clause-enough
table_from_start-requires-clause-enough g c =
    let starts : StartsAt c.args.loaded.now c.in-Ok.system = record { code = c.in-Ok.ensures.code; first = c.in-Ok.ensures.start } in
    subst (λ (es : List Event). length es ≤ c.args.most)
    (sym (coming-first (g.E.Events.coming c.args.events.now) c.args.loaded.now c.in-Ok.system starts)) c.requires.enough

pub returns-in-Ok-clause-table : goal.returns-in-Ok-clause-table
returns-in-Ok-clause-table g c =
    let starts : StartsAt c.args.loaded.now c.in-Ok.system = record { code = c.in-Ok.ensures.code; first = c.in-Ok.ensures.start } in
    let come = coming-first (g.E.Events.coming c.args.events.now) c.args.loaded.now c.in-Ok.system starts in
    IfOk-weaker c.table_from_start.result _ _
    (λ done h. table-there c.args.loaded.now c.args.rows _ _ c.in-Ok.system.cores.code _ _ done starts.code come h)
    c.table_from_start.ensures.table

pub returns-in-Ok-clause-broken : goal.returns-in-Ok-clause-broken
returns-in-Ok-clause-broken g c =
    let starts : StartsAt c.args.loaded.now c.in-Ok.system = record { code = c.in-Ok.ensures.code; first = c.in-Ok.ensures.start } in
    let come = coming-first (g.E.Events.coming c.args.events.now) c.args.loaded.now c.in-Ok.system starts in
    let output : Written = record { before = g.O.Sink.page c.args.out.now; after = g.O.Sink.page c.table_from_start.new.out } in
    IfErr-weaker c.table_from_start.result _ _
    (λ b h. broken-there c.args.loaded.now c.args.rows _ _ c.in-Ok.system.cores.code output b starts.code come h)
    c.table_from_start.ensures.broken
