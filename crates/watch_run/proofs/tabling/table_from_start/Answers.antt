-- From the names to the last row.
use Rattle.std.proofs.Common.{◌∙◌, List, [], ap, arith, refl}
use Rattle.std.proofs.lemmas.Result.{IfErr-weaker, IfOk-weaker, err_from_is_err_and}
use Rattle.tcc_world.specs.Page.{Written}
use Rattle.rules_maps.specs.Nodes.{Event}
use Rattle.net_core.specs.Machine.{start_of, world_of}
use Rattle.watch_count.specs.Counts.{nothing_counted}
use Rattle.watch_run.proofs.Leading.{StartsAt}
use Rattle.watch_run.proofs.Tabled.{rows-stopped, rows-written, table-last-cut, table-names-cut, table-none, table-open, table-stopped}
use Rattle.watch_run.proofs.Tabled.{table-whole}
use Rattle.watch_run.proofs.Tallies.{counted-none}
use Rattle.watch_run.proofs.tabling.table_from_start.Goals as goal

pub returns-in-Err-clause-broken : goal.returns-in-Err-clause-broken
returns-in-Err-clause-broken g c = table-none _ _ _ _

pub returns-in_err-write_names-clause-broken : goal.returns-in_err-write_names-clause-broken
returns-in_err-write_names-clause-broken g c =
    let p = err_from_is_err_and c.from_residual.result c.from_residual.ensures.1 in
    rw (p.1, p.2) (table-names-cut c.args.rows _ _ (g.O.Sink.page c.args.out.now) (g.O.Sink.page c.write_names.new.out)
    c.in_err-write_names.field-0.0 c.in_err-write_names.ensures.cut)

pub write_rows-requires-clause-few : goal.write_rows-requires-clause-few
write_rows-requires-clause-few g c = omega (arith, c.requires.none, c.requires.few)

pub returns-in_err-write_rows-clause-broken : goal.returns-in_err-write_rows-clause-broken
returns-in_err-write_rows-clause-broken g c =
    let m = c.args.system.now in
    let starts : StartsAt m.cores.code m = record { code = refl; first = c.requires.first } in
    let none = counted-none m.cores.code m c.in-Ok.counts starts c.requires.none c.requires.settled
    (c.in-Ok.ensures ∙ ap (λ s. nothing_counted s.cores) c.config.ensures) in
    let more : List Event = g.E.Events.coming c.args.events.now (start_of m) (world_of m) in
    let output : Written = record {
      before = g.O.Sink.page c.write_names.new.out;
      after = g.O.Sink.page c.write_rows.new.out;
    } in
    let p = err_from_is_err_and c.from_residual-in_err-write_rows.result c.from_residual-in_err-write_rows.ensures.1 in
    rw (p.1, p.2) (table-stopped c.args.rows _ _ (g.O.Sink.page c.args.out.now) (g.O.Sink.page c.write_names.new.out)
    (g.O.Sink.page c.write_rows.new.out) c.in_err-write_rows.field-0.0 c.in_ok-write_names.ensures.written
    c.write_names.ensures.faults_stay
    (rows-stopped m.cores.code c.args.rows m c.in-Ok.counts more output c.in_err-write_rows.field-0.0 none
    c.in_err-write_rows.ensures.broken))

pub returns-clause-table : goal.returns-clause-table
returns-clause-table g c =
    let m = c.args.system.now in
    let starts : StartsAt m.cores.code m = record { code = refl; first = c.requires.first } in
    let none = counted-none m.cores.code m c.in-Ok.counts starts c.requires.none c.requires.settled
    (c.in-Ok.ensures ∙ ap (λ s. nothing_counted s.cores) c.config.ensures) in
    let more : List Event = g.E.Events.coming c.args.events.now (start_of m) (world_of m) in
    let open_here = table-open c.args.rows _ _ (g.O.Sink.page c.args.out.now) (g.O.Sink.page c.write_names.new.out)
    (g.O.Sink.page c.write_rows.new.out) c.in_ok-write_names.ensures.written
    (rows-written m.cores.code c.args.rows m c.in-Ok.counts more (g.O.Sink.page c.write_names.new.out).bytes
    (g.O.Sink.page c.write_rows.new.out).bytes none c.in_ok-write_rows.ensures.written) in
    IfOk-weaker c.write_last.result _ _
    (λ done h. table-whole c.args.system.now.cores.code c.args.rows _ c.write_rows.new.system c.write_rows.new.counts done
    (g.O.Sink.page c.args.out.now) (g.O.Sink.page c.write_rows.new.out) (g.O.Sink.page c.write_last.new.out) c.requires.allowed
    (c.in_ok-write_rows.ensures.counted.counted m.cores.code [] none) open_here h.0 h.1)
    c.write_last.ensures.written

pub returns-clause-broken : goal.returns-clause-broken
returns-clause-broken g c =
    let m = c.args.system.now in
    let starts : StartsAt m.cores.code m = record { code = refl; first = c.requires.first } in
    let none = counted-none m.cores.code m c.in-Ok.counts starts c.requires.none c.requires.settled
    (c.in-Ok.ensures ∙ ap (λ s. nothing_counted s.cores) c.config.ensures) in
    let more : List Event = g.E.Events.coming c.args.events.now (start_of m) (world_of m) in
    let open_here = table-open c.args.rows _ _ (g.O.Sink.page c.args.out.now) (g.O.Sink.page c.write_names.new.out)
    (g.O.Sink.page c.write_rows.new.out) c.in_ok-write_names.ensures.written
    (rows-written m.cores.code c.args.rows m c.in-Ok.counts more (g.O.Sink.page c.write_names.new.out).bytes
    (g.O.Sink.page c.write_rows.new.out).bytes none c.in_ok-write_rows.ensures.written) in
    let before = c.write_names.ensures.faults_stay in
    let between = c.in_ok-write_rows.ensures.faults_stay in
    IfErr-weaker c.write_last.result _ _
    (λ b h. table-last-cut c.args.system.now.cores.code c.args.rows _ c.write_rows.new.system c.write_rows.new.counts h.0
    (g.O.Sink.page c.args.out.now) (g.O.Sink.page c.write_rows.new.out) (g.O.Sink.page c.write_last.new.out) b c.requires.allowed
    (c.in_ok-write_rows.ensures.counted.counted m.cores.code [] none) open_here (omega (arith, before, between)) h.1 h.2)
    c.write_last.ensures.cut
