-- The events that the machine took are those of the file's schedule.
use Rattle.std.proofs.Common.{◌≡◌, ◌∙◌, List, None, ap, map, subst, sym}
use Rattle.image_load.specs.Contents.{started}
use Rattle.rules_maps.specs.Nodes.{Event}
use Rattle.tcc_msg.specs.Plain.{event_of}
use Rattle.tcc_cli.proofs.Watched.{all-stopped-by, all-told-by}
use Rattle.tcc_cli.specs.Looks.{AreFirst}
use Rattle.tcc_words.specs.Fields.{count_limit}
use Rattle.watch_run.specs.Tables.{IsTableBegun, table_text}
use Rattle.watch_run.specs.declared.tabling.Rows.{Rows}
use Rattle.tcc_cli.proofs.totals.totals_by_schedule.Goals as goal

pub returns-clause-told : goal.returns-clause-told
returns-clause-told g c =
    let s = started c.args.loaded.now in
    let rows : Rows = record { every = c.args.every; seed = None } in
    all-told-by s (λ (es : List Event). es ≡ map event_of c.taken.result.now)
    (AreFirst c.args.config.now c.args.bytes.now count_limit) (λ d es h. table_text rows s d es)
    (record { before = g.O.Sink.page c.args.out.now; after = g.O.Sink.page c.totals_listed.new.out }) c.totals_listed.result
    (λ es e. subst (AreFirst c.args.config.now c.args.bytes.now count_limit) (sym (e ∙ ap (map event_of) c.taken.ensures.taken))
    c.in-Ok.ensures.first) c.totals_listed.ensures.told

pub returns-clause-stopped : goal.returns-clause-stopped
returns-clause-stopped g c =
    let s = started c.args.loaded.now in
    let rows : Rows = record { every = c.args.every; seed = None } in
    all-stopped-by s (λ (es : List Event). es ≡ map event_of c.taken.result.now)
    (AreFirst c.args.config.now c.args.bytes.now count_limit) (λ d es h. table_text rows s d es) (IsTableBegun rows s) _
    (record { before = g.O.Sink.page c.args.out.now; after = g.O.Sink.page c.totals_listed.new.out }) c.totals_listed.result
    (λ es e. subst (AreFirst c.args.config.now c.args.bytes.now count_limit) (sym (e ∙ ap (map event_of) c.taken.ensures.taken))
    c.in-Ok.ensures.first) c.totals_listed.ensures.stopped
