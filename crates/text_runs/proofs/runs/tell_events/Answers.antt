-- The next event is told, and its text is held or written.
use Rattle.std.proofs.Common.{◌≡◌, false, rules, true}
use Rattle.std.specs.String.{string_bytes}
use Rattle.text_runs.proofs.Bytes.{rose-later}
use Rattle.text_runs.proofs.Telling.{telling-all, telling-cut, telling-more, telling-none, telling-part, telling-put}
use Rattle.text_runs.proofs.runs.tell_events.Goals as goal

pub loop-number-init : goal.loop-number-init
loop-number-init g c =
    telling-none (g.R.TextRun.can c.args.run.now) (g.R.TextRun.leads c.args.run.now c.args.run.now) c.args.from
    (g.R.TextRun.left c.args.run.now) (string_bytes c.args.held.now) (g.O.Sink.page c.args.out.now).bytes
    (g.O.Sink.page c.args.out.now).faults
    c.requires.can (g.met.R.TextRun.stays c.args.run.now)

pub returns-in-Ok-false-clause-told : goal.returns-in-Ok-false-clause-told
returns-in-Ok-false-clause-told g c =
    let none : c.in-Ok-false.field-0 ≡ false = search rules in
    let told = rw none at c.in-Ok-false.ensures.tells in
    telling-all _ _ _ (g.R.TextRun.leads c.loop-number.run c.tell_next.new.self) _ _ _ _ _ _ _ _ _ _ _ _
    (g.met.R.TextRun.goes_on c.args.run.now c.loop-number.run c.tell_next.new.self) c.loop-number.invariant told.0 told.1 told.2

pub returns-in-Err-clause-stopped : goal.returns-in-Err-clause-stopped
returns-in-Err-clause-stopped g c =
    telling-part _ (g.R.TextRun.leads c.args.run.now) c.loop-number.run _ _ _ _ _ _ _ _ _ _ c.loop-number.invariant

pub returns-in-Err-put_piece-clause-stopped : goal.returns-in-Err-put_piece-clause-stopped
returns-in-Err-put_piece-clause-stopped g c =
    let one : c.in-Ok-true.field-0 ≡ true = search rules in
    let told = rw one at c.in-Ok-true.ensures.tells in
    let more = telling-more _ (g.R.TextRun.can c.tell_next.new.self) _ (g.R.TextRun.leads c.args.run.now c.tell_next.new.self)
    (g.R.TextRun.leads c.loop-number.run c.tell_next.new.self) c.loop-number.number c.args.from _ _ _ _ _ _ _ _ _ _ told.0
    (g.met.R.TextRun.goes_on c.args.run.now c.loop-number.run c.tell_next.new.self) c.loop-number.invariant
    c.in-Ok-true.ensures.can_again told.1 (c.in-Ok-true.ensures.fewer one) told.2 in
    let cut = c.in-Err-put_piece.ensures.cut in (
      telling-cut _ (g.R.TextRun.leads c.args.run.now) c.tell_next.new.self _ _ _ _ _ _ _ _ _ _ _ cut.0 more cut.2,
      rose-later _ _ _ c.loop-number.invariant.faults_stay c.in-Err-put_piece.ensures.cause,
    )

pub loop-number-preserved : goal.loop-number-preserved
loop-number-preserved g c =
    let one : c.in-Ok-true.field-0 ≡ true = search rules in
    let told = rw one at c.in-Ok-true.ensures.tells in
    let more = telling-more _ (g.R.TextRun.can c.tell_next.new.self) _ (g.R.TextRun.leads c.args.run.now c.tell_next.new.self)
    (g.R.TextRun.leads c.loop-number.run c.tell_next.new.self) c.loop-number.number c.args.from _ _ _ _ _ _ _ _ _ _ told.0
    (g.met.R.TextRun.goes_on c.args.run.now c.loop-number.run c.tell_next.new.self) c.loop-number.invariant
    c.in-Ok-true.ensures.can_again told.1 (c.in-Ok-true.ensures.fewer one) told.2 in
    telling-put _ _ _ _ _ _ _ _ _ _ _ _ _ _ _ more c.in-Ok.ensures.put c.in-Ok.ensures.faults_stay
