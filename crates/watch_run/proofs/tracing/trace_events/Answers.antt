-- The next event is taken, and its text is held or written.
use Rattle.std.proofs.Common.{refl, arith}
use Rattle.std.specs.String.{string_bytes}
use Rattle.tcc_msg.specs.Plain.{event_of}
use Rattle.watch_run.proofs.Going.{gone-most}
use Rattle.watch_run.proofs.Traced.{begun-none, rose-later}
use Rattle.watch_run.proofs.Written.{going-all, going-cut, going-more, going-none, going-part, going-put, went-all}
use Rattle.watch_run.proofs.tracing.trace_events.Goals as goal

pub returns-in-Err-clause-stopped : goal.returns-in-Err-clause-stopped
returns-in-Err-clause-stopped g c = begun-none _ _ _ _

pub loop-number-init : goal.loop-number-init
loop-number-init g c =
    going-none c.args.system.now _ c.args.shown (string_bytes c.args.held.now) (string_bytes c.begin.new.text)
    (g.O.Sink.page c.args.out.now).bytes (g.O.Sink.page c.args.out.now).faults c.requires.settled c.in-Ok.ensures

pub returns-in-Err-event-clause-stopped : goal.returns-in-Err-event-clause-stopped
returns-in-Err-event-clause-stopped g c = going-part _ _ _ _ _ _ _ _ _ _ _ _ c.loop-number.invariant

pub returns-in-Err-put_piece-clause-stopped : goal.returns-in-Err-put_piece-clause-stopped
returns-in-Err-put_piece-clause-stopped g c =
    let t = c.in-Ok-event.ensures.took in
    let more = going-more c.args.system.now c.loop-number.system c.event.new.system _ _ _ c.loop-number.number c.args.shown
    _ (string_bytes c.loop-number.held) (string_bytes c.event.new.text) _ _ _ _ (event_of c.in-Some.e) c.loop-number.invariant
    (c.in-Some.ensures.first c.event.new.system t) t c.in-Ok-event.ensures.text in
    let cut = c.in-Err-put_piece.ensures.cut in (
      going-cut _ _ _ _ _ _ _ _ _ _ _ _ _ cut.0 more cut.2,
      rose-later _ _ _ c.loop-number.invariant.faults_stay c.in-Err-put_piece.ensures.cause,
    )

pub loop-number-preserved : goal.loop-number-preserved
loop-number-preserved g c =
    let t = c.in-Ok-event.ensures.took in
    let more = going-more c.args.system.now c.loop-number.system c.event.new.system _ _ _ c.loop-number.number c.args.shown
    _ (string_bytes c.loop-number.held) (string_bytes c.event.new.text) _ _ _ _ (event_of c.in-Some.e) c.loop-number.invariant
    (c.in-Some.ensures.first c.event.new.system t) t c.in-Ok-event.ensures.text in
    going-put _ _ _ _ _ _ _ _ _ _ _ _ _ _ _ more c.in-Ok-put_piece.ensures.put c.in-Ok-put_piece.ensures.faults_stay

pub returns-in_default-clause-went : goal.returns-in_default-clause-went
returns-in_default-clause-went g c = went-all _ _ _ _ _ c.loop-number.invariant.gone (c.in_default.ensures.none refl)

pub returns-in_default-clause-put : goal.returns-in_default-clause-put
returns-in_default-clause-put g c = going-all _ _ _ _ _ _ _ _ _ _ _ _ c.loop-number.invariant (c.in_default.ensures.none refl)

pub returns-clause-went : goal.returns-clause-went
returns-clause-went g c =
    let going = c.loop-number.invariant in
    went-all _ _ _ _ _ going.gone (gone-most _ _ _ _ c.loop-number.number c.args.most going.gone c.requires.enough
    (omega (arith, c.loop-number-test.false, c.loop-number.auto.number-end)))

pub returns-clause-put : goal.returns-clause-put
returns-clause-put g c =
    let going = c.loop-number.invariant in
    going-all _ _ _ _ _ _ _ _ _ _ _ _ going (gone-most _ _ _ _ c.loop-number.number c.args.most going.gone c.requires.enough
    (omega (arith, c.loop-number-test.false, c.loop-number.auto.number-end)))
