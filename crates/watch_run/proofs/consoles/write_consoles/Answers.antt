-- The next event is taken and counted, and what its commit printed is written.
use Rattle.std.proofs.Common.{refl, arith}
use Rattle.std.proofs.lemmas.Result.{err_from_is_err_and}
use Rattle.net_core.specs.Limits.{machine_limit}
use Rattle.tcc_msg.specs.Plain.{event_of}
use Rattle.watch_run.proofs.Printed.{printing-all, printing-cut, printing-more, printing-none, printing-part}
use Rattle.watch_run.proofs.Tallies.{counting-all, counting-before, counting-more, counting-most, counting-none}
use Rattle.watch_run.proofs.consoles.write_consoles.Goals as goal

pub loop-init : goal.loop-init
loop-init g c =
    printing-none c.args.system.now c.args.counts.now _ (g.O.Sink.page c.args.out.now)
    (counting-none c.args.system.now c.args.counts.now _ c.requires.settled)

pub next-requires : goal.next-requires
next-requires g c = c.loop.invariant.counting.so_far.settled

pub count_event-requires : goal.count_event-requires
count_event-requires g c = record {
  few = counting-before _ _ _ _ _ _ c.loop.counter c.args.most machine_limit c.loop.invariant.counting c.loop-test.true c.requires.few;
}

pub loop-preserved : goal.loop-preserved
loop-preserved g c =
    let now = c.loop.invariant in
    let t = c.in-Ok.ensures.took in
    let first = c.in-Some.ensures.first c.count_event.new.system t in
    printing-more c.args.system.now c.loop.system c.count_event.new.system c.forget_passed.new.system c.args.counts.now c.loop.counts
    c.count_event.new.counts _ _ (g.E.Events.coming c.next.new.self) c.loop.counter (event_of c.in-Some.e) _
    (g.O.Sink.page c.args.out.now) (g.O.Sink.page c.loop.out) (g.O.Sink.page c.write_noted.new.out) now first t c.in-Ok.ensures.noted
    c.in_ok-write_noted.ensures.written c.write_noted.ensures.faults_stay c.forget_passed.ensures
    (counting-more c.args.system.now c.loop.system c.count_event.new.system c.forget_passed.new.system c.args.counts.now c.loop.counts
    c.count_event.new.counts _ _ (g.E.Events.coming c.next.new.self) c.loop.counter (event_of c.in-Some.e) now.counting
    first t c.in-Ok.ensures.counted c.forget_passed.ensures)

pub returns-in_err-write_noted-clause-broken : goal.returns-in_err-write_noted-clause-broken
returns-in_err-write_noted-clause-broken g c =
    let t = c.in-Ok.ensures.took in
    let p = err_from_is_err_and c.from_residual.result c.from_residual.ensures.1 in
    rw (p.1, p.2) (printing-cut c.args.system.now c.loop.system c.count_event.new.system c.args.counts.now c.loop.counts _ _
    (g.E.Events.coming c.next.new.self) c.loop.counter (event_of c.in-Some.e) _
    (g.O.Sink.page c.args.out.now) (g.O.Sink.page c.loop.out) (g.O.Sink.page c.write_noted.new.out) c.in_err-write_noted.field-0.0
    c.loop.invariant (c.in-Some.ensures.first c.count_event.new.system t) t c.in-Ok.ensures.noted c.in_err-write_noted.ensures.cut)

pub returns-in-Err-clause-broken : goal.returns-in-Err-clause-broken
returns-in-Err-clause-broken g c =
    printing-part c.args.system.now c.loop.system c.args.counts.now c.loop.counts _ _ c.loop.counter
    (g.O.Sink.page c.args.out.now) (g.O.Sink.page c.loop.out) c.loop.invariant

pub returns-in_default-clause-counted : goal.returns-in_default-clause-counted
returns-in_default-clause-counted g c = counting-all _ _ _ _ _ _ _ c.loop.invariant.counting (c.in_default.ensures.none refl)

pub returns-in_default-clause-written : goal.returns-in_default-clause-written
returns-in_default-clause-written g c =
    printing-all _ _ _ _ _ _ c.loop.counter (g.O.Sink.page c.args.out.now) (g.O.Sink.page c.loop.out)
    c.loop.invariant (c.in_default.ensures.none refl)

pub returns-clause-counted : goal.returns-clause-counted
returns-clause-counted g c =
    let k = c.loop.invariant.counting in
    counting-all _ _ _ _ _ _ _ k (counting-most _ _ _ _ _ _ c.loop.counter c.args.most k c.requires.enough
    (omega (arith, c.loop-test.false, c.loop.auto.counter-end)))

pub returns-clause-written : goal.returns-clause-written
returns-clause-written g c =
    let now = c.loop.invariant in
    printing-all _ _ _ _ _ _ c.loop.counter (g.O.Sink.page c.args.out.now) (g.O.Sink.page c.loop.out)
    now (counting-most _ _ _ _ _ _ c.loop.counter c.args.most now.counting c.requires.enough
    (omega (arith, c.loop-test.false, c.loop.auto.counter-end)))
