-- The next event is taken and counted.
use Rattle.std.proofs.Common.{refl, arith}
use Rattle.net_core.specs.Limits.{machine_limit}
use Rattle.tcc_msg.specs.Plain.{event_of}
use Rattle.watch_run.proofs.Tallies.{counting-all, counting-before, counting-more, counting-most, counting-none}
use Rattle.watch_run.proofs.counting.count_events.Goals as goal

pub loop-init : goal.loop-init
loop-init g c = counting-none c.args.system.now c.args.counts.now _ c.requires.settled

pub next-requires : goal.next-requires
next-requires g c = c.loop.invariant.so_far.settled

pub count_event-requires : goal.count_event-requires
count_event-requires g c = record {
  few = counting-before _ _ _ _ _ _ c.loop.counter c.args.most machine_limit c.loop.invariant c.loop-test.true c.requires.few;
}

pub loop-preserved : goal.loop-preserved
loop-preserved g c =
    let t = c.in_ok-count_event.ensures.took in
    counting-more c.args.system.now c.loop.system c.count_event.new.system c.forget_passed.new.system c.args.counts.now c.loop.counts
    c.count_event.new.counts _ _ (g.E.Events.coming c.next.new.self) c.loop.counter (event_of c.in-Some.e) c.loop.invariant
    (c.in-Some.ensures.first c.count_event.new.system t) t c.in_ok-count_event.ensures.counted c.forget_passed.ensures

pub returns-in_default : goal.returns-in_default
returns-in_default g c = counting-all _ _ _ _ _ _ _ c.loop.invariant (c.in_default.ensures.none refl)

pub returns : goal.returns
returns g c =
    counting-all _ _ _ _ _ _ _ c.loop.invariant
    (counting-most _ _ _ _ _ _ c.loop.counter c.args.most c.loop.invariant c.requires.enough
    (omega (arith, c.loop-test.false, c.loop.auto.counter-end)))
