-- The next words of the seed pick the events, and what is written of them is what is written of the whole run.
use Rattle.std.proofs.Common.{◌+◌, ◌-◌, ◌^◌, ◌∙◌, List, ap, arith, min, subst}
use Rattle.std.proofs.lemmas.Result.{err_from_is_err_and}
use Rattle.tcc_world.specs.Page.{Written}
use Rattle.rules_maps.specs.Nodes.{Event}
use Rattle.watch_run.specs.Looked.{CountedMore}
use Rattle.watch_run.specs.Meanwhile.{IsFurtherStopped, IsFurtherText}
use Rattle.watch_run.specs.Runs.{RunData}
use Rattle.watch_run.specs.Written.{IsBehind}
use Rattle.watch_run.proofs.Runs.{Settles, coming-few, coming-next, run-text, run-text-none, run-text-stopped, went-on}
use Rattle.watch_run.proofs.run.go_on_and_write.Goals as goal

pub write_meanwhile-requires-clause-few : goal.write_meanwhile-requires-clause-few
write_meanwhile-requires-clause-few g c = omega (arith, c.settle.ensures.events, c.requires.few)

pub write_meanwhile-requires-clause-enough : goal.write_meanwhile-requires-clause-enough
write_meanwhile-requires-clause-enough g c =
    let run : RunData = record {
      machine = c.args.system.now;
      counts = c.args.counts.now;
      seed = c.args.seed;
      drawn = c.args.drawn;
    } in
    coming-few run c.args.steps _ _ c.settle.new.self c.after-picked.ensures.left c.after-picked.ensures.chooser

pub returns-in-Err-clause-broken : goal.returns-in-Err-clause-broken
returns-in-Err-clause-broken g c =
    let run : RunData = record {
      machine = c.args.system.now;
      counts = c.args.counts.now;
      seed = c.args.seed;
      drawn = c.args.drawn;
    } in
    run-text-none c.args.told c.args.steps run (g.O.Sink.page c.args.out.now)

pub returns-in_err-write_meanwhile-clause-broken : goal.returns-in_err-write_meanwhile-clause-broken
returns-in_err-write_meanwhile-clause-broken g c =
    let run : RunData = record {
      machine = c.args.system.now;
      counts = c.args.counts.now;
      seed = c.args.seed;
      drawn = c.args.drawn;
    } in
    let put = c.settle.ensures in
    let settles : Settles c.args.system.now c.settle.new.self = record {
      history = put.history;
      unsent = c.in-Ok.ensures.settled;
      events = put.events;
      code = ap (λ k. k.code) put.cores;
    } in
    let output : Written = record { before = g.O.Sink.page c.args.out.now; after = g.O.Sink.page c.write_meanwhile.new.out } in
    let p = err_from_is_err_and c.from_residual.result c.from_residual.ensures.1 in
    rw (p.1, p.2) (run-text-stopped c.args.told c.args.steps run c.settle.new.self output c.in_err-write_meanwhile.field-0.0 settles
    (subst
    (λ (es : List Event). IsFurtherStopped c.args.told c.settle.new.self c.args.counts.now es output c.in_err-write_meanwhile.field-0.0)
    (coming-next run c.args.steps _ _ c.settle.new.self c.after-picked.ensures.left c.after-picked.ensures.chooser)
    c.in_err-write_meanwhile.ensures.broken))

pub returns-clause-went : goal.returns-clause-went
returns-clause-went g c =
    let run : RunData = record {
      machine = c.args.system.now;
      counts = c.args.counts.now;
      seed = c.args.seed;
      drawn = c.args.drawn;
    } in
    let put = c.settle.ensures in
    let settles : Settles c.args.system.now c.settle.new.self = record {
      history = put.history;
      unsent = c.in-Ok.ensures.settled;
      events = put.events;
      code = ap (λ k. k.code) put.cores;
    } in
    went-on c.args.steps run c.settle.new.self c.write_meanwhile.new.system c.write_meanwhile.new.counts _ settles
    (subst
    (λ (es : List Event). CountedMore c.settle.new.self c.write_meanwhile.new.system c.args.counts.now c.write_meanwhile.new.counts es)
    (coming-next run c.args.steps _ _ c.settle.new.self c.after-picked.ensures.left c.after-picked.ensures.chooser)
    c.in_ok-write_meanwhile.ensures.counted)
    c.requires.few
    (c.saturating_add.ensures
    ∙ (λ i. min (c.args.drawn + (c.events.ensures.count i - c.events-before.ensures.count i)) (2 ^ 64 - 1)))

pub returns-clause-written : goal.returns-clause-written
returns-clause-written g c =
    let run : RunData = record {
      machine = c.args.system.now;
      counts = c.args.counts.now;
      seed = c.args.seed;
      drawn = c.args.drawn;
    } in
    let put = c.settle.ensures in
    let settles : Settles c.args.system.now c.settle.new.self = record {
      history = put.history;
      unsent = c.in-Ok.ensures.settled;
      events = put.events;
      code = ap (λ k. k.code) put.cores;
    } in
    let before = (g.O.Sink.page c.args.out.now).bytes in
    let after = (g.O.Sink.page c.write_meanwhile.new.out).bytes in
    run-text c.args.told c.args.steps run c.settle.new.self before after settles
    (subst (λ (es : List Event). IsBehind (IsFurtherText c.args.told c.settle.new.self c.args.counts.now es) before after)
    (coming-next run c.args.steps _ _ c.settle.new.self c.after-picked.ensures.left c.after-picked.ensures.chooser)
    c.in_ok-write_meanwhile.ensures.written)
