-- The window begins, or fewer events came.
use Rattle.std.proofs.Common.{arith, subst}
use Rattle.std.specs.String.{string_bytes}
use Rattle.bus_run.specs.Shown.{Skipped}
use Rattle.bus_run.proofs.Traces.{told-none}
use Rattle.bus_run.proofs.tracing.tell_states.Goals as goal

pub returns-in-Ok-true-clause-told : goal.returns-in-Ok-true-clause-told
returns-in-Ok-true-clause-told g c = λ d seed steps s e.
    let skipped = subst (Skipped c.args.from c.args.run c.skip.new.run) c.in-Ok-true.field-0-test c.in-Ok-true.ensures in
    c.tell_window.ensures.told c.args.run d seed steps c.args.from s skipped.0 e skipped.2

pub returns-in-Ok-true-clause-broken : goal.returns-in-Ok-true-clause-broken
returns-in-Ok-true-clause-broken g c = λ d seed steps s e.
    let skipped = subst (Skipped c.args.from c.args.run c.skip.new.run) c.in-Ok-true.field-0-test c.in-Ok-true.ensures in
    c.tell_window.ensures.broken c.args.run d seed steps c.args.from s skipped.0 e skipped.2

pub returns-in-Ok-false-clause-told : goal.returns-in-Ok-false-clause-told
returns-in-Ok-false-clause-told g c = λ d seed steps s e.
    let skipped = subst (Skipped c.args.from c.args.run c.skip.new.run) c.in-Ok-false.field-0-test c.in-Ok-false.ensures in
    told-none d seed steps c.args.from c.args.run c.skip.new.run (string_bytes c.args.held.now) (g.O.Sink.page c.args.out.now).bytes s e
    skipped.0 skipped.1 skipped.2

pub tell_window-requires-clause-few : goal.tell_window-requires-clause-few
tell_window-requires-clause-few g c =
    let skipped = subst (Skipped c.args.from c.args.run c.skip.new.run) c.in-Ok-true.field-0-test c.in-Ok-true.ensures in
    let words = skipped.0.words in
    omega (arith, words, c.requires.few)

pub tell_window-requires-clause-enough : goal.tell_window-requires-clause-enough
tell_window-requires-clause-enough g c =
    let skipped = subst (Skipped c.args.from c.args.run c.skip.new.run) c.in-Ok-true.field-0-test c.in-Ok-true.ensures in
    let left = skipped.1 in
    omega (arith, left, c.requires.enough)
