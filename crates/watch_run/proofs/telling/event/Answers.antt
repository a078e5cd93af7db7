-- An event in the window, the one just before it, and those before that.
use Rattle.std.proofs.Common.{arith}
use Rattle.std.specs.String.{string_bytes}
use Rattle.tcc_msg.specs.Plain.{event_of}
use Rattle.watch_run.proofs.Told.{event-tells, nothing-tells, window-tells}
use Rattle.watch_run.proofs.telling.event.Goals as goal

pub returns-then-shown-number-clause-text : goal.returns-then-shown-number-clause-text
returns-then-shown-number-clause-text c =
    event-tells c.shown_event.result c.args.shown.states c.args.system.now c.shown_event.new.system (event_of c.args.e) c.args.shown.from
    c.args.number (string_bytes c.args.text.now) _ c.if-shown-number.true c.shown_event.ensures.text

pub returns-then-shown-number-2-clause-text : goal.returns-then-shown-number-2-clause-text
returns-then-shown-number-2-clause-text c =
    window-tells c.begin_window.result c.args.shown.states c.args.system.now c.take.new.system (event_of c.args.e) c.args.shown.from
    c.args.number (string_bytes c.args.text.now) _ c.in_ok-take.ensures.took (omega (arith, c.if-shown-number-2.true))
    c.begin_window.ensures

pub returns-clause-text : goal.returns-clause-text
returns-clause-text c =
    nothing-tells c.args.shown.states c.args.system.now c.take.new.system (event_of c.args.e) c.args.shown.from c.args.number
    (string_bytes c.args.text.now) (omega (arith, c.if-shown-number.false, c.if-shown-number-2.false))
