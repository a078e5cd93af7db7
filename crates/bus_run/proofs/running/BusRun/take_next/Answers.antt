-- The next word picks an event, or none comes any more.
use Rattle.std.proofs.Common.{refl, ap, sym, ◌∙◌, arith}
use Rattle.bus_tcc.specs.Machine.{bus_event_of}
use Rattle.bus_tool.specs.Picking.{picks}
use Rattle.bus_tool.proofs.Lemmas.{no-words}
use Rattle.bus_run.proofs.Going.{first-picked, none-picked}
use Rattle.bus_run.proofs.running.BusRun.take_next.Goals as goal

-- no word is left
pub returns-then-self-eq0 : goal.returns-then-self-eq0
returns-then-self-eq0 c =
    let run = c.args.self.now in
    let none = no-words run.left run.words run.system c.if-self-eq0.true in
    (refl, refl, none, none)

-- no event is useful
pub returns-in_default : goal.returns-in_default
returns-in_default c =
    let run = c.args.self.now in
    let none = none-picked run.left run.words run.system (sym c.in_default.ensures.chosen) in
    (refl, refl, none, ap (λ w. picks run.left w run.system) c.in_default.ensures.drawn ∙ none)

-- the event was taken
pub returns-in-Ok : goal.returns-in-Ok
returns-in-Ok c =
    let run = c.args.self.now in
    let did = c.in-Ok.ensures in (
      did,
      first-picked run.left _ run.words c.pick.new.words run.system c.watch_bus.new.system (bus_event_of c.in-Some.e)
          (omega (arith, c.if-self-eq0.false)) (sym c.in-Some.ensures.chosen) c.in-Some.ensures.drawn did.next did.code,
      omega (arith, c.if-self-eq0.false),
    )
