-- A core empties a way.
use Rattle.std.proofs.Common.{◌∙◌, ap, refl, sym, subst, Err}
use Rattle.rules_bus.specs.State.{Evict}
use Rattle.bus_tcc.specs.Answers.{Answers, Took}
use Rattle.bus_tcc.specs.Inside.{machine_of}
use Rattle.bus_tcc.specs.Machine.{bus_settings_of}
use Rattle.bus_tcc.specs.declared.event.BusStep.TheVariants.{Moved}
use Rattle.bus_tcc.proofs.Events.{MovesOne, StaysBut, after_core, after_none, evict-step, moved-took, moved-whole, no-evict, refused-move}
use Rattle.bus_tcc.proofs.Events.{stays-whole}
use Rattle.bus_tcc.proofs.engine.Engine.evict.Goals as goal

pub returns-then-not-has_way : goal.returns-then-not-has_way
returns-then-not-has_way c = (
  record { history = refl; events = refl; code = refl },
  no-evict c.args.self.now c.config.result.now c.args.core.0 c.args.set c.args.way c.config.ensures
      (λ h. let q = c.if-not-has_way.ensures.1 h in absurd (cc)),
)

stays : (c : goal.After-refusal) → StaysBut (machine_of c.self.inside) (after_none c.self.inside c.evict.new.self)
stays c = record {
  code = c.in-Err.ensures.code;
  cores = c.in-Err.ensures.unchanged;
  ram = refl;
  next = refl;
  bus = refl;
  commits = refl;
  events = refl;
}

pub invariant_of-self : goal.invariant_of-self
invariant_of-self c = stays-whole (machine_of c.self.inside) _ c.self.invariant (stays c)

pub returns-in-Err : goal.returns-in-Err
returns-in-Err c =
    let m = machine_of c.self.inside in
    let n = after_none c.self.inside c.evict.new.self in
    let e = Evict c.args.core.0 c.args.set c.args.way in
    subst (λ x. Answers x n e (Err c.refusal.result)) c.self.view_is
    (subst (λ r. Answers m n e (Err r)) (sym c.refusal.ensures)
    (refused-move (Unit {0}) m n e c.args.core.0 c.in-Err.error _ (stays c) c.in-Err.ensures.blocked
    (evict-step m c.config.result.now c.args.core.0 c.args.set c.args.way (c.config.ensures ∙ ap bus_settings_of (sym c.self.view_is))
    (c.if-not-has_way.ensures.0 refl))))

moves : (c : goal.After-self-1) → MovesOne (machine_of c.self.inside) (after_core c.self.inside c.evict.new.self)
moves c = record {
  code = c.in-Ok.ensures.code;
  ram = refl;
  next = refl;
  bus = refl;
  commits = refl;
  events = refl;
}

took : (c : goal.After-self-1) → Took (machine_of c.self.inside) (after_core c.self.inside c.evict.new.self)
    (Evict c.args.core.0 c.args.set c.args.way) Moved
took c =
    let m = machine_of c.self.inside in
    moved-took m _ (Evict c.args.core.0 c.args.set c.args.way) c.args.core.0 _ (moves c)
    (evict-step m c.config.result.now c.args.core.0 c.args.set c.args.way (c.config.ensures ∙ ap bus_settings_of (sym c.self.view_is))
    (c.if-not-has_way.ensures.0 refl)) c.in-Ok.ensures.does

pub invariant_of-self-in-Ok : goal.invariant_of-self-in-Ok
invariant_of-self-in-Ok c =
    moved-whole (machine_of c.self.inside) _ (Evict c.args.core.0 c.args.set c.args.way) c.self.invariant (moves c) (took c)

pub returns-in-Ok : goal.returns-in-Ok
returns-in-Ok c =
    subst (λ x. Took x (after_core c.self.inside c.evict.new.self) (Evict c.args.core.0 c.args.set c.args.way) Moved) c.self.view_is
    (took c)
