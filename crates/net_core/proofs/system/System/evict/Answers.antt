-- A core empties a way.
use Rattle.std.proofs.Common.{◌∙◌, ap, refl, sym, subst, Err}
use Rattle.std.specs.Prelude.{◌<◌}
use Rattle.net_core.specs.Limits.{machine_limit}
use Rattle.rules_maps.specs.Nodes.{Evict}
use Rattle.net_core.specs.Answers.{Answers, Took}
use Rattle.net_core.specs.Inside.{machine_of}
use Rattle.net_core.specs.Machine.{settings_of}
use Rattle.net_core.specs.declared.taking.Step.TheVariants.{Moved}
use Rattle.net_core.proofs.Keeping.{nothing-left}
use Rattle.net_core.proofs.Events.Kept.{StaysBut, stays-whole}
use Rattle.net_core.proofs.Events.Cores.{ActsFrom, after_core, after_none, evict-step_in, evict-unnoted, move-whole, no-evict_in}
use Rattle.net_core.proofs.Events.Cores.{refused-move, took-move, unnoted-as}
use Rattle.net_core.proofs.system.System.evict.Goals as goal

-- ---- a refusal

stays : (c : goal.After-refusal) → StaysBut (machine_of c.self.inside) (after_none c.self.inside c.evict.new.self c.evict.new.out)
stays c = record {
  code = c.in-Err.ensures.code;
  cores = c.in-Err.ensures.unchanged;
  dirs = refl;
  settings = refl;
  next = refl;
  flights = refl;
  before = ap (λ m. m.unsent) c.self.view_is ∙ c.requires.settled;
  now = nothing-left c.self.inside.placed c.evict.new.out.list.items (c.in-Err.ensures.unsent ∙ c.clear.ensures);
  commits = refl;
  events = refl;
}

pub invariant_of-self : goal.invariant_of-self
invariant_of-self c = stays-whole (machine_of c.self.inside) _ c.self.invariant (stays c)

pub returns-in-Err : goal.returns-in-Err
returns-in-Err c =
    let m = machine_of c.self.inside in
    let n = after_none c.self.inside c.evict.new.self c.evict.new.out in
    subst (λ x. Answers x n (Evict c.args.core.0 c.args.set c.args.way) (Err c.refusal.result)) c.self.view_is
    (subst (λ r. Answers m n (Evict c.args.core.0 c.args.set c.args.way) (Err r)) (sym c.refusal.ensures)
    (refused-move (Unit {0}) m n (Evict c.args.core.0 c.args.set c.args.way) c.args.core.0 c.in-Err.error _
    (stays c) c.in-Err.ensures.blocked
    (evict-step_in m c.config.result.now c.args.core.0 c.args.set c.args.way (c.config.ensures ∙ ap settings_of (sym c.self.view_is))
    (c.if-not-has_way.ensures.0 refl))))

-- ---- an eviction

acts : (c : goal.After-self-in-Ok-2-1) → ActsFrom (machine_of c.self.inside)
    (after_core c.self.inside c.evict.new.self c.evict.new.out c.self.inside.flights c.args.core)
    c.args.core.0 c.clear.new.self c.evict.new.out
acts c = record {
  code = c.in-Ok.ensures.code;
  dirs = refl;
  next = refl;
  sender = refl;
  unsent = refl;
  last = refl;
  settled = ap (λ m. m.unsent) c.self.view_is ∙ c.requires.settled;
  clear = c.clear.ensures;
  events = refl;
}

took : (c : goal.After-self-in-Ok-2-1) → Took (machine_of c.self.inside)
    (after_core c.self.inside c.evict.new.self c.evict.new.out c.self.inside.flights c.args.core)
    (Evict c.args.core.0 c.args.set c.args.way) Moved
took c =
    let m = machine_of c.self.inside in
    took-move m _ (Evict c.args.core.0 c.args.set c.args.way) c.args.core.0 c.clear.new.self c.evict.new.out Moved _
    (acts c) c.in-Ok.ensures.does refl
    (evict-step_in m c.config.result.now c.args.core.0 c.args.set c.args.way (c.config.ensures ∙ ap settings_of (sym c.self.view_is))
    (c.if-not-has_way.ensures.0 refl))
    (unnoted-as m (after_core c.self.inside c.evict.new.self c.evict.new.out c.self.inside.flights c.args.core)
    _ c.args.core.0 c.clear.new.self c.evict.new.out c.in-Ok.ensures.does (evict-unnoted _ c.args.set c.args.way _) refl) refl

pub invariant_of-self-in-Ok : goal.invariant_of-self-in-Ok
invariant_of-self-in-Ok c =
    move-whole (machine_of c.self.inside) _ (Evict c.args.core.0 c.args.set c.args.way) Moved c.args.core.0 c.clear.new.self c.evict.new.out
    c.self.invariant (subst (λ m. m.events < machine_limit) (sym c.self.view_is) c.requires.few) (acts c) (took c) refl

pub returns-in-Ok : goal.returns-in-Ok
returns-in-Ok c =
    let n = after_core c.self.inside c.evict.new.self c.evict.new.out c.self.inside.flights c.args.core in
    subst (λ x. Took x n (Evict c.args.core.0 c.args.set c.args.way) Moved) c.self.view_is (took c)

pub returns-then-not-has_way : goal.returns-then-not-has_way
returns-then-not-has_way c = (
  record { history = refl; events = refl; code = refl },
  no-evict_in c.args.self.now c.config.result.now c.args.core.0 c.args.set c.args.way c.config.ensures
      (λ h. let q = c.if-not-has_way.ensures.1 h in absurd (cc)),
)
