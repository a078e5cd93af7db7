-- A message is delivered by its destination.
use Rattle.std.proofs.Common.{◌≡◌, ◌∙◌, ap, refl, subst, sym, None}
use Rattle.rules_maps.specs.Bridge.{node_of}
use Rattle.rules_maps.specs.Nodes.{Deliver}
use Rattle.net_core.specs.Answers.{step_of}
use Rattle.net_core.specs.Inside.{machine_of}
use Rattle.net_core.proofs.Events.Ends.{absent, has-core}
use Rattle.net_core.proofs.system.System.deliver.Goals as goal

-- it isn't in flight
pub returns-in_default : goal.returns-in_default
returns-in_default c = (
  record { history = refl; events = refl; code = refl },
  subst (λ x. step_of x (Deliver (node_of c.args.name.src) (node_of c.args.name.dst) c.args.name.seq) ≡ None) c.self.view_is
      (absent (machine_of c.self.inside) (node_of c.args.name.src) (node_of c.args.name.dst) c.args.name.seq
      (ap (λ x. x.unsent) c.self.view_is ∙ c.requires.settled) (sym c.in_default.ensures.message)),
)

-- it can't be in flight
pub returns-in_default-2 : goal.returns-in_default-2
returns-in_default-2 c = absurd (
    has-core (machine_of c.self.inside) c.args.name.src c.args.name.dst c.args.name.seq _ c.self.invariant
    (ap (λ x. x.unsent) c.self.view_is ∙ c.requires.settled) c.in_default-2.not-Core-0 c.in_default-2.not-Core-1
    (sym c.in-Some.ensures.message)
    )

pub returns-in_default-2-2 : goal.returns-in_default-2-2
returns-in_default-2-2 c = absurd (
    has-core (machine_of c.self.inside) c.args.name.src c.args.name.dst c.args.name.seq _ c.self.invariant
    (ap (λ x. x.unsent) c.self.view_is ∙ c.requires.settled) c.in_default-2.not-Core-0 c.in_default-2.not-Core-1
    (sym c.in-Some.ensures.message)
    )
