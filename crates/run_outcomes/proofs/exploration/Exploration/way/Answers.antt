use Rattle.std.proofs.Common.{◌≡◌, ◌∙◌, ap, subst}
use Rattle.run_outcomes.proofs.Paths.{orders-if, way-if}
use Rattle.run_outcomes.specs.Explored.{AreFound, AreLed}
use Rattle.run_outcomes.specs.Ways.{Explored, LeadFrom}
use Rattle.run_outcomes.proofs.exploration.Exploration.way.Goals as goal

pub returns-clause-orders : goal.returns-clause-orders
returns-clause-orders c =
    let e = c.args.self.now in
    let back : c.deref.result.now ≡ c.in_ok-ways.ways = c.deref.ensures.value ∙ c.ways.view_is in
    let ways = ap (λ (x : Explored). x.ways) c.self.view_is in
    let lead = subst (λ ws. LeadFrom ws 0 c.args.number c.in_ok-ways.ways) ways c.in_ok-ways.ensures in
    let orders = rw back at c.orders_of.ensures in
    let led : AreLed e.loaded e.states e.ways =
    subst (λ (x : Explored). AreLed x.loaded x.states x.ways) c.self.view_is c.self.invariant.1 in
    orders-if e.loaded e.states e.ways c.in_ok-ways.ways c.args.number c.orders_of.result led c.requires lead orders

pub returns-clause-leads : goal.returns-clause-leads
returns-clause-leads c =
    let e = c.args.self.now in
    let back : c.deref.result.now ≡ c.in_ok-ways.ways = c.deref.ensures.value ∙ c.ways.view_is in
    let ways = ap (λ (x : Explored). x.ways) c.self.view_is in
    let lead = subst (λ ws. LeadFrom ws 0 c.args.number c.in_ok-ways.ways) ways c.in_ok-ways.ensures in
    let orders = rw back at c.orders_of.ensures in
    let known : AreFound e.loaded e.states × AreLed e.loaded e.states e.ways =
    subst (λ (x : Explored). AreFound x.loaded x.states × AreLed x.loaded x.states x.ways) c.self.view_is
    (c.self.invariant.0, c.self.invariant.1) in
    way-if e.loaded e.states e.ways c.in_ok-ways.ways c.args.number c.orders_of.result known c.requires lead orders
