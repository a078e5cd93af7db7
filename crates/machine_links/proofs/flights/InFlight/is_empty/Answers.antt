-- The count is 0 exactly where nothing is in flight.
use Rattle.std.proofs.Common.{◌∙◌, sym}
use Rattle.std.proofs.lemmas.Bool.{eqb-true, eq-eqb}
use Rattle.machine_links.specs.Flights.{flying, lane, net_of}
use Rattle.machine_links.proofs.Lanes.{Laned}
use Rattle.machine_links.proofs.Quiet.{quiet, quiet-count}
use Rattle.machine_links.proofs.flights.InFlight.is_empty.Goals as goal

pub returns-clause-count : goal.returns-clause-count
unfolding flying
returns-clause-count c =
    let i = c.self.inside in
    rw (← c.self.view_is)
    ((λ t. sym c.self.invariant.flying ∙ eqb-true i.flying 0 t), (λ e. eq-eqb i.flying 0 (c.self.invariant.flying ∙ e)))

pub returns-clause-quiet : goal.returns-clause-quiet
unfolding net_of lane
returns-clause-quiet c =
    let i = c.self.inside in
    let laned : Laned i.grid.cores i.grid.dirs i.lanes.items =
    record { all = c.self.invariant.all; unlinked = c.self.invariant.unlinked } in
    rw (← c.self.view_is) (
      (λ t. quiet i.grid.cores i.grid.dirs i.lanes.items (sym c.self.invariant.flying ∙ eqb-true i.flying 0 t)),
      (λ h. eq-eqb i.flying 0 (c.self.invariant.flying ∙ quiet-count i.grid.cores i.grid.dirs i.lanes.items laned h)),
    )
