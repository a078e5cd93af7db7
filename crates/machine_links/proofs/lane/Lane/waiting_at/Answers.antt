-- Those that are kept are listed in order.
use Rattle.std.proofs.Common.{◌++◌}
use Rattle.machine_links.proofs.Changing.{Kept, listed, listed-own}
use Rattle.machine_links.proofs.lane.Lane.waiting_at.Goals as goal

pub returns-in_err-waiting-clause-number : goal.returns-in_err-waiting-clause-number
returns-in_err-waiting-clause-number c =
    let i = c.self.inside in
    let kept : Kept i.sent (i.front ++ i.rest) c.args.self.now =
    record { rising = c.self.invariant.rising; few = c.self.invariant.few; view = c.self.view_is } in
    rw c.from_residual.ensures (listed _ _ _ c.args.i _ kept c.in_err-waiting.ensures)

pub returns-clause-number : goal.returns-clause-number
returns-clause-number c =
    let i = c.self.inside in
    let kept : Kept i.sent (i.front ++ i.rest) c.args.self.now =
    record { rising = c.self.invariant.rising; few = c.self.invariant.few; view = c.self.view_is } in
    listed _ _ _ c.args.i _ kept c.in_ok-waiting.ensures

pub returns-clause-own : goal.returns-clause-own
returns-clause-own c =
    let i = c.self.inside in
    let kept : Kept i.sent (i.front ++ i.rest) c.args.self.now =
    record { rising = c.self.invariant.rising; few = c.self.invariant.few; view = c.self.view_is } in
    listed-own _ _ _ c.args.i c.in_ok-waiting.waiting.now kept c.in_ok-waiting.ensures
