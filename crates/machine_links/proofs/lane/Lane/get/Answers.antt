-- What was found is the message of that number.
use Rattle.std.proofs.Common.{◌++◌, sym, ◌∙◌}
use Rattle.machine_links.proofs.Changing.{Kept, get-lane}
use Rattle.machine_links.proofs.lane.Lane.get.Goals as goal

pub returns : goal.returns
returns c =
    let i = c.self.inside in
    let kept : Kept i.sent (i.front ++ i.rest) c.args.self.now =
    record { rising = c.self.invariant.rising; few = c.self.invariant.few; view = c.self.view_is } in
    c.get.ensures ∙ sym (get-lane _ _ _ c.args.seq kept)
