-- The same messages are in flight, below a higher number.
use Rattle.std.proofs.Common.{◌++◌, length, sym, ap, ◌∙◌, arith}
use Rattle.machine_links.proofs.Changing.{Kept}
use Rattle.machine_links.proofs.Laid.{length-laid}
use Rattle.machine_links.proofs.Passed.{passed-kept, passed-none}
use Rattle.machine_links.proofs.lane.Lane.pass_to.Goals as goal

pub invariant_of-self : goal.invariant_of-self
invariant_of-self c =
    let i = c.self.inside in
    let kept : Kept i.sent (i.front ++ i.rest) c.args.self.now =
    record { rising = c.self.invariant.rising; few = c.self.invariant.few; view = c.self.view_is } in
    let after = passed-kept _ c.args.sent _ _ kept (omega arith) in
    record { rising = after.rising; few = after.few }

pub returns-then-self-sent : goal.returns-then-self-sent
returns-then-self-sent c =
    let i = c.self.inside in
    let kept : Kept i.sent (i.front ++ i.rest) c.args.self.now =
    record { rising = c.self.invariant.rising; few = c.self.invariant.few; view = c.self.view_is } in
    (passed-kept _ c.args.sent _ _ kept (omega arith)).view

pub returns-else-self-sent : goal.returns-else-self-sent
returns-else-self-sent c =
    let count = sym (length-laid _ c.self.inside.sent) ∙ ap length c.self.view_is in
    passed-none c.args.sent c.args.self.now (omega (arith, count))
