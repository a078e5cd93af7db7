-- The message stands behind the others, with the next number.
use Rattle.std.proofs.Common.{◌++◌, ◌<◌, length, length-append, arith}
use Rattle.machine_links.proofs.Changing.{Kept, pushed, few-kept}
use Rattle.machine_links.proofs.lane.Lane.send.Goals as goal

pub invariant_of-self : goal.invariant_of-self
invariant_of-self c =
    let i = c.self.inside in
    let kept : Kept i.sent (i.front ++ i.rest) c.args.self.now =
    record { rising = c.self.invariant.rising; few = c.self.invariant.few; view = c.self.view_is } in
    let few : length (i.front ++ i.rest) < 4294967295 = omega (arith, length-append i.front i.rest) in
    let after = pushed _ _ _ _ c.args.held kept few c.in-Ok.ensures.ok in
    record { rising = after.rising; few = after.few }

pub returns-in-Ok-clause-sent : goal.returns-in-Ok-clause-sent
returns-in-Ok-clause-sent c =
    let i = c.self.inside in
    let kept : Kept i.sent (i.front ++ i.rest) c.args.self.now =
    record { rising = c.self.invariant.rising; few = c.self.invariant.few; view = c.self.view_is } in
    let few : length (i.front ++ i.rest) < 4294967295 = omega (arith, length-append i.front i.rest) in
    (pushed _ _ _ _ c.args.held kept few c.in-Ok.ensures.ok).view

pub returns-in-Ok-clause-few : goal.returns-in-Ok-clause-few
returns-in-Ok-clause-few c =
    let i = c.self.inside in
    let kept : Kept i.sent (i.front ++ i.rest) c.args.self.now =
    record { rising = c.self.invariant.rising; few = c.self.invariant.few; view = c.self.view_is } in
    let few : length (i.front ++ i.rest) < 4294967295 = omega (arith, length-append i.front i.rest) in
    let after = pushed _ _ _ _ c.args.held kept few c.in-Ok.ensures.ok in
    rw (after.view) (few-kept _ _ _ after)
