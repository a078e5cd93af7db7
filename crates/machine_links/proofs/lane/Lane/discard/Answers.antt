-- What was found had that mark, and the others stay.
use Rattle.std.proofs.Common.{◌++◌, IsSome, subst}
use Rattle.std.proofs.lemmas.Bool.{false≢true}
use Rattle.machine_links.proofs.Changing.{Kept, missing-held, taken-lane, was-taken}
use Rattle.machine_links.proofs.lane.Lane.discard.Goals as goal

pub unreachable-requires : goal.unreachable-requires
unreachable-requires c =
    let i = c.self.inside in
    let kept : Kept i.sent (i.front ++ i.rest) c.args.self.now =
    record { rising = c.self.invariant.rising; few = c.self.invariant.few; view = c.self.view_is } in
    false≢true (subst (λ o. IsSome o) (missing-held _ _ _ c.args.seq kept c.in-None.ensures.none) c.requires)

pub returns-clause-was : goal.returns-clause-was
returns-clause-was c =
    let i = c.self.inside in
    let kept : Kept i.sent (i.front ++ i.rest) c.args.self.now =
    record { rising = c.self.invariant.rising; few = c.self.invariant.few; view = c.self.view_is } in
    was-taken _ _ _ _ _ _ kept c.in-Some.ensures.some

pub invariant_of-self : goal.invariant_of-self
invariant_of-self c =
    let i = c.self.inside in
    let kept : Kept i.sent (i.front ++ i.rest) c.args.self.now =
    record { rising = c.self.invariant.rising; few = c.self.invariant.few; view = c.self.view_is } in
    let after = taken-lane _ _ _ _ _ _ kept c.in-Some.ensures.some in
    record { rising = after.rising; few = after.few }

pub returns-clause-taken : goal.returns-clause-taken
returns-clause-taken c =
    let i = c.self.inside in
    let kept : Kept i.sent (i.front ++ i.rest) c.args.self.now =
    record { rising = c.self.invariant.rising; few = c.self.invariant.few; view = c.self.view_is } in
    (taken-lane _ _ _ _ _ _ kept c.in-Some.ensures.some).view
