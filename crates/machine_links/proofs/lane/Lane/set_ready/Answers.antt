-- The mark of what was found, and the others stay.
use Rattle.std.proofs.Common.{◌++◌, IsSome, subst}
use Rattle.std.proofs.lemmas.Bool.{false≢true}
use Rattle.machine_links.proofs.Changing.{Kept, missing-held, marked-lane, was-marked, few-kept}
use Rattle.machine_links.proofs.lane.Lane.set_ready.Goals as goal

pub unreachable-requires : goal.unreachable-requires
unreachable-requires c =
    let i = c.self.inside in
    let kept : Kept i.sent (i.front ++ i.rest) c.args.self.now =
    record { rising = c.self.invariant.rising; few = c.self.invariant.few; view = c.self.view_is } in
    false≢true (subst (λ o. IsSome o) (missing-held _ _ _ c.args.seq kept c.in-None.ensures.none) c.requires)

pub returns-clause-was : goal.returns-clause-was
returns-clause-was c =
    let i = c.self.inside in
    let kept : Kept i.sent (i.front ++ i.rest) c.args.self.now =
    record { rising = c.self.invariant.rising; few = c.self.invariant.few; view = c.self.view_is } in
    was-marked _ _ _ _ _ _ _ kept c.in-Some.ensures.some

pub invariant_of-self : goal.invariant_of-self
invariant_of-self c =
    let i = c.self.inside in
    let kept : Kept i.sent (i.front ++ i.rest) c.args.self.now =
    record { rising = c.self.invariant.rising; few = c.self.invariant.few; view = c.self.view_is } in
    let after = marked-lane _ _ _ _ _ _ _ kept c.in-Some.ensures.some in
    record { rising = after.rising; few = after.few }

pub returns-clause-marked : goal.returns-clause-marked
returns-clause-marked c =
    let i = c.self.inside in
    let kept : Kept i.sent (i.front ++ i.rest) c.args.self.now =
    record { rising = c.self.invariant.rising; few = c.self.invariant.few; view = c.self.view_is } in
    (marked-lane _ _ _ _ _ _ _ kept c.in-Some.ensures.some).view

pub returns-clause-few : goal.returns-clause-few
returns-clause-few c =
    let i = c.self.inside in
    let kept : Kept i.sent (i.front ++ i.rest) c.args.self.now =
    record { rising = c.self.invariant.rising; few = c.self.invariant.few; view = c.self.view_is } in
    let after = marked-lane _ _ _ _ _ _ _ kept c.in-Some.ensures.some in
    rw (after.view) (few-kept _ _ _ after)
