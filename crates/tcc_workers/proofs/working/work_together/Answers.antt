use Rattle.std.proofs.Common.{◌∙◌, length, drop, arith}
use Rattle.tcc_workers.proofs.Shares.{sum-of_shares}
use Rattle.tcc_workers.proofs.working.work_together.Goals as goal

-- the tickets count the steps at most, and the one that takes them back has counted nothing
pub take_back-requires-clause-moved : goal.take_back-requires-clause-moved
take_back-requires-clause-moved g c =
    let count = c.in_ok-slots.ensures.count in
    let given = c.in_ok-slots.slots in
    let len = c.do_shares.ensures.count ∙ c.deref_mut.ensures.len ∙ count in
    let all = sum-of_shares (λ s. s.ticket.moved) c.args.plan.now.steps c.args.plan.now.threads given.len c.do_shares.new.slots
    (drop (length c.do_shares.new.slots) given.items) count len c.do_shares.ensures.few in
    let kept = c.hand_out.ensures.moved in
    let fresh = c.requires.fresh in
    let few = c.requires.steps in
    omega (arith, all, kept, fresh, few)

pub returns-clause-few : goal.returns-clause-few
returns-clause-few g c =
    let count = c.in_ok-slots.ensures.count in
    let given = c.in_ok-slots.slots in
    let len = c.do_shares.ensures.count ∙ c.deref_mut.ensures.len ∙ count in
    let all = sum-of_shares (λ s. s.ticket.moved) c.args.plan.now.steps c.args.plan.now.threads given.len c.do_shares.new.slots
    (drop (length c.do_shares.new.slots) given.items) count len c.do_shares.ensures.few in
    let kept = c.hand_out.ensures.moved in
    let fresh = c.requires.fresh in
    let taken = c.take_back.ensures.moved in
    omega (arith, all, kept, fresh, taken)
