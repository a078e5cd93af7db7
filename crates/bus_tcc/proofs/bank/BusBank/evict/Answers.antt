-- A core empties a way.
use Rattle.std.proofs.Common.{subst}
use Rattle.core_node.specs.Answers.{IsBlocked}
use Rattle.rules_tcc.specs.CoreEvict.{core_evict}
use Rattle.bus_tcc.proofs.Banks.{acted-does, acted-unchanged, acted-whole, here, same-rule}
use Rattle.bus_tcc.proofs.bank.BusBank.evict.Goals as goal

pub invariant_of-self : goal.invariant_of-self
invariant_of-self c =
    let h = here _ c.self.inside _ c.args.core.0 _ c.self-inside.view_is c.self.invariant c.self.view_is c.requires.exists
    c.index_mut.ensures.value in
    acted-whole _ _ _ _ _ h c.evict.ensures.stays.config c.evict.ensures.stays.id

pub returns-clause-does : goal.returns-clause-does
returns-clause-does c =
    let h = here _ c.self.inside _ c.args.core.0 _ c.self-inside.view_is c.self.invariant c.self.view_is c.requires.exists
    c.index_mut.ensures.value in
    let same = same-rule (λ s x. core_evict s c.args.set c.args.way x) _ _ _ _ h in
    acted-does c.evict.result _ _ _ _ _ _ _ _ _ h same c.evict.ensures.does

pub returns-clause-blocked : goal.returns-clause-blocked
returns-clause-blocked c =
    let h = here _ c.self.inside _ c.args.core.0 _ c.self-inside.view_is c.self.invariant c.self.view_is c.requires.exists
    c.index_mut.ensures.value in
    let same = same-rule (λ s x. core_evict s c.args.set c.args.way x) _ _ _ _ h in
    subst (IsBlocked c.evict.result) same c.evict.ensures.blocked

pub returns-clause-unchanged : goal.returns-clause-unchanged
returns-clause-unchanged c =
    let h = here _ c.self.inside _ c.args.core.0 _ c.self-inside.view_is c.self.invariant c.self.view_is c.requires.exists
    c.index_mut.ensures.value in
    acted-unchanged c.evict.result _ _ _ _ _ h c.evict.ensures.unchanged
