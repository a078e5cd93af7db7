-- A core executes.
use Rattle.std.proofs.Common.{◌≡◌, None, true, sym, subst}
use Rattle.core_node.specs.Answers.{IsBlocked}
use Rattle.core_node.specs.AtHand.{executes}
use Rattle.bus_tcc.proofs.Banks.{acted-unchanged, acted-whole, executed-does, here, own-config, same-instruction, state-here}
use Rattle.bus_tcc.proofs.bank.BusBank.execute.Goals as goal

pub execute_one-requires-clause-same : goal.execute_one-requires-clause-same
execute_one-requires-clause-same c =
    let h = here _ c.self.inside _ c.args.core.0 _ c.self-inside.view_is c.self.invariant c.self.view_is c.requires.exists
    c.index_mut.ensures.value in
    sym (own-config _ _ _ _ h)

pub execute_one-requires-clause-executes : goal.execute_one-requires-clause-executes
execute_one-requires-clause-executes c =
    let h = here _ c.self.inside _ c.args.core.0 _ c.self-inside.view_is c.self.invariant c.self.view_is c.requires.exists
    c.index_mut.ensures.value in
    subst (λ s. executes s.phase ≡ true) (sym (state-here _ _ _ _ h)) c.requires.executes

pub execute_one-requires-clause-idle : goal.execute_one-requires-clause-idle
execute_one-requires-clause-idle c =
    let h = here _ c.self.inside _ c.args.core.0 _ c.self-inside.view_is c.self.invariant c.self.view_is c.requires.exists
    c.index_mut.ensures.value in
    subst (λ s. s.awaited ≡ None) (sym (state-here _ _ _ _ h)) c.requires.idle

pub invariant_of-self : goal.invariant_of-self
invariant_of-self c =
    let h = here _ c.self.inside _ c.args.core.0 _ c.self-inside.view_is c.self.invariant c.self.view_is c.requires.exists
    c.index_mut.ensures.value in
    acted-whole _ _ _ _ _ h c.execute_one.ensures.config c.execute_one.ensures.id

pub returns-clause-does : goal.returns-clause-does
returns-clause-does c =
    let h = here _ c.self.inside _ c.args.core.0 _ c.self-inside.view_is c.self.invariant c.self.view_is c.requires.exists
    c.index_mut.ensures.value in
    executed-does c.execute_one.result c.args.tid.0 _ _ _ _ _ _ _ h (same-instruction _ _ _ _ c.args.ram.now h) c.execute_one.ensures.does

pub returns-clause-blocked : goal.returns-clause-blocked
returns-clause-blocked c =
    let h = here _ c.self.inside _ c.args.core.0 _ c.self-inside.view_is c.self.invariant c.self.view_is c.requires.exists
    c.index_mut.ensures.value in
    subst (IsBlocked c.execute_one.result) (same-instruction _ _ _ _ c.args.ram.now h) c.execute_one.ensures.blocked

pub returns-clause-unchanged : goal.returns-clause-unchanged
returns-clause-unchanged c =
    let h = here _ c.self.inside _ c.args.core.0 _ c.self-inside.view_is c.self.invariant c.self.view_is c.requires.exists
    c.index_mut.ensures.value in
    acted-unchanged c.execute_one.result _ _ _ _ _ h c.execute_one.ensures.unchanged
