-- A core executes.
use Rattle.std.proofs.Common.{sym, subst}
use Rattle.tcc_base.specs.Settings.{IsAllowed}
use Rattle.core_node.specs.Answers.{IsBlocked}
use Rattle.std.specs.Prelude.{IfOk}
use Rattle.core_node.specs.Executing.{TellsOfEvent}
use Rattle.machine_cores.proofs.Banks.{acted-config, acted-does, acted-unchanged, acted-whole, here, own-config, same-exec}
use Rattle.machine_cores.proofs.bank.CoreBank.exec.Goals as goal

pub exec-done-requires : goal.exec-done-requires
exec-done-requires c =
    let h = here _ c.self.inside _ c.args.core.0 _ c.self-inside.view_is c.self.invariant c.self.view_is c.requires.exists
    c.index_mut.ensures.value in
    record { same = sym (own-config _ _ _ _ h) }

pub recount-requires-clause-allowed : goal.recount-requires-clause-allowed
recount-requires-clause-allowed c =
    let h = here _ c.self.inside _ c.args.core.0 _ c.self-inside.view_is c.self.invariant c.self.view_is c.requires.exists
    c.index_mut.ensures.value in
    subst IsAllowed (sym (acted-config _ _ _ _ _ _ h c.exec-done.ensures.stays c.index.ensures)) h.whole.allowed

pub recount-requires-clause-same : goal.recount-requires-clause-same
recount-requires-clause-same c =
    let h = here _ c.self.inside _ c.args.core.0 _ c.self-inside.view_is c.self.invariant c.self.view_is c.requires.exists
    c.index_mut.ensures.value in
    sym (acted-config _ _ _ _ _ _ h c.exec-done.ensures.stays c.index.ensures)

pub invariant_of-self : goal.invariant_of-self
invariant_of-self c =
    let h = here _ c.self.inside _ c.args.core.0 _ c.self-inside.view_is c.self.invariant c.self.view_is c.requires.exists
    c.index_mut.ensures.value in
    acted-whole _ _ _ _ _ _ _ _ (record {
      before = h;
      stays = c.exec-done.ensures.stays;
      after = c.index.ensures;
      execs = c.recount.ensures.execs;
      evicts = c.recount.ensures.evicts;
    })

pub returns-clause-does : goal.returns-clause-does
returns-clause-does c =
    let h = here _ c.self.inside _ c.args.core.0 _ c.self-inside.view_is c.self.invariant c.self.view_is c.requires.exists
    c.index_mut.ensures.value in
    let same = same-exec _ _ _ _ h in
    acted-does c.exec-done.result _ _ _ _ _ _ _ c.recount.new.execs c.recount.new.evicts _ _ h same c.exec-done.ensures.does

pub returns-clause-told : goal.returns-clause-told
returns-clause-told c =
    let h = here _ c.self.inside _ c.args.core.0 _ c.self-inside.view_is c.self.invariant c.self.view_is c.requires.exists
    c.index_mut.ensures.value in
    let same = same-exec _ _ _ _ h in
    subst (λ o. IfOk c.exec-done.result (λ e. TellsOfEvent e o)) same c.exec-done.ensures.told

pub returns-clause-blocked : goal.returns-clause-blocked
returns-clause-blocked c =
    let h = here _ c.self.inside _ c.args.core.0 _ c.self-inside.view_is c.self.invariant c.self.view_is c.requires.exists
    c.index_mut.ensures.value in
    let same = same-exec _ _ _ _ h in
    subst (IsBlocked c.exec-done.result) same c.exec-done.ensures.blocked

pub returns-clause-unchanged : goal.returns-clause-unchanged
returns-clause-unchanged c =
    let h = here _ c.self.inside _ c.args.core.0 _ c.self-inside.view_is c.self.invariant c.self.view_is c.requires.exists
    c.index_mut.ensures.value in
    acted-unchanged c.exec-done.result _ _ _ _ _ c.recount.new.execs c.recount.new.evicts h c.exec-done.ensures.unchanged
