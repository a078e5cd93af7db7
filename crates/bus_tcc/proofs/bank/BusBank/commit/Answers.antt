-- A core commits.
use Rattle.std.proofs.Common.{◌≡◌, ◌<◌, None, sym, subst, arith}
use Rattle.rules_maps.specs.Shape.{lines}
use Rattle.bus_tcc.proofs.Banks.{acted-unchanged, acted-whole, here, own-config, state-here}
use Rattle.bus_tcc.proofs.BankCommits.{bank-can, bank-commits, bank-may, bank-wrote}
use Rattle.bus_tcc.proofs.bank.BusBank.commit.Goals as goal

pub commit_one-requires : goal.commit_one-requires
commit_one-requires c =
    let h = here _ c.self.inside _ c.args.core.0 _ c.self-inside.view_is c.self.invariant c.self.view_is c.requires.exists
    c.index_mut.ensures.value in
    let own = own-config _ _ _ _ h in
    let most = h.whole.allowed.4.1 in
    record {
      small = subst (λ s. lines s < 536870911) (sym own) (omega (arith, most));
      same = sym own;
      idle = subst (λ s. s.awaited ≡ None) (sym (state-here _ _ _ _ h)) c.requires.idle;
      commits = bank-may c.args.tid.0 _ _ _ _ h c.requires.commits;
      can = bank-can _ _ _ _ h c.requires.can;
    }

pub invariant_of-self : goal.invariant_of-self
invariant_of-self c =
    let h = here _ c.self.inside _ c.args.core.0 _ c.self-inside.view_is c.self.invariant c.self.view_is c.requires.exists
    c.index_mut.ensures.value in
    acted-whole _ _ _ _ _ h c.commit_one.ensures.config c.commit_one.ensures.id

pub returns-clause-does : goal.returns-clause-does
returns-clause-does c =
    let h = here _ c.self.inside _ c.args.core.0 _ c.self-inside.view_is c.self.invariant c.self.view_is c.requires.exists
    c.index_mut.ensures.value in
    bank-commits c.commit_one.result c.args.tid.0 _ _ _ _ _ h c.commit_one.ensures.does

pub returns-clause-wrote : goal.returns-clause-wrote
returns-clause-wrote c =
    let h = here _ c.self.inside _ c.args.core.0 _ c.self-inside.view_is c.self.invariant c.self.view_is c.requires.exists
    c.index_mut.ensures.value in
    bank-wrote c.commit_one.result c.args.tid.0 _ _ _ _ h c.commit_one.ensures.wrote

pub returns-clause-unchanged : goal.returns-clause-unchanged
returns-clause-unchanged c =
    let h = here _ c.self.inside _ c.args.core.0 _ c.self-inside.view_is c.self.invariant c.self.view_is c.requires.exists
    c.index_mut.ensures.value in
    acted-unchanged c.commit_one.result _ _ _ _ _ h c.commit_one.ensures.unchanged
