-- What is kept are the commits of no smaller TIDs, which are the last of rising ones.
use Rattle.std.proofs.Common.{◌≡◌, leb, ap, subst, sym, rules}
use Rattle.std.proofs.lemmas.Fn.{filter_same}
use Rattle.tcc_base.specs.declared.access.Commit.{Commit}
use Rattle.machine_commits.specs.Rising.{Rising}
use Rattle.machine_commits.specs.Forgetting.{Forgets}
use Rattle.machine_commits.proofs.Forgetting.{Rising-behind, forgets-first, those_from}
use Rattle.machine_commits.proofs.list.CommitList.forget_before.Goals as goal

kept : (c : goal.After-retain) → c.retain.new.self.items ≡ those_from c.args.tid.0 c.self.inside.commits.items
kept c = filter_same _ (λ (x : Commit). leb c.args.tid.0 x.tid.0) _ (λ x b f k. search rules) _ _ c.retain.ensures.filtered

forgets : (c : goal.After-retain) → Forgets c.args.tid.0 c.self.inside.commits.items c.retain.new.self.items
forgets c =
    subst (Forgets c.args.tid.0 c.self.inside.commits.items) (sym (kept c))
    (forgets-first c.args.tid.0 c.self.inside.commits.items c.self.invariant)

pub invariant_of-self : goal.invariant_of-self
invariant_of-self c =
    let f = forgets c in Rising-behind f.gone c.retain.new.self.items (subst Rising f.parts c.self.invariant)

pub returns-clause-forgets : goal.returns-clause-forgets
returns-clause-forgets c =
    subst (λ cs. Forgets c.args.tid.0 cs c.retain.new.self.items) (ap (λ s. s.list) c.self.view_is) (forgets c)

pub returns-clause-rising : goal.returns-clause-rising
returns-clause-rising c = subst Rising (ap (λ s. s.list) c.self.view_is) c.self.invariant
