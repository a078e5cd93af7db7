-- A machine that forgets the commits that all directories have passed keeps what is asked for.
use Rattle.std.proofs.Common.{◌≡◌, ℕ, ◌≤◌, ◌==◌, List, [], ◌∷◌, ◌++◌, false, Option, Some, None, refl, ap, sym, subst, ◌∙◌, arith}
use Rattle.std.proofs.lemmas.Bool.Decides.{nat_tests}
use Rattle.tcc_base.specs.declared.access.Commit.{Commit}
use Rattle.rules_maps.specs.Words.{or_else}
use Rattle.machine_commits.specs.Forgetting.{AllBelow}
use Rattle.net_core.specs.Forgotten.{Forgot}
use Rattle.net_core.specs.Machine.{Machine, history_of, world_of}
use Rattle.watch.specs.Messages.{commit_of}
use Rattle.watch_run.specs.Forgetting.{StillKeeps}

-- commits of smaller TIDs before others
of-later : (s t : ℕ) (gone cs : List Commit) → s ≤ t → AllBelow s gone → commit_of t (gone ++ cs) ≡ commit_of t cs
unfolding commit_of AllBelow
of-later s t [] cs h a = refl
of-later s t (c ∷ gone) cs h (less, rest) =
    let other : (c.tid.0 == t) ≡ false = grind (arith, nat_tests) in
    rw (of-later s t gone cs h rest, other) (go (commit_of t cs))
  where
    go : (o : Option Commit) → or_else o None ≡ o
    go None = refl
    go (Some x) = refl

pub keeps-all : (m : Machine) → StillKeeps m m
keeps-all m = record { keeps = λ h k. k; world = refl; unsent = refl; events = refl; code = refl }

pub keeps-unpassed : (m n : Machine) → Forgot m n → world_of n ≡ world_of m → n.unsent ≡ m.unsent → n.cores ≡ m.cores
    → n.events ≡ m.events → StillKeeps m n
unfolding history_of
keeps-unpassed m n f w u cores events = record {
  keeps = λ h k. record {
    world = w ∙ k.world;
    commits = λ d t dl le.
        let served : ((world_of m).dirs d).serving.serving ≤ t = subst (λ v. (v.dirs d).serving.serving ≤ t) (sym k.world) le in
        let least = f.least.all d dl in
        sym (of-later f.tid t f.forgets.gone n.commits (omega (arith, served, least)) f.forgets.below)
        ∙ ap (commit_of t) (sym f.forgets.parts) ∙ k.commits d t dl le;
  };
  world = w;
  unsent = u;
  events = events;
  code = ap (λ c. c.code) cores;
}
