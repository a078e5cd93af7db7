-- After each run the commits that are told, put in by rising TID, are the commits of the run.
use Rattle.std.proofs.Common.{◌≡◌, Bool, true, false, List, [], ◌∷◌, ◌++◌, map, Option, Some, None, IfSome, nat_lt, if◌then◌else◌}
use Rattle.std.proofs.Common.{refl, sym, ap, ◌∙◌}
use Rattle.tcc_base.specs.declared.access.Commit.{Commit as Noted}
use Rattle.rules_maps.specs.Nodes.{Event}
use Rattle.rules_maps.specs.Shape.{Shape}
use Rattle.rules_program.specs.Program.{Program}
use Rattle.rules_tcc.specs.Step.{History, Stepped, insert_commit, and_noted, and_then, next_history, recorded, run, run_from, step}
use Rattle.watch.specs.Facts.{Fact}
use Rattle.watch.specs.Happened.{facts_of, happened}
use Rattle.trace_law.specs.Commits.{CommitLines, CommitTold, as_told, commits_in, insert, with_inserted}
use Rattle.trace_law.specs.Told.{if_enabled, told, facts_in, begun}
use Rattle.trace_law.proofs.Events.{noted, commits-append, event-commits}
use Rattle.trace_law.proofs.Outcomes.{Happens, step-outcome}

inserted-as-told : (c : Noted) (ds : List Noted) → map as_told (insert_commit c ds) ≡ insert (as_told c) (map as_told ds)
unfolding insert_commit insert
inserted-as-told c [] = refl
inserted-as-told c (d ∷ ds) = go (nat_lt c.tid.0 d.tid.0) (inserted-as-told c ds)
  where
    go : (b : Bool) → map as_told (insert_commit c ds) ≡ insert (as_told c) (map as_told ds)
        → map as_told (if b then c ∷ d ∷ ds else d ∷ insert_commit c ds)
        ≡ (if b then as_told c ∷ as_told d ∷ map as_told ds else as_told d ∷ insert (as_told c) (map as_told ds))
    go true rest = refl
    go false rest = ap (λ cs. as_told d ∷ cs) rest

noted-as-told : (o : Option Noted) (ds : List Noted) → map as_told (and_noted o ds) ≡ with_inserted (noted o) (map as_told ds)
unfolding with_inserted
noted-as-told None ds = refl
noted-as-told (Some c) ds = inserted-as-told c ds

inserted-append : (xs ys ds : List CommitTold) → with_inserted (xs ++ ys) ds ≡ with_inserted ys (with_inserted xs ds)
unfolding with_inserted
inserted-append [] ys ds = refl
inserted-append (x ∷ xs) ys ds = inserted-append xs ys (insert x ds)

runs-committed : (sh : Shape) (p : Program) (es : List Event) (h : History)
    → IfSome (run_from sh p es h)
    (λ g. map as_told g.commits ≡ with_inserted (commits_in (facts_in (told sh p es h))) (map as_told h.commits))
unfolding run_from next_history told facts_in commits_in with_inserted happened
runs-committed sh p [] h = refl
runs-committed sh p (e ∷ es) h = go (step sh p h.world e) (step-outcome sh p h e) (runs-committed sh p es)
  where
    go : (o : Option Stepped) → IfSome o (λ t. Happens sh p h e t.world)
        → ((i : History) → IfSome (run_from sh p es i)
        (λ g. map as_told g.commits ≡ with_inserted (commits_in (facts_in (told sh p es i))) (map as_told i.commits)))
        → IfSome (and_then (run_from sh p es) (recorded h o)) (λ g. map as_told g.commits ≡ with_inserted
        (commits_in (facts_in (if_enabled (record { event = e; facts = facts_of sh p h e o }) (told sh p es) (recorded h o))))
        (map as_told h.commits))
    go None did rest = tt
    go (Some t) did rest = last (run_from sh p es i) (rest i)
      where
        i : History
        i = record { world = t.world; commits = and_noted t.noted h.commits }

        facts : List Fact
        facts = facts_of sh p h e (Some t)

        later : List Fact
        later = facts_in (told sh p es i)

        both : with_inserted (commits_in later) (map as_told (and_noted t.noted h.commits))
            ≡ with_inserted (commits_in (facts ++ later)) (map as_told h.commits)
        both =
            ap (with_inserted (commits_in later)) (noted-as-told t.noted h.commits
            ∙ ap (λ cs. with_inserted cs (map as_told h.commits)) (sym (event-commits sh p h e t did)))
            ∙ sym (inserted-append (commits_in facts) (commits_in later) (map as_told h.commits))
            ∙ ap (λ cs. with_inserted cs (map as_told h.commits)) (sym (commits-append facts later))

        last : (x : Option History)
            → IfSome x (λ g. map as_told g.commits ≡ with_inserted (commits_in later) (map as_told (and_noted t.noted h.commits)))
            → IfSome x (λ g. map as_told g.commits ≡ with_inserted (commits_in (facts ++ later)) (map as_told h.commits))
        last None q = tt
        last (Some g) q = q ∙ both

pub commit-lines : CommitLines
unfolding run
commit-lines sh p w es = runs-committed sh p es (begun w)
