-- The commits of a run are those that its events noted.
use Rattle.std.proofs.Common.{◌≡◌, List, [], ◌∷◌, Option, Some, None, refl}
use Rattle.std.specs.Prelude.{IfSome}
use Rattle.rules_maps.specs.Nodes.{Event}
use Rattle.rules_maps.specs.Shape.{Shape}
use Rattle.rules_program.specs.Program.{Program}
use Rattle.rules_riscv.specs.Starting.{world_at_start}
use Rattle.rules_tcc.specs.State.{World}
use Rattle.rules_tcc.specs.Step.{History, Stepped, and_noted, and_then, next_history, recorded, run, run_from, step}
use Rattle.rv_code.specs.Machine.{program}
use Rattle.tcc_base.specs.declared.access.Commit.{Commit}
use Rattle.watch_run.specs.Consoles.{if_noted, noted_of, noted_then}
use Rattle.console_law.specs.Told.{NotedAreTheCommits, with_more}

noted-more : (noted : Option Commit) (more cs : List Commit) → with_more (noted_then noted more) cs ≡ with_more more (and_noted noted cs)
unfolding with_more
noted-more None more cs = refl
noted-more (Some c) more cs = refl

further : (sh : Shape) (p : Program) (es : List Event) (h : History)
    → IfSome (run_from sh p es h) (λ g. g.commits ≡ with_more (noted_of sh p es h.world) h.commits)
unfolding run_from noted_of next_history with_more
further sh p [] h = refl
further sh p (e ∷ es) h = go (step sh p h.world e) (further sh p es)
  where
    later : World → List Commit
    later = noted_of sh p es

    go : (o : Option Stepped)
        → ((k : History) → IfSome (run_from sh p es k) (λ g. g.commits ≡ with_more (later k.world) k.commits))
        → IfSome (and_then (run_from sh p es) (recorded h o)) (λ g. g.commits ≡ with_more (if_noted later o) h.commits)
    go None behind = tt
    go (Some o) behind =
        rw (noted-more o.noted (later o.world) h.commits) (behind (record { world = o.world; commits = and_noted o.noted h.commits }))

pub noted-are-the-commits : NotedAreTheCommits
unfolding run
noted-are-the-commits s es = further s.settings (program s) es (record { world = world_at_start s; commits = [] })
