-- Commits that are told as they are noted, and those of the run's history.
use Rattle.std.specs.Prelude.{ℕ, ◌≡◌, ◌<◌, List, [], ◌∷◌}
use Rattle.image_load.specs.Start.{Start}
use Rattle.rules_maps.specs.Nodes.{Event}
use Rattle.rules_program.specs.Cores.{printed}
use Rattle.rules_riscv.specs.Starting.{AfterRun, world_at_start}
use Rattle.rules_tcc.specs.Step.{insert_commit}
use Rattle.rv_code.specs.Machine.{program}
use Rattle.tcc_base.specs.Settings.{IsAllowed}
use Rattle.tcc_base.specs.declared.access.Commit.{Commit}
use Rattle.theorem_riscv.specs.Given.{committed}
use Rattle.watch_run.specs.Consoles.{noted_of}

-- the commits that a run's events note, in the order in which they do: those whose lines `printed_from` of `watch_run` writes
abbrev pub noted : Start → List Event → List Commit
noted s es = noted_of s.settings (program s) es (world_at_start s)

-- these commits, and more, each put behind those of smaller TIDs
unfoldable pub with_more : (more : List Commit) → List Commit → List Commit
with_more [] cs = cs
with_more (c ∷ more) cs = with_more more (insert_commit c cs)

-- by rising TID those that were noted are the commits of the run
abbrev pub NotedAreTheCommits : Type 0
NotedAreTheCommits = (s : Start) (es : List Event) → AfterRun s es (λ h. h.commits ≡ with_more (noted s es) [])

-- what those of a core print, one after another as they were noted, is the core's console in the report
abbrev pub ConsolesAreTheReports : Type 0
ConsolesAreTheReports =
    (s : Start) (es : List Event) → IsAllowed s.settings
    → AfterRun s es (λ h. (core : ℕ) → core < s.settings.cores → ((committed s h).cores core).console ≡ printed core (noted s es))
