-- The commits that a trace tells.
use Rattle.std.specs.Prelude.{ℕ, ◌≡◌, List, [], ◌∷◌, ◌++◌, map, nat_lt, IfSome, if◌then◌else◌}
use Rattle.tcc_base.specs.declared.access.Commit.{Commit}
use Rattle.rules_maps.specs.Nodes.{Event}
use Rattle.rules_maps.specs.Shape.{Shape}
use Rattle.rules_program.specs.Program.{Program}
use Rattle.rules_tcc.specs.State.{World}
use Rattle.rules_tcc.specs.Step.{run}
use Rattle.watch.specs.Facts.{Fact, Committed}
use Rattle.trace_law.specs.Told.{told, facts_in, begun}

-- what a trace tells of a commit
pub record CommitTold : Type 0 where
  pub tid : ℕ
  pub core : ℕ
  pub n : ℕ

abbrev pub as_told : Commit → CommitTold
as_told c = record { tid = c.tid.0; core = c.core.0; n = c.n }

abbrev pub commit_in : Fact → List CommitTold
commit_in (Committed t c n) = record { tid = t; core = c; n = n } ∷ []
commit_in _ = []

-- in the order told
unfoldable pub commits_in : List Fact → List CommitTold
commits_in [] = []
commits_in (f ∷ fs) = commit_in f ++ commits_in fs

-- behind those of smaller TIDs
unfoldable pub insert : CommitTold → List CommitTold → List CommitTold
insert c [] = c ∷ []
insert c (d ∷ ds) = if nat_lt c.tid d.tid then c ∷ d ∷ ds else d ∷ insert c ds

-- these, with more put in one after another
unfoldable pub with_inserted : (more : List CommitTold) → List CommitTold → List CommitTold
with_inserted [] ds = ds
with_inserted (c ∷ cs) ds = with_inserted cs (insert c ds)

-- by rising TID
abbrev pub by_tid : List CommitTold → List CommitTold
by_tid cs = with_inserted cs []

-- the commits that are told, by rising TID, are those of the run
abbrev pub CommitLines : Type 0
CommitLines =
    (sh : Shape) (p : Program) (w : World) (es : List Event)
    → IfSome (run sh p w es) (λ h. map as_told h.commits ≡ by_tid (commits_in (facts_in (told sh p es (begun w)))))
