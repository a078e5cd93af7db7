-- What is proved along every run of the marks of directories: they are the words stored.
use Rattle.std.specs.Prelude.{ℕ, ◌≡◌, ◌<◌, ◌≤◌, true, List, Contains, IfSome, nat_lt}
use Rattle.tcc_base.specs.declared.access.Commit.{Commit as Noted}
use Rattle.rules_program.specs.Program.{Local, Program}
use Rattle.rules_maps.specs.Words.{count_below}
use Rattle.rules_maps.specs.Cache.{modified_mask}
use Rattle.rules_maps.specs.Lines.{has_mark}
use Rattle.rules_maps.specs.Nodes.{Core, Dir, Event}
use Rattle.rules_maps.specs.Shape.{Shape, lines}
use Rattle.rules_tcc.specs.State.{World, start}
use Rattle.rules_tcc.specs.Step.{run}
use Rattle.theorem_serial.specs.Count.{Commits, CommitOf, live}
use Rattle.theorem_serial.specs.Marks.{stores_line}
use Rattle.theorem_serial.specs.Pairs.{pair}
use Rattle.theorem_serial.specs.Stored.{stored_mask, stores_at, MarkedWith}
use Rattle.theorem_serial.specs.Tids.{has_tid}

-- P holds of every state that a run reaches, and of the commits until then
abbrev pub AlwaysSince : (Shape → List Noted → World → Type 0) → Type 0
AlwaysSince P = (sh : Shape) (p : Program) (entries : ℕ → Local) (ram : ℕ → ℕ) (es : List Event)
    → IfSome (run sh p (start entries ram) es) (λ r. P sh r.commits r.world)

-- A directory that has marked a line serves a TID that was granted. Where a core has this TID, it stores the line, and the mark
-- is of the words that it has modified.
pub record MarkedByServed (sh : Shape) (w : World) : Type 0 where
  pub granted : (d l : ℕ) → has_mark (w.dirs d).lines l ≡ true → (w.dirs d).serving.serving < w.next
  pub stored : (c d l : ℕ) → c < sh.cores → d < sh.dirs → has_tid (w.cores c).phase (w.dirs d).serving.serving ≡ true
      → has_mark (w.dirs d).lines l ≡ true → stores_line sh (w.cores c).cache d l ≡ true
  pub masked : (c d l : ℕ) → c < sh.cores → d < sh.dirs → has_tid (w.cores c).phase (w.dirs d).serving.serving ≡ true
      → has_mark (w.dirs d).lines l ≡ true → (w.dirs d).lines.mark l ≡ modified_mask (w.cores c).cache l

-- Of each commit so far: while its Commit is in flight to a directory, it stored there, the Commit counts the lines in which it did,
-- and the Marks of its TID there are one of each of these lines, with the stored words as its mask. Where the directory may take this
-- Commit, and while it is owed acknowledgements of it, its marks are these words and no others.
pub record MarksOfCommits (sh : Shape) (cs : List Noted) (w : World) : Type 0 where
  pub stored : (x : Noted) (d : ℕ) → Contains cs x → d < sh.dirs → 1 ≤ live (Commits x.tid.0) (w.net (Core x.core.0) (Dir d))
      → stores_at sh d x.stores ≡ true
  pub counted : (x : Noted) (d n : ℕ) → Contains cs x → d < sh.dirs → 1 ≤ live (CommitOf x.tid.0 n) (w.net (Core x.core.0) (Dir d))
      → count_below (λ l. nat_lt 0 (stored_mask sh d x.stores l)) (lines sh) ≡ n
  pub sent : (x : Noted) (d l : ℕ) → Contains cs x → d < sh.dirs → 1 ≤ live (Commits x.tid.0) (w.net (Core x.core.0) (Dir d))
      → MarkedWith x.tid.0 l (stored_mask sh d x.stores l) (pair w x.core.0 d)
  pub taken : (x : Noted) (d l : ℕ) → Contains cs x → d < sh.dirs → (w.dirs d).serving.serving ≡ x.tid.0
      → 1 ≤ live (CommitOf x.tid.0 (count_below (has_mark (w.dirs d).lines) (lines sh))) (w.net (Core x.core.0) (Dir d))
      → (w.dirs d).lines.mark l ≡ stored_mask sh d x.stores l
  pub owed : (x : Noted) (d l : ℕ) → Contains cs x → d < sh.dirs → (w.dirs d).serving.serving ≡ x.tid.0 → 1 ≤ (w.dirs d).owed
      → (w.dirs d).lines.mark l ≡ stored_mask sh d x.stores l
