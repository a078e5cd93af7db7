-- The answers of a directory that never drops a message.
use Rattle.std.proofs.Common.{ℕ, Bool, true, false}
use Rattle.std.proofs.Common.{refl, if◌then◌else◌}
use Rattle.std.specs.Prelude.{nat_lt, ◌==◌, ◌&&◌}
use Rattle.rules_maps.specs.Lines.{has_mark}
use Rattle.rules_maps.specs.Nodes.{Probe, Commit}
use Rattle.rules_maps.specs.Shape.{Shape, lines}
use Rattle.rules_maps.specs.Words.{count_below}
use Rattle.rules_tcc.specs.DirDeliver.{Waits, Takes, dir_commit, probe}
use Rattle.rules_tcc.specs.Sends.{Sends}
use Rattle.rules_tcc.specs.State.{DirState}
use Rattle.watch_machine.specs.Telling.{IsAnswer}
use Rattle.watch_machine.specs.declared.answering.Became.TheVariants as became

pub probe-taken : (c t : ℕ) (s : DirState) → IsAnswer became.Taken (Probe t) (probe c t s)
unfolding probe
probe-taken c t s = go (nat_lt s.serving.serving t) _ _
  where
    go : (b : Bool) (d : DirState) (sends : Sends) → IsAnswer became.Taken (Probe t) (if b then Waits else Takes d sends)
    go true d sends = tt
    go false d sends = refl

pub commit-taken : (sh : Shape) (c t n : ℕ) (s : DirState) → IsAnswer became.Taken (Commit t n) (dir_commit sh c t n s)
unfolding dir_commit
commit-taken sh c t n s = go (s.serving.serving == t && count_below (has_mark s.lines) (lines sh) == n) _ _
  where
    go : (b : Bool) (d : DirState) (sends : Sends) → IsAnswer became.Taken (Commit t n) (if b then Takes d sends else Waits)
    go true d sends = refl
    go false d sends = tt
