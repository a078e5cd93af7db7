use Rattle.std.proofs.Common.{take, length}
use Rattle.run_outcomes.proofs.Normal.{AreSoFar}
use Rattle.run_outcomes.specs.Changes.{AreInside}
use Rattle.run_outcomes.specs.Left.{IsTold}
use Rattle.rules_program.specs.Ram.{flat}
use Rattle.run_outcomes.proofs.changes.differing.Given as goal

abbrev pub invariant-loop-k : goal.invariant-loop-k
invariant-loop-k l =
    IsTold l.memory (take l.k l.words) l.changes
    × AreInside (length l.memory.ram) l.changes
    × AreSoFar (flat l.memory.ram) l.words l.k l.changes
