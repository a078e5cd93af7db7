use Rattle.std.proofs.Common.{◌≡◌, length}
use Rattle.rules_maps.specs.Masks.{has}
use Rattle.rules_tcc.specs.Commit.{with_last_commit}
use Rattle.commit_engine.specs.Engine.{after_of, first_with}
use Rattle.commit_engine.proofs.commits.note_commit.Given as goal

abbrev pub invariant-loop-d : goal.invariant-loop-d
invariant-loop-d l =
    record {
      noted : after_of l.after ≡ with_last_commit (first_with l.d (has l.written.bits)) l.tid.0 (after_of l.fn.after);
      count : length l.after ≡ 64;
    }
