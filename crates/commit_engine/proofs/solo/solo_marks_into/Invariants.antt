use Rattle.std.proofs.Common.{◌≡◌, map, nat_lt, take}
use Rattle.std.specs.List.{filter}
use Rattle.rules_tcc.specs.Commit.{written_mask}
use Rattle.spec_cache.specs.Held.{maps}
use Rattle.spec_cache.specs.Home.{mark_of}
use Rattle.overflow_buf.specs.Kept.{spilled as words_of}
use Rattle.commit_engine.proofs.solo.solo_marks_into.Given as goal

abbrev pub invariant-loop-line : goal.invariant-loop-line
invariant-loop-line l = record {
  made : map mark_of l.marks.items
      ≡ map (λ k. (k, written_mask (maps l.cache) (words_of l.spilled) k)) (filter (λ k. nat_lt k l.end) (take l.line-index l.line-items));
}
