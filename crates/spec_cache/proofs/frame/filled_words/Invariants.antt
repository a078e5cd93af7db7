use Rattle.std.proofs.Common.{◌≡◌, ℕ, ◌<◌, nat_lt, cond, ◌&&◌, not, length, get_or}
use Rattle.rules_maps.specs.Masks.{has as has_word}
use Rattle.spec_cache.proofs.frame.filled_words.Given as goal

abbrev pub invariant-loop-k : goal.invariant-loop-k
invariant-loop-k l = record {
  eight_words : length l.filled ≡ 8;
  so_far : (j : ℕ) → j < 8 → get_or l.filled j 0 ≡ cond (nat_lt j l.k && not (has_word l.valid j)) (get_or l.values j 0)
      (get_or l.words j 0);
}
