use Rattle.std.proofs.Common.{◌≡◌, ℕ, ◌<◌, nat_lt, cond, ◌&&◌, length, get_or}
use Rattle.rules_maps.specs.Masks.{has as has_word}
use Rattle.overflow_buf.proofs.line.masked_words.Given as goal

abbrev pub invariant-loop-k : goal.invariant-loop-k
invariant-loop-k l = record {
  eight_words : length l.kept ≡ 8;
  so_far : (j : ℕ) → j < 8 → get_or l.kept j 0 ≡ cond (nat_lt j l.k && has_word l.mask j) (get_or l.words j 0) 0;
}
