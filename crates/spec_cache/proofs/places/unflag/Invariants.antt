use Rattle.std.proofs.Common.{◌≡◌, ◌<◌, ℕ, get_or, true, false, length}
use Rattle.spec_cache.proofs.places.unflag.Given as goal

abbrev pub invariant-loop-at : goal.invariant-loop-at
invariant-loop-at l = record {
  size : length l.flags ≡ length l.initial.flags;
  kept : (i : ℕ) → get_or l.flags i false ≡ true → get_or l.initial.flags i false ≡ true;
  gone : (j : ℕ) → j < l.at-index → get_or l.flags (get_or l.places j 0) false ≡ false;
}
