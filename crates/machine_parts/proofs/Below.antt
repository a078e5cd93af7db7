-- What holds below a number.
use Rattle.std.proofs.Common.{◌≢◌, ℕ, ◌+◌, ◌<◌, inl, inr, subst, sym, arith}
use Rattle.std.proofs.lemmas.Bool.{cases_eq}

pub below-none : (P : ℕ → Type 0) → (j : ℕ) → j < 0 → P j
below-none P = λ j l. absurd (omega (arith, l))

-- and for one more
pub below-more : (n : ℕ) (P : ℕ → Type 0) → ((j : ℕ) → j < n → P j) → P n → (j : ℕ) → j < n + 1 → P j
below-more n P w p = λ j l. elim (cases_eq j n) [
  | inl e ↦ subst P (sym e) p
  | inr e ↦ w j (let other : j ≢ n = e in omega (arith, l, other))
]
