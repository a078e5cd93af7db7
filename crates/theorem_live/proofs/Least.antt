-- The least number at which a function isn't 0.
use Rattle.std.specs.Prelude.{ℕ, zero, suc, ◌≡◌, ◌<◌, ◌≤◌}
use Rattle.std.proofs.Common.{arith, refl, ap, ◌⊎◌, inl, inr}
use Rattle.std.proofs.lemmas.Bool.{cases_eq}

-- t is the least number below n at which f isn't 0
pub record IsLeast (f : ℕ → ℕ) (n t : ℕ) : Type 0 where
  pub below : t < n
  pub some : 1 ≤ f t
  pub first : (u : ℕ) → u < t → f u ≡ 0

pub least : (f : ℕ → ℕ) (n : ℕ) → ((t : ℕ) × IsLeast f n t) ⊎ ((u : ℕ) → u < n → f u ≡ 0)
least f zero = inr (λ u l. absurd (omega arith))
least f (suc n) = go (least f n) (f n) refl
  where
    go : ((t : ℕ) × IsLeast f n t) ⊎ ((u : ℕ) → u < n → f u ≡ 0) → (x : ℕ) → f n ≡ x
        → ((t : ℕ) × IsLeast f (suc n) t) ⊎ ((u : ℕ) → u < suc n → f u ≡ 0)
    go (inl r) x e = inl (r.0, record { below = omega (arith, (r.1).below); some = (r.1).some; first = (r.1).first })
    go (inr r) (suc x) e = inl (n, record { below = omega arith; some = omega (arith, e); first = r })
    go (inr r) zero e = inr (λ u l. last u (cases_eq u n) l)
      where
        last : (u : ℕ) → (u ≡ n) ⊎ (u ≡ n → ⊥) → u < suc n → f u ≡ 0
        last u (inl q) l = let h : f u ≡ f n = ap f q in omega (arith, e)
        last u (inr q) l = r u (omega arith)
