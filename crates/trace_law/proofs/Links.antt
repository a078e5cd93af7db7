-- One link: what is on it once messages are sent at its end, and once one is consumed.
use Rattle.std.proofs.Common.{◌≡◌, ◌==◌, ◌+◌, ◌⊎◌, ℕ, zero, suc, Bool, false, not, List, [], ◌∷◌, ◌++◌, Some, None}
use Rattle.std.proofs.Common.{nat_lt, ◌&&◌, is_some, cond, length, refl, ap, ◌∙◌, inl, inr, arith}
use Rattle.std.specs.Prelude.{slice_set, slice_index_or}
use Rattle.std.proofs.lemmas.Bool.Decides.{nat_tests}
use Rattle.rules_maps.specs.Nodes.{Msg}
use Rattle.rules_tcc.specs.Laws.{counting}
use Rattle.rules_tcc.specs.Links.{sent_all}
use Rattle.rules_tcc.specs.State.{Link}

pub length-sent : (l : Link) (ms : List Msg) → length (l ++ sent_all ms) ≡ length l + length ms
unfolding sent_all
length-sent [] [] = refl
length-sent [] (m ∷ ms) = omega (arith, length-sent [] ms)
length-sent (x ∷ l) ms = omega (arith, length-sent l ms)

pub length-set : (l : Link) (i : ℕ) → length (slice_set l i None) ≡ length l
length-set [] i = refl
length-set (x ∷ xs) zero = refl
length-set (x ∷ xs) (suc i) = ap (λ n. suc n) (length-set xs i)

-- the numbers of one list, and of what follows it
pub counting-more : (a n m : ℕ) → counting a (n + m) ≡ counting a n ++ counting (a + n) m
unfolding counting
counting-more a zero m = λ i. counting (start i) (all i)
  where
    start : a ≡ a + 0
    start = omega arith

    all : 0 + m ≡ m
    all = omega arith
counting-more a (suc n) m =
    let all : suc n + m ≡ suc (n + m) = omega arith in
    let start : a + 1 + n ≡ a + suc n = omega arith in
    ap (counting a) all ∙ ap (λ ks. a ∷ ks) (counting-more (a + 1) n m) ∙ ap (λ b. counting a (suc n) ++ counting b m) start

-- ---- which message is in flight

-- it was there before, or it was sent
pub in-sent : (l ms : Link) (j : ℕ) (m : Msg) → slice_index_or (l ++ ms) j None ≡ Some m
    → (slice_index_or l j None ≡ Some m) ⊎ ((i : ℕ) × (j ≡ length l + i) × (slice_index_or ms i None ≡ Some m))
in-sent [] ms j m e = inr (j, omega arith, e)
in-sent (x ∷ l) ms zero m e = inl e
in-sent (x ∷ l) ms (suc j) m e = go (in-sent l ms j m e)
  where
    go : (slice_index_or l j None ≡ Some m) ⊎ ((i : ℕ) × (j ≡ length l + i) × (slice_index_or ms i None ≡ Some m))
        → (slice_index_or l j None ≡ Some m) ⊎ ((i : ℕ) × (suc j ≡ length (x ∷ l) + i) × (slice_index_or ms i None ≡ Some m))
    go (inl f) = inl f
    go (inr f) = inr (f.0, omega (arith, f.1), f.2)

pub in-set : (l : Link) (i j : ℕ) (m : Msg) → slice_index_or (slice_set l i None) j None ≡ Some m → slice_index_or l j None ≡ Some m
in-set [] i j m e = e
in-set (x ∷ l) zero zero m e = absurd cc
in-set (x ∷ l) zero (suc j) m e = e
in-set (x ∷ l) (suc i) zero m e = e
in-set (x ∷ l) (suc i) (suc j) m e = in-set l i j m e

-- ---- which is gone: it was sent, and isn't in flight

abbrev pub gone_in : Link → ℕ → Bool
gone_in l j = nat_lt j (length l) && not (is_some (slice_index_or l j None))

none-gone : (ms : List Msg) (j : ℕ) → gone_in (sent_all ms) j ≡ false
unfolding sent_all
none-gone [] j = grind (arith, nat_tests)
none-gone (m ∷ ms) zero = grind (arith, nat_tests)
none-gone (m ∷ ms) (suc j) = let rest = none-gone ms j in grind (arith, nat_tests, rest)

pub gone-sent : (l : Link) (ms : List Msg) (j : ℕ) → gone_in (l ++ sent_all ms) j ≡ gone_in l j
gone-sent [] ms j = let none = none-gone ms j in grind (arith, nat_tests, none)
gone-sent (x ∷ l) ms zero = grind (arith, nat_tests)
gone-sent (x ∷ l) ms (suc j) = let rest = gone-sent l ms j in grind (arith, nat_tests, rest)

pub gone-set : (l : Link) (i j : ℕ) (m : Msg) → slice_index_or l i None ≡ Some m
    → cond (gone_in (slice_set l i None) j) 1 0 ≡ cond (j == i) 1 0 + cond (gone_in l j) 1 0
gone-set [] i j m e = absurd cc
gone-set (x ∷ l) zero zero m e = let there : x ≡ Some m = e in rw there (grind (arith, nat_tests))
gone-set (x ∷ l) zero (suc j) m e = grind (arith, nat_tests)
gone-set (x ∷ l) (suc i) zero m e = grind (arith, nat_tests)
gone-set (x ∷ l) (suc i) (suc j) m e = let rest = gone-set l i j m e in grind (arith, nat_tests, rest)
