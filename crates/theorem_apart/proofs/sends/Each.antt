-- What holds of each message of a list.
use Rattle.std.specs.Prelude.{ℕ, zero, suc, ◌≡◌, ◌<◌, Bool, true, false, cond, List, [], ◌∷◌, ◌++◌, length, slice_index_or, All}
use Rattle.std.specs.List.{flat_map}
use Rattle.std.proofs.Common.{arith, refl}
use Rattle.std.proofs.lemmas.Grind.{flat_map-append}
use Rattle.rules_maps.specs.Nodes.{Msg}
use Rattle.rules_maps.specs.Words.{those}
use Rattle.rules_tcc.specs.Sends.{when}

unfoldable pub Each : (Msg → Type 0) → List Msg → Type 0
Each P [] = Unit {0}
Each P (m ∷ ms) = P m × Each P ms

pub each-all : (P : Msg → Type 0) (ms : List Msg) → Each P ms → All P ms
unfolding Each
each-all P [] x = λ k d i. absurd (omega (arith, i))
each-all P (m ∷ ms) x = λ k d i. go k d i (each-all P ms (x.1))
  where
    go : (k : ℕ) (d : Msg) → k < suc (length ms) → All P ms → P (slice_index_or (m ∷ ms) k d)
    go zero d i r = x.0
    go (suc k) d i r = r k d (omega (arith, i))

pub each-none : (P : Msg → Type 0) → Each P []
unfolding Each
each-none P = tt

pub each-one : (P : Msg → Type 0) (m : Msg) → P m → Each P (m ∷ [])
unfolding Each
each-one P m x = (x, tt)

pub each-append : (P : Msg → Type 0) (a b : List Msg) → Each P a → Each P b → Each P (a ++ b)
unfolding Each
each-append P [] b x y = y
each-append P (m ∷ a) b x y = (x.0, each-append P a b (x.1) y)

pub each-when : (P : Msg → Type 0) (b : Bool) (m : Msg) → P m → Each P (when b (m ∷ []))
each-when P true m x = each-one P m x
each-when P false m x = each-none P

-- one of each number
pub each-flat : (P : Msg → Type 0) (f : ℕ → Msg) (xs : List ℕ) → ((l : ℕ) → P (f l)) → Each P (flat_map (λ l. f l ∷ []) xs)
unfolding Each
each-flat P f [] h = tt
each-flat P f (x ∷ xs) h = (h x, each-flat P f xs h)

-- one of each number below n that has p
pub each-those : (P : Msg → Type 0) (f : ℕ → Msg) (p : ℕ → Bool) (n : ℕ) → ((l : ℕ) → l < n → p l ≡ true → P (f l))
    → Each P (flat_map (λ l. f l ∷ []) (those p n))
unfolding those
each-those P f p zero h = each-none P
each-those P f p (suc n) h = rw flat_map-append
    (each-append P _ _ (each-those P f p n (λ l i e. h l (omega (arith, i)) e)) (last (p n) refl))
  where
    last : (b : Bool) → p n ≡ b → Each P (flat_map (λ l. f l ∷ []) (cond b (n ∷ []) []))
    last false e = each-none P
    last true e = each-one P (f n) (h n (omega arith) e)
