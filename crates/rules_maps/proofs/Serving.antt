-- Skipping and advancing, said of each TID.
use Rattle.std.proofs.Common.{◌≡◌, ℕ, suc, zero, ◌+◌, ◌-◌, ◌<◌, ◌≤◌, Bool, true, false, ◌||◌, List, [], ◌∷◌, get_or, eqb, refl, ap, ◌∙◌}
use Rattle.std.proofs.Common.{sym, arith, ⊎_elim}
use Rattle.std.proofs.lemmas.Bool.{cases_eq}
use Rattle.std.proofs.lemmas.Bool.Decides.{nat_tests}
use Rattle.rules_maps.specs.Serving.{Serving, serve_from, advance, skip_at, kept, is_skipped, first_serving}

serve_from-least : (bs : List Bool) (t : ℕ) → t ≤ (serve_from t bs).serving
unfolding serve_from
serve_from-least [] t = omega arith
serve_from-least (true ∷ bs) t = omega (arith, serve_from-least bs (t + 1))
serve_from-least (false ∷ bs) t = omega arith

-- an item of a list at an index that is given by an equation
get-head : (b : Bool) (bs : List Bool) (i : ℕ) → i ≡ 0 → get_or (b ∷ bs) i false ≡ b
get-head b bs zero e = refl
get-head b bs (suc i) e = absurd (omega arith)

get-tail : (b : Bool) (bs : List Bool) (i j : ℕ) → i ≡ suc j → get_or (b ∷ bs) i false ≡ get_or bs j false
get-tail b bs i j e = ap (λ x. get_or (b ∷ bs) x false) e

get-none : (i : ℕ) → get_or {A = Bool} [] i false ≡ false
get-none zero = refl
get-none (suc i) = refl

serve_from-between : (bs : List Bool) (t u : ℕ) → t ≤ u → u < (serve_from t bs).serving → get_or bs (u - t) false ≡ true
unfolding serve_from
serve_from-between [] t u a b = absurd (omega arith)
serve_from-between (true ∷ bs) t u a b =
    ⊎_elim (λ e. get-head true bs (u - t) (omega arith))
    (λ n. get-tail true bs (u - t) (u - (t + 1)) (omega arith) ∙ serve_from-between bs (t + 1) u (omega arith) b)
    (cases_eq t u)
serve_from-between (false ∷ bs) t u a b = absurd (omega arith)

serve_from-stops : (bs : List Bool) (t : ℕ) → get_or bs ((serve_from t bs).serving - t) false ≡ false
unfolding serve_from
serve_from-stops [] t = get-none (t - t)
serve_from-stops (true ∷ bs) t =
    let h : t + 1 ≤ (serve_from (t + 1) bs).serving = serve_from-least bs (t + 1) in
    get-tail true bs ((serve_from (t + 1) bs).serving - t) ((serve_from (t + 1) bs).serving - (t + 1)) (omega arith)
    ∙ serve_from-stops bs (t + 1)
serve_from-stops (false ∷ bs) t = get-head false bs (t - t) (omega arith)

serve_from-keeps : (bs : List Bool) (t u : ℕ) → (serve_from t bs).serving < u
    → get_or (serve_from t bs).skips (u - (serve_from t bs).serving - 1) false ≡ get_or bs (u - t) false
unfolding serve_from
serve_from-keeps [] t u a = get-none (u - t - 1) ∙ sym (get-none (u - t))
serve_from-keeps (true ∷ bs) t u a =
    let h : t + 1 ≤ (serve_from (t + 1) bs).serving = serve_from-least bs (t + 1) in
    serve_from-keeps bs (t + 1) u a ∙ sym (get-tail true bs (u - t) (u - (t + 1)) (omega arith))
serve_from-keeps (false ∷ bs) t u a = sym (get-tail false bs (u - t) (u - t - 1) (omega arith))

skip_at-get : (k : ℕ) (bs : List Bool) (j : ℕ) → get_or (skip_at k bs) j false ≡ eqb j k || get_or bs j false
unfolding skip_at
skip_at-get zero [] zero = refl
skip_at-get zero [] (suc j) = grind (arith, nat_tests)
skip_at-get zero (b ∷ bs) zero = refl
skip_at-get zero (b ∷ bs) (suc j) = grind (arith, nat_tests)
skip_at-get (suc k) [] zero = grind (arith, nat_tests)
skip_at-get (suc k) [] (suc j) = skip_at-get k [] j ∙ grind (arith, nat_tests)
skip_at-get (suc k) (b ∷ bs) zero = grind (arith, nat_tests)
skip_at-get (suc k) (b ∷ bs) (suc j) = skip_at-get k bs j ∙ grind (arith, nat_tests)

-- the served TID rises, past TIDs that were skipped alone, to one that wasn't
pub advance-rises : (s : Serving) → s.serving < (advance s).serving
unfolding advance
advance-rises s = omega (arith, serve_from-least s.skips (s.serving + 1))

pub advance-past : (s : Serving) (t : ℕ) → s.serving < t → t < (advance s).serving → is_skipped s t ≡ true
unfolding advance is_skipped
advance-past s t a b =
    let e : get_or s.skips (t - (s.serving + 1)) false ≡ true = serve_from-between s.skips (s.serving + 1) t (omega arith) b in
    let i : t - s.serving - 1 ≡ t - (s.serving + 1) = omega arith in
    rw i (rw e (grind (arith, nat_tests)))

pub advance-stops : (s : Serving) → is_skipped s (advance s).serving ≡ false
unfolding advance is_skipped
advance-stops s =
    let e = serve_from-stops s.skips (s.serving + 1) in
    let i : (serve_from (s.serving + 1) s.skips).serving - s.serving - 1 ≡ (serve_from (s.serving + 1) s.skips).serving - (s.serving + 1) =
    omega arith in
    rw i (rw e (grind (arith, nat_tests)))

-- the skips above it stay
pub advance-keeps : (s : Serving) (t : ℕ) → (advance s).serving < t → is_skipped (advance s) t ≡ is_skipped s t
unfolding advance is_skipped
advance-keeps s t a =
    let e = serve_from-keeps s.skips (s.serving + 1) t a in
    let i : t - s.serving - 1 ≡ t - (s.serving + 1) = omega arith in
    let l = serve_from-least s.skips (s.serving + 1) in
    rw i (rw e (grind (arith, nat_tests)))

pub kept-skips : (t : ℕ) (s : Serving) (u : ℕ) → s.serving < t → is_skipped (kept t s) u ≡ eqb u t || is_skipped s u
unfolding kept is_skipped
kept-skips t s u h = rw (skip_at-get (t - s.serving - 1) s.skips (u - s.serving - 1)) (grind (arith, nat_tests))

pub first-skips : (t : ℕ) → is_skipped first_serving t ≡ false
unfolding first_serving is_skipped
first-skips t = rw (get-none (t - 1 - 1)) (grind (arith, nat_tests))
