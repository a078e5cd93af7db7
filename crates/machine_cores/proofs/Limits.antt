-- How many evictions of a core there are at most.
use Rattle.std.proofs.Common.{◌≡◌, ℕ, zero, suc, ◌*◌, ◌≤◌, List, []}
use Rattle.std.proofs.Common.{◌∷◌, length, map, length-append, refl, ap, sym, ◌∙◌, arith, Fits, w32}
use Rattle.std.specs.List.{flat_map}
use Rattle.std.proofs.lemmas.List.{length-map}
use Rattle.tcc_base.specs.Settings.{Settings, IsAllowed}
use Rattle.base_lemmas.proofs.Lemmas.{filter-few}
use Rattle.rules_maps.specs.Words.{those}
use Rattle.rules_program.specs.Program.{Program}
use Rattle.rules_tcc.specs.Seen.{numbers}
use Rattle.rules_tcc.specs.State.{CoreState}
use Rattle.core_node.specs.Useful.{evict_is_useful, useful_evicts}

pub numbers-length : (n : ℕ) → length (numbers n) ≡ n
unfolding those
numbers-length zero = refl
numbers-length (suc n) = length-append (numbers n) (n ∷ []) ∙ omega (arith, numbers-length n)

rows : {A B : Type 0} (f : A → List B) (w : ℕ) (xs : List A) → ((x : A) → length (f x) ≡ w) → length (flat_map f xs) ≡ length xs * w
rows f w [] h = omega arith
rows f w (x ∷ xs) h = length-append (f x) (flat_map f xs) ∙ rw (h x, rows f w xs h) (grind arith)

most : (s : Settings) (p : Program) (c : CoreState) → length (useful_evicts s p c) ≤ s.sets * s.ways
unfolding useful_evicts
most s p c =
    let row : ℕ → List (ℕ × ℕ) = λ x. map (λ y. (x, y)) (numbers s.ways) in
    let all : length (flat_map row (numbers s.sets)) ≡ length (numbers s.sets) * s.ways =
    rows row s.ways (numbers s.sets) (λ x. length-map (numbers s.ways) (λ y. (x, y)) ∙ numbers-length s.ways) in
    rw (sym (all ∙ ap (λ n. n * s.ways) (numbers-length s.sets)))
    (filter-few (λ q. evict_is_useful s p c q.0 q.1) (flat_map row (numbers s.sets)))

small : (a b : ℕ) → a ≤ 1024 → b ≤ 16 → a * b ≤ 16384
small a b h i = grind arith

pub evicts-fit : (s : Settings) (p : Program) (c : CoreState) (n : ℕ) → IsAllowed s → n ≡ length (useful_evicts s p c) → Fits w32 n
evicts-fit s p c n h e =
    let few : s.sets * s.ways ≤ 16384 = small s.sets s.ways h.2.1 h.3.1 in
    omega (arith, most s p c, few, e)
