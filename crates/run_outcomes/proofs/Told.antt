-- A list of words with their values, made word by word.
use Rattle.std.proofs.Common.{ℕ, ◌≡◌, ◌==◌, Bool, true, false, List, [], ◌∷◌, ◌++◌, Option, Some, None, IfSome, Contains, refl}
use Rattle.std.proofs.Common.{sym, ◌∙◌, ap, if◌then◌else◌, subst, inl, inr, arith}
use Rattle.std.proofs.lemmas.Bool.{eqb-true, eq-eqb}
use Rattle.std.proofs.lemmas.List.Elements.{Contains-push_cases}
use Rattle.rv_plain.specs.Buffered.{seen, or_else}
use Rattle.rv_plain.specs.Store.{Store}
use Rattle.run_outcomes.specs.Changes.{value_in}
use Rattle.run_outcomes.specs.Left.{IsTold, sees}
use Rattle.rules_program.specs.Ram.{flat}

-- the first of two values that is one
abbrev first_of : Option ℕ → Option ℕ → Option ℕ
first_of (Some v) y = Some v
first_of None y = y

pick : (b : Bool) (x : ℕ) (z y r : Option ℕ) → z ≡ first_of y r
    → (if b then Some x else z) ≡ first_of (if b then Some x else y) r
pick true x z y r e = refl
pick false x z y r e = e

value_in-push : (xs : List (ℕ × ℕ)) (w v j : ℕ)
    → value_in (xs ++ (w, v) ∷ []) j ≡ first_of (value_in xs j) (if j == w then Some v else None)
unfolding value_in
value_in-push [] w v j = refl
value_in-push (c ∷ xs) w v j =
    pick (j == c.0) c.1 (value_in (xs ++ (w, v) ∷ []) j) (value_in xs j) (if j == w then Some v else None)
    (value_in-push xs w v j)

-- a value that is right, or that of a word which is seen as RAM has it
right-sees : (x : Option ℕ) (here is : ℕ) → IfSome x (λ v. v ≡ is) → here ≡ is → or_else x here ≡ is
right-sees None here is r e = e
right-sees (Some v) here is r e = r

pub told-elsewhere : (m : Store) (words : List ℕ) (xs : List (ℕ × ℕ)) (j : ℕ) → IsTold m words xs → flat m.ram j ≡ sees m j
    → seen (flat m.ram) (value_in xs) j ≡ sees m j
unfolding seen
told-elsewhere m words xs j t e = right-sees (value_in xs j) (flat m.ram j) (sees m j) (t.right j) e

pub told-nothing : (m : Store) → IsTold m [] []
unfolding value_in
told-nothing m = record { right = λ w. tt; all = λ w h. absurd (none h) }
  where
    none : {w : ℕ} → Contains [] w → ⊥
    none h = omega (arith, h.1)

-- a further word that is told already
pub told-again : (m : Store) (words : List ℕ) (xs : List (ℕ × ℕ)) (w : ℕ) → IsTold m words xs → Contains words w
    → IsTold m (words ++ w ∷ []) xs
told-again m words xs w t h = record {
  right = t.right;
  all = λ j c. elim (Contains-push_cases words w j c) [
    | inl old ↦ t.all j old
    | inr e ↦ t.all j (subst (λ k. Contains words k) e h)
  ];
}

-- a further word that is seen as RAM has it
pub told-same : (m : Store) (words : List ℕ) (xs : List (ℕ × ℕ)) (w : ℕ) → IsTold m words xs → flat m.ram w ≡ sees m w
    → IsTold m (words ++ w ∷ []) xs
told-same m words xs w t h = record {
  right = t.right;
  all = λ j c. elim (Contains-push_cases words w j c) [
    | inl old ↦ t.all j old
    | inr e ↦ told-elsewhere m words xs j t (subst (λ k. flat m.ram k ≡ sees m k) e h)
  ];
}

right-push : (x : Option ℕ) (b : Bool) (v is : ℕ) → IfSome x (λ y. y ≡ is) → (b ≡ true → v ≡ is)
    → IfSome (first_of x (if b then Some v else None)) (λ y. y ≡ is)
right-push None true v is r h = h refl
right-push None false v is r h = tt
right-push (Some y) b v is r h = r

-- of two words with the same values so far, a further value keeps what is told of the one
kept-push : (x : Option ℕ) (b : Bool) (v here is : ℕ) → IfSome x (λ y. y ≡ is) → (b ≡ true → v ≡ is) → or_else x here ≡ is
    → or_else (first_of x (if b then Some v else None)) here ≡ is
kept-push None true v here is r h e = h refl
kept-push None false v here is r h e = e
kept-push (Some y) b v here is r h e = e

new-push : (x : Option ℕ) (v here is : ℕ) → IfSome x (λ y. y ≡ is) → v ≡ is
    → or_else (first_of x (Some v)) here ≡ is
new-push None v here is r h = h
new-push (Some y) v here is r h = r

-- a further word with its value
pub told-push : (m : Store) (words : List ℕ) (xs : List (ℕ × ℕ)) (w v : ℕ) → IsTold m words xs → v ≡ sees m w
    → IsTold m (words ++ w ∷ []) (xs ++ (w, v) ∷ [])
unfolding seen
told-push m words xs w v t e = record {
  right = λ j. rw (value_in-push xs w v j)
      (right-push (value_in xs j) (j == w) v (sees m j) (t.right j) (λ q. e ∙ ap (sees m) (sym (eqb-true j w q))));
  all = λ j c. elim (Contains-push_cases words w j c) [
    | inl old ↦ rw (value_in-push xs w v j)
        (kept-push (value_in xs j) (j == w) v (flat m.ram j) (sees m j) (t.right j)
        (λ q. e ∙ ap (sees m) (sym (eqb-true j w q))) (t.all j old))
    | inr q ↦ rw (value_in-push xs w v j, eq-eqb j w (sym q))
        (new-push (value_in xs j) v (flat m.ram j) (sees m j) (t.right j) (e ∙ ap (sees m) q))
  ];
}
