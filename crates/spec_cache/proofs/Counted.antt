-- Numbers that pass a test: how many there are, which is the k-th, and ways counted in place of lines.
use Rattle.std.proofs.Common.{ℕ, suc, zero, ◌<◌, ◌≡◌, ◌≢◌, Bool, true, false, cond, inl, inr, List, [], ◌∷◌}
use Rattle.std.proofs.Common.{length, get_or, Option, Some, None, refl, sym, ◌∙◌, ap, arith}
use Rattle.std.proofs.lemmas.Bool.{cases_eq, cases_Bool}
use Rattle.base_lemmas.proofs.Lemmas.{count_below-head, count_below-same, get_or-front, get_or-last}
use Rattle.rules_maps.specs.Words.{count_below, those}
use Rattle.rules_maps.proofs.Lemmas.{length-those}
use Rattle.spec_cache.specs.declared.frame.FrameView.{FrameView}
use Rattle.spec_cache.specs.Frame.{holds_line}
use Rattle.spec_cache.specs.Held.{frame_of}
use Rattle.spec_cache.proofs.FrameList.{frame_of-absent}
use Rattle.spec_cache.proofs.FrameFound.{holds_line-true, holds_line-some, holds_line-other, holds_line-none}

pub count_below-zero : (p : ℕ → Bool) → count_below p 0 ≡ 0
unfolding count_below
count_below-zero p = refl

pub count_below-none : (p : ℕ → Bool) (n : ℕ) → ((k : ℕ) → p k ≡ false) → count_below p n ≡ 0
unfolding count_below
count_below-none p zero e = refl
count_below-none p (suc n) e = rw (count_below-none p n e, e n) refl

-- one number more passes
pub count_below-more : (p q : ℕ → Bool) (n x : ℕ) → x < n → p x ≡ true → q x ≡ false → ((k : ℕ) → k ≢ x → p k ≡ q k)
    → count_below p n ≡ suc (count_below q n)
unfolding count_below
count_below-more p q zero x b t f e = absurd (omega arith)
count_below-more p q (suc n) x b t f e = elim (cases_eq x n) [
  | inl s ↦ (let a : count_below p n ≡ count_below q n = count_below-same p q n
      (λ k h. e k (λ z. let y : k ≡ n = z ∙ s in omega (arith, y))) in
      let u : p n ≡ true = ap p (sym s) ∙ t in let v : q n ≡ false = ap q (sym s) ∙ f in rw (a, u, v) (omega arith))
  | inr d ↦ (let a : count_below p n ≡ suc (count_below q n) = count_below-more p q n x (omega arith) t f e in
      let u : p n ≡ q n = e n (λ z. d (sym z)) in rw (a, u) (omega arith))
]

head-fails : (p : ℕ → Bool) (n : ℕ) → p 0 ≡ false → count_below p (suc n) ≡ count_below (λ k. p (suc k)) n
head-fails p n e = count_below-head p n ∙ (rw e (omega arith))

head-passes : (p : ℕ → Bool) (n : ℕ) → p 0 ≡ true → count_below p (suc n) ≡ suc (count_below (λ k. p (suc k)) n)
head-passes p n e = count_below-head p n ∙ (rw e (omega arith))

-- more numbers, more that pass
pub count_below-within : (p : ℕ → Bool) (n i : ℕ) → i < n → p i ≡ true → count_below p i < count_below p n
unfolding count_below
count_below-within p zero i b t = absurd (omega arith)
count_below-within p (suc n) i b t = elim (cases_eq i n) [
  | inl s ↦ (let u : p n ≡ true = ap p (sym s) ∙ t in let v : count_below p i ≡ count_below p n = ap (count_below p) s in
      rw u (omega (arith, v)))
  | inr d ↦ (let h = count_below-within p n i (omega arith) t in omega (arith, h))
]

-- the number that passes where k others did before
pub those-nth : (p : ℕ → Bool) (n i k : ℕ) → i < n → p i ≡ true → count_below p i ≡ k → get_or (those p n) k 0 ≡ i
unfolding those
those-nth p zero i k b t e = absurd (omega arith)
those-nth p (suc n) i k b t e = elim (cases_eq i n) [
  | inl s ↦ (let u : p n ≡ true = ap p (sym s) ∙ t in
      let l : k ≡ length (those p n) = sym e ∙ ap (count_below p) s ∙ sym (length-those p n) in
      rw (u, l) (get_or-last (those p n) n ∙ sym s))
  | inr d ↦ (let c : count_below p i < count_below p n = count_below-within p n i (omega arith) t in
      let w : length (those p n) ≡ count_below p n = length-those p n in
      get_or-front (those p n) (cond (p n) (n ∷ []) []) k (omega (arith, c, w, e)) ∙ those-nth p n i k (omega arith) t e)
]

-- ---- ways and lines

-- no way but the first holds its line
rest_absent : (f : FrameView) (os : List (Option FrameView)) →
    ((i j : ℕ) (g k : FrameView) → get_or (Some f ∷ os) i None ≡ Some g → get_or (Some f ∷ os) j None ≡ Some k → g.line.0 ≡ k.line.0
    → i ≡ j) →
    frame_of os f.line.0 ≡ None
rest_absent f os once = frame_of-absent os f.line.0 (λ i. elim (cases_Bool (holds_line f.line.0 (get_or os i None))) [
  | inr n ↦ n
  | inl t ↦ (let r = holds_line-true (get_or os i None) f.line.0 t in
      absurd (let z : suc i ≡ 0 = once (suc i) 0 r.0 f r.1 refl r.2 in omega (arith, z)))
])

module _ (q : Option FrameView → Bool) (none : q None ≡ false) (n : ℕ) where
  -- where each line stands once, to count ways that pass a test is to count lines whose frame passes it
  pub lines_counted : (fs : List (Option FrameView)) →
      ((i j : ℕ) (f g : FrameView) → get_or fs i None ≡ Some f → get_or fs j None ≡ Some g → f.line.0 ≡ g.line.0 → i ≡ j) →
      ((i : ℕ) (f : FrameView) → get_or fs i None ≡ Some f → f.line.0 < n) →
      count_below (λ i. q (get_or fs i None)) (length fs) ≡ count_below (λ l. q (frame_of fs l)) n
  unfolding frame_of
  lines_counted [] once exists = count_below-zero _ ∙ sym (count_below-none (λ l. q None) n (λ k. none))
  lines_counted (None ∷ os) once exists =
      let rest = lines_counted os (λ i j f g a b e. let z : suc i ≡ suc j = once (suc i) (suc j) f g a b e in omega (arith, z))
      (λ i f a. exists (suc i) f a) in
      head-fails (λ i. q (get_or (None ∷ os) i None)) (length os) none ∙ rest
      ∙ count_below-same (λ l. q (frame_of os l)) (λ l. q (cond (holds_line l None) None (frame_of os l))) n
      (λ l h. rw (holds_line-none l) refl)
  lines_counted (Some f ∷ os) once exists =
      let rest = lines_counted os (λ i j g k a b e. let z : suc i ≡ suc j = once (suc i) (suc j) g k a b e in omega (arith, z))
      (λ i g a. exists (suc i) g a) in
      let absent : frame_of os f.line.0 ≡ None = rest_absent f os once in
      let other : (l : ℕ) → l ≢ f.line.0 → q (cond (holds_line l (Some f)) (Some f) (frame_of os l)) ≡ q (frame_of os l) =
      λ l d. rw (holds_line-other f l (λ z. d (sym z))) refl in
      let here : q (cond (holds_line f.line.0 (Some f)) (Some f) (frame_of os f.line.0)) ≡ q (Some f) =
      rw (holds_line-some f f.line.0 refl) refl in
      let gone : q (frame_of os f.line.0) ≡ false = ap q absent ∙ none in
      elim (cases_Bool (q (Some f))) [
        | inl t ↦ head-passes (λ i. q (get_or (Some f ∷ os) i None)) (length os) t
            ∙ (ap suc rest ∙ sym (count_below-more (λ l. q (cond (holds_line l (Some f)) (Some f) (frame_of os l)))
            (λ l. q (frame_of os l)) n f.line.0 (exists 0 f refl) (here ∙ t) gone other))
        | inr u ↦ head-fails (λ i. q (get_or (Some f ∷ os) i None)) (length os) u
            ∙ (rest ∙ count_below-same (λ l. q (frame_of os l)) (λ l. q (cond (holds_line l (Some f)) (Some f) (frame_of os l))) n
            (λ l h. elim (cases_eq l f.line.0) [
              | inl e ↦ rw e (gone ∙ sym (here ∙ u))
              | inr d ↦ sym (other l d)
            ]))
      ]
