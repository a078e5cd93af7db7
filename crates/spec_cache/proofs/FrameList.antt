-- The frame of a line in a list of ways: where it is found, and after a way or all ways changed.
use Rattle.std.proofs.Common.{ℕ, suc, zero, ◌≡◌, Bool, true, false, cond, inl, inr, List, [], ◌∷◌, get_or, set, Option, Some, None, refl}
use Rattle.std.proofs.Common.{sym, arith}
use Rattle.std.proofs.lemmas.Bool.{cases_Bool}
use Rattle.spec_cache.specs.declared.frame.FrameView.{FrameView}
use Rattle.spec_cache.specs.Frame.{holds_line}
use Rattle.spec_cache.specs.Held.{frame_of}

-- no way of the list holds the line
abbrev pub IsAbsent : List (Option FrameView) → ℕ → Type 0
IsAbsent fs l = (i : ℕ) → holds_line l (get_or fs i None) ≡ false

pub frame_of-absent : (fs : List (Option FrameView)) (l : ℕ) → IsAbsent fs l → frame_of fs l ≡ None
unfolding frame_of
frame_of-absent [] l h = refl
frame_of-absent (o ∷ os) l h = rw (h 0) (frame_of-absent os l (λ i. h (suc i)))

-- the only way that holds the line
pub frame_of-only : (fs : List (Option FrameView)) (i : ℕ) (l : ℕ) → holds_line l (get_or fs i None) ≡ true
    → ((j : ℕ) → holds_line l (get_or fs j None) ≡ true → j ≡ i) → frame_of fs l ≡ get_or fs i None
unfolding frame_of
frame_of-only [] i l h only = refl
frame_of-only (o ∷ os) zero l h only = rw h refl
frame_of-only (o ∷ os) (suc i) l h only = elim (cases_Bool (holds_line l o)) [
  | inl e ↦ absurd (let z : 0 ≡ suc i = only 0 e in omega (arith, z))
  | inr e ↦ rw e (frame_of-only os i l h (λ j t. let z : suc j ≡ suc i = only (suc j) t in omega (arith, z)))
]

found_at : (o : Option FrameView) (os : List (Option FrameView)) (l : ℕ) (f : FrameView) →
    (frame_of os l ≡ Some f → (i : ℕ) × (get_or os i None ≡ Some f) × (holds_line l (Some f) ≡ true)) →
    (b : Bool) → holds_line l o ≡ b → cond b o (frame_of os l) ≡ Some f →
    (i : ℕ) × (get_or (o ∷ os) i None ≡ Some f) × (holds_line l (Some f) ≡ true)
found_at o os l f later true e h = (0, h, rw h at e)
found_at o os l f later false e h = let r = later h in (suc r.0, r.1, r.2)

-- what is found stands somewhere
pub frame_of-found : (fs : List (Option FrameView)) (l : ℕ) (f : FrameView) → frame_of fs l ≡ Some f → (i : ℕ) × (get_or fs i None ≡ Some f)
    × (holds_line l (Some f) ≡ true)
unfolding frame_of
frame_of-found [] l f h = absurd (let z : Some f ≡ None = sym h in cc)
frame_of-found (o ∷ os) l f h = found_at o os l f (λ e. frame_of-found os l f e) (holds_line l o) refl h

-- a way that holds the line, neither before nor after
pub frame_of-set_other : (fs : List (Option FrameView)) (i : ℕ) (o : Option FrameView) (l : ℕ) → holds_line l (get_or fs i None) ≡ false
    → holds_line l o ≡ false → frame_of (set fs i o) l ≡ frame_of fs l
unfolding frame_of
frame_of-set_other [] i o l h n = refl
frame_of-set_other (p ∷ ps) zero o l h n = rw (h, n) refl
frame_of-set_other (p ∷ ps) (suc i) o l h n = rw (frame_of-set_other ps i o l h n) refl
