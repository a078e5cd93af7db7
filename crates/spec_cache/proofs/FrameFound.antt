-- In a cache's list of ways each line stands once: its frame before and after a change of one way.
use Rattle.std.proofs.Common.{ℕ, suc, zero, ◌<◌, ◌≡◌, ◌≢◌, true, false, cond, inl, inr, List, [], ◌∷◌, length, get_or, set, Option, Some}
use Rattle.std.proofs.Common.{None, nat_eq, refl, sym, ◌∙◌, subst, arith, get_or-set_same, get_or-set_other}
use Rattle.std.proofs.lemmas.Bool.{false≢true, cases_eq, eq-eqb, ne_eqb, eqb-true, cases_Bool}
use Rattle.spec_cache.specs.declared.frame.FrameView.{FrameView}
use Rattle.spec_cache.specs.Frame.{holds_line}
use Rattle.spec_cache.specs.Held.{Held, IsHeld, frame_of}
use Rattle.spec_cache.proofs.FrameList.{frame_of-absent, frame_of-only, frame_of-set_other}

pub holds_line-true : (o : Option FrameView) (l : ℕ) → holds_line l o ≡ true → (g : FrameView) × (o ≡ Some g) × (g.line.0 ≡ l)
unfolding holds_line
holds_line-true None l h = absurd (false≢true h)
holds_line-true (Some g) l h = (g, refl, eqb-true g.line.0 l h)

pub holds_line-some : (f : FrameView) (l : ℕ) → f.line.0 ≡ l → holds_line l (Some f) ≡ true
unfolding holds_line
holds_line-some f l e = eq-eqb f.line.0 l e

pub holds_line-other : (f : FrameView) (l : ℕ) → f.line.0 ≢ l → holds_line l (Some f) ≡ false
unfolding holds_line
holds_line-other f l e = ne_eqb f.line.0 l e

pub holds_line-none : (l : ℕ) → holds_line l None ≡ false
unfolding holds_line
holds_line-none l = refl

pub some_within : (fs : List (Option FrameView)) (i : ℕ) (f : FrameView) → get_or fs i None ≡ Some f → i < length fs
some_within [] i f h = absurd (let z : Some f ≡ None = sym h in cc)
some_within (o ∷ os) zero f h = omega arith
some_within (o ∷ os) (suc i) f h = let r = some_within os i f h in omega arith

module _ (h : Held) (s : IsHeld h) where
  -- a way that holds the line, where one is known
  pub only_way : (i : ℕ) (f : FrameView) → get_or h.frames i None ≡ Some f → (j : ℕ) → holds_line f.line.0 (get_or h.frames j None) ≡ true
      → j ≡ i
  only_way i f p j t = let r = holds_line-true (get_or h.frames j None) f.line.0 t in s.once j i r.0 f r.1 p r.2

  pub frame_of-way : (i : ℕ) (f : FrameView) → get_or h.frames i None ≡ Some f → frame_of h.frames f.line.0 ≡ Some f
  frame_of-way i f p =
      frame_of-only h.frames i f.line.0 (rw p (holds_line-some f f.line.0 refl)) (only_way i f p) ∙ p

  pub frame_of-none : (l j : ℕ) → frame_of h.frames l ≡ None → holds_line l (get_or h.frames j None) ≡ false
  frame_of-none l j e = elim (cases_Bool (holds_line l (get_or h.frames j None))) [
    | inr n ↦ n
    | inl t ↦ (let r = holds_line-true (get_or h.frames j None) l t in
        let q : frame_of h.frames l ≡ Some r.0 = subst (λ (x : ℕ). frame_of h.frames x ≡ Some r.0) r.2 (frame_of-way j r.0 r.1) in
        absurd (let z : None ≡ Some r.0 = sym e ∙ q in cc))
  ]

  -- after a change of way i, the only one that held the line, no other way holds it
  elsewhere : (i : ℕ) (o : Option FrameView) (l : ℕ) → ((j : ℕ) → holds_line l (get_or h.frames j None) ≡ true → j ≡ i) →
      (j : ℕ) → j ≢ i → holds_line l (get_or (set h.frames i o) j None) ≡ false
  elsewhere i o l only j n = rw (get_or-set_other h.frames i j o None n) (elim (cases_Bool (holds_line l (get_or h.frames j None))) [
    | inl t ↦ absurd (n (only j t))
    | inr f ↦ f
  ])

  frame_of-set_none : (i l : ℕ) → i < length h.frames → ((j : ℕ) → holds_line l (get_or h.frames j None) ≡ true → j ≡ i) →
      frame_of (set h.frames i None) l ≡ None
  frame_of-set_none i l inside only = frame_of-absent (set h.frames i None) l (λ j. elim (cases_eq j i) [
    | inl e ↦ rw (e, get_or-set_same h.frames i None None inside) (holds_line-none l)
    | inr n ↦ elsewhere i None l only j n
  ])

  frame_of-set_some : (i l : ℕ) (g : FrameView) → i < length h.frames → g.line.0 ≡ l
      → ((j : ℕ) → holds_line l (get_or h.frames j None) ≡ true → j ≡ i) →
      frame_of (set h.frames i (Some g)) l ≡ Some g
  frame_of-set_some i l g inside e only =
      let here : get_or (set h.frames i (Some g)) i None ≡ Some g = get_or-set_same h.frames i (Some g) None inside in
      frame_of-only (set h.frames i (Some g)) i l (rw here (holds_line-some g l e)) (λ j t. elim (cases_eq j i) [
        | inl q ↦ q
        | inr n ↦ absurd (false≢true (sym (elsewhere i (Some g) l only j n) ∙ t))
      ]) ∙ here

  -- the frame of way i changed, and stands for the same line
  pub frame_of-changed : (i : ℕ) (f g : FrameView) → get_or h.frames i None ≡ Some f → g.line.0 ≡ f.line.0 →
      (l : ℕ) → frame_of (set h.frames i (Some g)) l ≡ cond (nat_eq f.line.0 l) (Some g) (frame_of h.frames l)
  frame_of-changed i f g p e l = elim (cases_eq f.line.0 l) [
    | inl q ↦ rw (eq-eqb f.line.0 l q) (rw (← q) (frame_of-set_some i f.line.0 g (some_within h.frames i f p) e (only_way i f p)))
    | inr n ↦ rw (ne_eqb f.line.0 l n)
        (frame_of-set_other h.frames i (Some g) l (rw p (holds_line-other f l n)) (holds_line-other g l (λ q. n (sym e ∙ q))))
  ]

  -- way i is emptied
  pub frame_of-emptied : (i : ℕ) (f : FrameView) → get_or h.frames i None ≡ Some f →
      (l : ℕ) → frame_of (set h.frames i None) l ≡ cond (nat_eq f.line.0 l) None (frame_of h.frames l)
  frame_of-emptied i f p l = elim (cases_eq f.line.0 l) [
    | inl q ↦ rw (eq-eqb f.line.0 l q) (rw (← q) (frame_of-set_none i f.line.0 (some_within h.frames i f p) (only_way i f p)))
    | inr n ↦ rw (ne_eqb f.line.0 l n) (frame_of-set_other h.frames i None l (rw p (holds_line-other f l n)) (holds_line-none l))
  ]

  -- the free way i holds a line that had no frame
  pub frame_of-placed : (i : ℕ) (g : FrameView) → i < length h.frames → get_or h.frames i None ≡ None → frame_of h.frames g.line.0 ≡ None →
      (l : ℕ) → frame_of (set h.frames i (Some g)) l ≡ cond (nat_eq g.line.0 l) (Some g) (frame_of h.frames l)
  frame_of-placed i g inside p none l = elim (cases_eq g.line.0 l) [
    | inl q ↦ rw (eq-eqb g.line.0 l q)
        (rw (← q) (frame_of-set_some i g.line.0 g inside refl (λ j t. absurd (false≢true (sym (frame_of-none g.line.0 j none) ∙ t)))))
    | inr n ↦ rw (ne_eqb g.line.0 l n) (frame_of-set_other h.frames i (Some g) l (rw p (holds_line-none l)) (holds_line-other g l n))
  ]
