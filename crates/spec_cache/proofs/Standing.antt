-- When a frame that is given as plain data may be put into a way.
use Rattle.std.proofs.Common.{ℕ, ◌+◌, ◌*◌, ◌<◌, ◌≡◌, Bool, true, false, not, ◌&&◌, get_or, Option, Some}
use Rattle.std.proofs.Common.{None, is_some, refl, sym, ◌∙◌, ap, subst}
use Rattle.std.specs.Option.{MatchOption}
use Rattle.std.proofs.lemmas.Bool.{false≢true, eqb-true}
use Rattle.std.proofs.lemmas.Nat.{div-mul-add}
use Rattle.base_lemmas.proofs.Lemmas.{has-zero, mask_of-none}
use Rattle.rules_maps.specs.Masks.{has, minus}
use Rattle.rules_maps.proofs.Lemmas.{mask_of-has}
use Rattle.spec_cache.specs.declared.frame.FrameView.{FrameView}
use Rattle.spec_cache.specs.Frame.{IsFrame, holds_line}
use Rattle.spec_cache.specs.Held.{Held, IsHeld, FitsWay, IsWayOf, frame_of}
use Rattle.spec_cache.specs.Restored.{IsFree, IsMissing, MayStand}
use Rattle.spec_cache.proofs.Calls.{found_line}
use Rattle.spec_cache.proofs.FrameFound.{frame_of-way}
use Rattle.spec_cache.proofs.FrameKept.{minus-lt}
use Rattle.spec_cache.proofs.FrameList.{frame_of-found}
use Rattle.spec_cache.proofs.MaskLaws.{has-minus}

-- ---- masks within others

and-not : (a b : Bool) → (a && not b) ≡ false → a ≡ true → b ≡ true
and-not true true e t = refl
and-not true false e t = absurd (false≢true (sym e))
and-not false b e t = absurd (false≢true t)

not-and : (a b : Bool) → (a ≡ true → b ≡ true) → (a && not b) ≡ false
not-and true b h = rw (h refl) refl
not-and false b h = refl

pub all-within : (m n : ℕ) → minus m n ≡ 0 → (k : ℕ) → has m k ≡ true → has n k ≡ true
all-within m n e k = and-not (has m k) (has n k) (sym (has-minus m n k) ∙ ap (λ x. has x k) e ∙ has-zero k)

pub within-all : (m n : ℕ) → m < 256 → ((k : ℕ) → has m k ≡ true → has n k ≡ true) → minus m n ≡ 0
within-all m n h w =
    sym (mask_of-has (minus m n) (minus-lt m n h))
    ∙ mask_of-none (has (minus m n)) (λ k b. has-minus m n k ∙ not-and (has m k) (has n k) (w k))

-- ---- a frame that may stand in a way

-- no way was found that holds the line
pub absent_as_found : (h : Held) (s : IsHeld h) (l : ℕ) (o : Option (ℕ × FrameView))
    → MatchOption o (frame_of h.frames l ≡ None) (λ p. IsWayOf h l p) → (b : Bool) → is_some o ≡ not b
    → (b ≡ true → frame_of h.frames l ≡ None) × (frame_of h.frames l ≡ None → b ≡ true)
absent_as_found h s l None m true e = (λ t. m, λ n. refl)
absent_as_found h s l None m false e = absurd (false≢true e)
absent_as_found h s l (Some p) m true e = absurd (false≢true (sym e))
absent_as_found h s l (Some p) m false e =
    (λ t. absurd (false≢true t), λ n. absurd (let z : None ≡ Some p.1 = sym n ∙ found_line h s l p m in cc))

module _ (h : Held) (s : IsHeld h) (t y : ℕ) (f : FrameView) where
  -- the way is free, and the line misses: no other way holds it
  pub may_stand : IsFree h t y → IsMissing h t f.line.0 → IsFrame f → MayStand h t y f
  may_stand free missing frame = record {
    free = free;
    fits = record {
      frame = frame;
      placed = sym missing.placed ∙ sym (div-mul-add t h.config.ways y free.way_exists);
      exists = missing.exists;
      alone =
          λ j g d e. absurd (let z : None ≡ Some g = sym missing.absent
          ∙ subst (λ (x : ℕ). frame_of h.frames x ≡ Some g) e (frame_of-way h s j g d) in cc);
    };
  }

  -- a line that some way holds has its frame elsewhere than in a free way
  no_frame : MayStand h t y f → (o : Option FrameView) → frame_of h.frames f.line.0 ≡ o → frame_of h.frames f.line.0 ≡ None
  unfolding holds_line
  no_frame m None e = e
  no_frame m (Some g) e =
      let r = frame_of-found h.frames f.line.0 g e in
      let here : r.0 ≡ t * h.config.ways + y = m.fits.alone r.0 g r.1 (eqb-true g.line.0 f.line.0 r.2) in
      absurd (let z : None ≡ Some g = sym m.free.empty ∙ ap (λ x. get_or h.frames x None) (sym here) ∙ r.1 in cc)

  pub is_missing : MayStand h t y f → IsMissing h t f.line.0
  is_missing m = record {
    exists = m.fits.exists;
    placed = sym (m.fits.placed ∙ div-mul-add t h.config.ways y m.free.way_exists);
    absent = no_frame m (frame_of h.frames f.line.0) refl;
  }

  pub fits_way : MayStand h t y f → (i : ℕ) → i ≡ t * h.config.ways + y → FitsWay h i (Some f)
  unfolding FitsWay
  fits_way m i e = rw e m.fits
