-- What each call does to the maps, where the line has a frame and where it has none.
use Rattle.std.proofs.Common.{[], ℕ, ◌<◌, ◌≡◌, Bool, true, false, cond, List, set, Option, Some, None, nat_eq, refl, sym, ◌∙◌, ap, subst}
use Rattle.std.proofs.lemmas.Bool.{eq-eqb, eqb-true, and_parts}
use Rattle.rules_maps.specs.Words.{line_of, place_of}
use Rattle.rules_maps.specs.Masks.{hit}
use Rattle.rules_maps.specs.CacheChange.{marked, stored, filled, invalidated, cleaned, words_dropped, rolled_back, read_cleared, committed}
use Rattle.rules_maps.specs.Spilled.{spill, none_spilled}
use Rattle.spec_cache.specs.declared.frame.Change.TheVariants.{RollBack, ClearRead, Commit}
use Rattle.spec_cache.specs.Change.{all_changed}
use Rattle.spec_cache.proofs.MapsAll.{maps-rolled_back, maps-read_cleared, maps-committed}
use Rattle.spec_cache.specs.declared.frame.FrameView.{FrameView}
use Rattle.spec_cache.specs.Frame.{value_in, modified_in, dirty_in, IsWay, IsFrame, marked_frame, stored_frame, filled_frame}
use Rattle.spec_cache.specs.Frame.{invalidated_frame, cleaned_frame, dropped_frame}
use Rattle.spec_cache.specs.Held.{Held, IsHeld, FitsWay, IsWayOf, frame_of, maps}
use Rattle.spec_cache.proofs.FrameKept.{IsFrame-marked, IsFrame-stored, IsFrame-filled, IsFrame-invalidated, IsFrame-cleaned}
use Rattle.spec_cache.proofs.FrameKept.{IsFrame-dropped}
use Rattle.spec_cache.proofs.FrameFound.{frame_of-way, frame_of-changed}
use Rattle.spec_cache.proofs.MapsChanged.{same_cache, maps-marked, maps-stored, maps-filled, maps-invalidated, maps-cleaned, maps-dropped}
use Rattle.spec_cache.proofs.MapsChanged.{line_dropped, words_dropped-line}
use Rattle.spec_cache.proofs.HeldKept.{FitsWay-changed}

-- the cache with another frame at a place
abbrev pub with_way : Held → ℕ → Option FrameView → Held
with_way h i o = record h { frames = set h.frames i o }

module _ (h : Held) (s : IsHeld h) (l : ℕ) (p : ℕ × FrameView) (w : IsWayOf h l p) where
  pub frame_here : IsFrame p.1
  unfolding IsWay
  frame_here = rw w.here at (s.frame p.0)

  pub found_line : frame_of h.frames l ≡ Some p.1
  found_line = subst (λ (x : ℕ). frame_of h.frames x ≡ Some p.1) w.line (frame_of-way h s p.0 p.1 w.here)

  fits : (f g : FrameView) → f ≡ g → g.line.0 ≡ p.1.line.0 → IsFrame g → FitsWay h p.0 (Some f)
  fits f g e q k = rw e (FitsWay-changed h s p.0 p.1 g w.here q k)

  module _ (f : FrameView) (n : Held) (e : n ≡ with_way h p.0 (Some f)) where
    pub filled_maps : (ws : List ℕ) → f ≡ filled_frame ws p.1 → maps n ≡ filled l ws (maps h)
    filled_maps ws q = rw (e, q) (maps-filled h s p.0 p.1 w.here ws ∙ ap (λ x. filled x ws (maps h)) w.line)

    pub invalidated_maps : (m : ℕ) → f ≡ invalidated_frame m p.1 → maps n ≡ invalidated l m (maps h)
    invalidated_maps m q = rw (e, q) (maps-invalidated h s p.0 p.1 w.here m ∙ ap (λ x. invalidated x m (maps h)) w.line)

    pub cleaned_maps : f ≡ cleaned_frame p.1 → maps n ≡ cleaned l (maps h)
    cleaned_maps q = rw (e, q) (maps-cleaned h s p.0 p.1 w.here ∙ ap (λ x. cleaned x (maps h)) w.line)

    pub dropped_maps : (m : ℕ) → f ≡ dropped_frame m p.1 → maps n ≡ words_dropped (spill l m [] none_spilled) (maps h)
    dropped_maps m q =
        rw (e, q) (maps-dropped h s p.0 p.1 w.here m ∙ ap (λ x. line_dropped x m (maps h)) w.line ∙ sym (words_dropped-line l m (maps h)))

    module _ (v : ℕ) (line : l ≡ line_of v) where
      pub marked_maps : f ≡ marked_frame (place_of v) p.1 → maps n ≡ marked v (maps h)
      marked_maps q = rw (e, q) (maps-marked h s p.0 p.1 w.here v (w.line ∙ line))

      pub stored_maps : (x : ℕ) (also : Bool) → f ≡ stored_frame (place_of v) x also p.1 → maps n ≡ stored v x also (maps h)
      stored_maps x also q = rw (e, q) (maps-stored h s p.0 p.1 w.here v (w.line ∙ line) x also frame_here)

    -- the frame that is found then
    pub found_then : f.line.0 ≡ p.1.line.0 → frame_of n.frames l ≡ Some f
    found_then q = rw e (frame_of-changed h s p.0 p.1 f w.here q l ∙ (rw (eq-eqb p.1.line.0 l w.line) refl))

  module _ (f : FrameView) where
    pub fits_filled : (ws : List ℕ) → f ≡ filled_frame ws p.1 → FitsWay h p.0 (Some f)
    fits_filled ws q = fits f (filled_frame ws p.1) q (unfold filled_frame in refl) (IsFrame-filled p.1 frame_here ws)

    pub fits_invalidated : (m : ℕ) → f ≡ invalidated_frame m p.1 → FitsWay h p.0 (Some f)
    fits_invalidated m q = fits f (invalidated_frame m p.1) q (unfold invalidated_frame in refl) (IsFrame-invalidated p.1 frame_here m)

    pub fits_cleaned : f ≡ cleaned_frame p.1 → FitsWay h p.0 (Some f)
    fits_cleaned q = fits f (cleaned_frame p.1) q (unfold cleaned_frame in refl) (IsFrame-cleaned p.1 frame_here)

    pub fits_marked : (k : ℕ) → k < 8 → f ≡ marked_frame k p.1 → FitsWay h p.0 (Some f)
    fits_marked k b q = fits f (marked_frame k p.1) q (unfold marked_frame in refl) (IsFrame-marked p.1 frame_here k b)

    pub fits_stored : (k x : ℕ) (also : Bool) → k < 8 → f ≡ stored_frame k x also p.1 → FitsWay h p.0 (Some f)
    fits_stored k x also b q = fits f (stored_frame k x also p.1) q (unfold stored_frame in refl) (IsFrame-stored p.1 frame_here k x also b)

    pub fits_dropped : (k : ℕ) → f ≡ dropped_frame k p.1 → FitsWay h p.0 (Some f)
    fits_dropped k q = fits f (dropped_frame k p.1) q (unfold dropped_frame in refl) (IsFrame-dropped p.1 frame_here k)

-- ---- a line with no frame

same_cond : {A : Type 0} (b : Bool) (x o : A) → (b ≡ true → x ≡ o) → cond b x o ≡ o
same_cond true x o e = e refl
same_cond false x o e = refl

module _ (h : Held) (l : ℕ) (absent : frame_of h.frames l ≡ None) where
  absent_at : (v : ℕ) → l ≡ line_of v → frame_of h.frames (line_of v) ≡ None
  absent_at v q = subst (λ (x : ℕ). frame_of h.frames x ≡ None) q absent

  none_at : {A : Type 0} (x : Option FrameView → A) (v : ℕ) → nat_eq l (line_of v) ≡ true → x None ≡ x (frame_of h.frames (line_of v))
  none_at x v e = ap x (sym (absent_at v (eqb-true l (line_of v) e)))

  -- a change of the line's words alone changes nothing
  pub nothing_invalid : (m : ℕ) → invalidated l m (maps h) ≡ maps h
  unfolding maps invalidated hit value_in dirty_in
  nothing_invalid m = same_cache _ _ (λ t y. refl) (λ k. refl)
      (λ v. same_cond _ _ _ (λ e. none_at (λ o. value_in o (place_of v)) v (and_parts _ _ (and_parts _ _ e).0).0))
      (λ v. refl) (λ v. refl)
      (λ v. same_cond _ _ _ (λ e. none_at (λ o. dirty_in o (place_of v)) v (and_parts _ _ (and_parts _ _ e).0).0))

  pub nothing_cleaned : cleaned l (maps h) ≡ maps h
  unfolding maps cleaned dirty_in
  nothing_cleaned = same_cache _ _ (λ t y. refl) (λ k. refl) (λ v. refl) (λ v. refl) (λ v. refl)
      (λ v. same_cond _ _ _ (λ e. none_at (λ o. dirty_in o (place_of v)) v e))

  pub nothing_dropped : (m : ℕ) → words_dropped (spill l m [] none_spilled) (maps h) ≡ maps h
  unfolding maps hit value_in modified_in dirty_in
  nothing_dropped m = words_dropped-line l m (maps h) ∙ same_cache _ _ (λ t y. refl) (λ k. refl)
      (λ v. same_cond _ _ _ (λ e. none_at (λ o. value_in o (place_of v)) v (and_parts _ _ e).0))
      (λ v. refl)
      (λ v. same_cond _ _ _ (λ e. none_at (λ o. modified_in o (place_of v)) v (and_parts _ _ e).0))
      (λ v. same_cond _ _ _ (λ e. none_at (λ o. dirty_in o (place_of v)) v (and_parts _ _ e).0))

-- ---- a change of all frames

module _ (h : Held) (s : IsHeld h) where
  pub all_rolled_back : (n : Held) → n ≡ record h { frames = all_changed RollBack h.frames } → maps n ≡ rolled_back (maps h)
  all_rolled_back n e = rw e (maps-rolled_back h)

  pub all_read_cleared : (n : Held) → n ≡ record h { frames = all_changed ClearRead h.frames } → maps n ≡ read_cleared (maps h)
  all_read_cleared n e = rw e (maps-read_cleared h)

  pub all_committed : (t : ℕ) (n : Held) → n ≡ record h { frames = all_changed (Commit (record { 0 = t })) h.frames }
      → maps n ≡ committed t (maps h)
  all_committed t n e = rw e (maps-committed h s t)
