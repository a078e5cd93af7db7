-- What holds of the ways is kept where a word is stored in place, and what is read and stored there.
use Rattle.std.proofs.Common.{◌≡◌, ◌<◌, ◌∙◌, ◌==◌, ◌&&◌, not, ℕ, Bool, true, false, List, length, get_or, set, Option, Some, None, refl}
use Rattle.std.proofs.Common.{sym, ap, subst}
use Rattle.std.proofs.lemmas.List.{set-get_or}
use Rattle.std.specs.Bool.{MatchBool}
use Rattle.std.specs.Option.{IfSome}
use Rattle.rules_maps.specs.Words.{line_of, place_of}
use Rattle.rules_maps.specs.Cache.{dirty_copy}
use Rattle.rules_maps.specs.CacheLook.{Hit, look_load}
use Rattle.spec_cache.specs.declared.frame.FrameView.{FrameView}
use Rattle.spec_cache.specs.Frame.{stored_frame, dirty_part, marked_in}
use Rattle.spec_cache.specs.Held.{Held, IsHeld, IsWayOf, maps}
use Rattle.spec_cache.specs.InPlace.{Hits, IsStored, StoresAt}
use Rattle.spec_cache.specs.Look.{loaded, StoresClean}
use Rattle.spec_cache.specs.PerSet.{Counted}
use Rattle.spec_cache.specs.Places.{Noted, IsIndexed}
use Rattle.spec_cache.specs.Tracked.{IsTracked}
use Rattle.spec_cache.proofs.Calls.{fits_stored, stored_maps}
use Rattle.spec_cache.proofs.FrameFound.{some_within}
use Rattle.spec_cache.proofs.Handed.{part_of}
use Rattle.spec_cache.proofs.Indexed.{IsIndexed-set}
use Rattle.spec_cache.proofs.Looks.{is_held, look_load-hit}
use Rattle.spec_cache.proofs.Placing.{loaded_same, loaded_unmarked}
use Rattle.spec_cache.proofs.TrackedKept.{IsTracked-alike}

pub IsTracked-stored : (h : Held) (ts ws rs : List ℕ) (n : ℕ) (idle used : Counted) → IsTracked h ts ws rs n idle used
    → (i : ℕ) (o p : Option FrameView) → i < length h.frames → o ≡ get_or h.frames i None
    → (l k x : ℕ) (also b : Bool) → MatchBool b (IsStored o p l k x also) (p ≡ o)
    → IsTracked (record h { frames = set h.frames i p }) ts ws rs n idle used
IsTracked-stored h ts ws rs n idle used t i o p inside e l k x also true s =
    IsTracked-alike h ts ws rs n idle used t i p inside (rw (← e, s.was, s.into.is) s.into.alike)
IsTracked-stored h ts ws rs n idle used t i o p inside e l k x also false s =
    subst (λ (fs : List (Option FrameView)). IsTracked (record h { frames = fs }) ts ws rs n idle used)
    (sym (ap (set h.frames i) (s ∙ e) ∙ set-get_or h.frames i None)) t

no_part : (f : FrameView) → f.dirty.0 ≡ 0 → None ≡ dirty_part f
unfolding dirty_part
no_part f e = rw e refl

modified_marks : (f : FrameView) → (f.modified.0 == 0) ≡ false → marked_in (Some f) ≡ true
unfolding marked_in
modified_marks f e = rw e (by (f.read.0 == 0))
  where
    by : (b : Bool) → not (b && false) ≡ true
    by true = refl
    by false = refl

module _ (h : Held) (s : IsHeld h) (l : ℕ) where
  way_at : (i : ℕ) (f : FrameView) → get_or h.frames i None ≡ Some f → f.line.0 ≡ l → IsWayOf h l (i, f)
  way_at i f e q = record { inside = some_within h.frames i f e; here = e; line = q }

  -- a word that is found in place
  pub hits_answer : (w : ℕ) (mark : Bool) → l ≡ line_of w → (r : Option ℕ) → IfSome r (Hits h l (place_of w) mark)
      → IfSome r (λ x. Hit x ≡ look_load h.config w (maps h))
  hits_answer w mark q None t = tt
  hits_answer w mark q (Some x) t =
      sym (look_load-hit h s l (t.at, t.hit.frame) (way_at t.at t.hit.frame t.hit.is t.hit.line) w q x (sym t.hit.value))

  pub hits_same : (w : ℕ) (mark : Bool) → l ≡ line_of w → (r : Option ℕ) → IfSome r (Hits h l (place_of w) mark)
      → IfSome r (λ x. maps h ≡ loaded w mark (maps h))
  hits_same w mark q None t = tt
  hits_same w false q (Some x) t = loaded_unmarked w false (maps h) refl
  hits_same w true q (Some x) t =
      loaded_same h s l (t.at, t.hit.frame) (way_at t.at t.hit.frame t.hit.is t.hit.line) w q true x (sym t.hit.value) refl t.hit.frame
      (sym (t.hit.marked refl)) refl

  -- a word that is stored in place
  module _ (n : Held) (k x : ℕ) (also : Bool) where
    pub stores_clean : (w : ℕ) → l ≡ line_of w → k ≡ place_of w → (b : Bool) → MatchBool b (StoresAt h n l k x also) (n ≡ h)
        → MatchBool b (StoresClean w x also (maps h) (maps n)) (n ≡ h)
    stores_clean w q e false t = t
    stores_clean w q e true t =
        let f = t.stored.frame in
        let way = way_at t.at f t.stored.was t.stored.into.line in
        record {
          held = ap (maps h).held (sym q) ∙ is_held h s l (t.at, f) way;
          clean = ap (dirty_copy (maps h)) (sym q) ∙ sym (part_of h s l (t.at, f) way None (no_part f t.stored.into.clean));
          maps = stored_maps h s l (t.at, f) way (stored_frame k x also f) n
              (t.is ∙ ap (λ (o : Option FrameView). record h { frames = set h.frames t.at o }) t.stored.into.is) w q x also
              (ap (λ (j : ℕ). stored_frame j x also f) e);
        }

    pub IsIndexed-stored : (p : Noted) → IsIndexed h p → k < 8 → (b : Bool) → MatchBool b (StoresAt h n l k x also) (n ≡ h) → IsIndexed n p
    IsIndexed-stored p i inside false t = rw t i
    IsIndexed-stored p i inside true t =
        let f = t.stored.frame in
        let way = way_at t.at f t.stored.was t.stored.into.line in
        let was : marked_in (get_or h.frames t.at None) ≡ true = ap marked_in t.stored.was ∙ modified_marks f t.stored.into.modified in
        rw t.is (IsIndexed-set h p i t.at t.way way.inside
        (rw t.stored.into.is (fits_stored h s l (t.at, f) way (stored_frame k x also f) k x also inside refl)) p refl
        (λ m. i.marked t.at was) (λ j m. m))
