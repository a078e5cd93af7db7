-- The maps of a cache after all its frames changed.
use Rattle.std.proofs.Common.{ℕ, suc, zero, ◌+◌, ◌*◌, ◌<◌, ◌≡◌, Bool, true, false, cond, List, [], ◌∷◌, length, get_or, map, Option, Some}
use Rattle.std.proofs.Common.{None, is_some, nat_eq, nat_lt, refl, sym, ◌∙◌, ap, arith}
use Rattle.std.proofs.lemmas.List.{ext_get_or, length-map}
use Rattle.std.specs.Option.{option_map}
use Rattle.rules_maps.specs.Words.{line_of, place_of}
use Rattle.rules_maps.specs.CacheChange.{rolled_back, read_cleared, committed}
use Rattle.spec_cache.specs.declared.frame.FrameView.{FrameView}
use Rattle.spec_cache.specs.Frame.{value_in, read_in, modified_in, dirty_in, line_in, holds_line, IsWay, IsFrame, rolled_back_frame}
use Rattle.spec_cache.specs.Frame.{read_cleared_frame, committed_frame, committed_modified}
use Rattle.spec_cache.specs.Held.{Held, IsHeld, frame_of, frame_at, maps}
use Rattle.spec_cache.proofs.FrameChanges.{value_in-rolled_back, read_in-rolled_back, modified_in-rolled_back, read_in-read_cleared}
use Rattle.spec_cache.proofs.FrameChanges.{value_in-committed, read_in-committed, modified_in-committed, dirty_in-committed}
use Rattle.spec_cache.proofs.FrameList.{frame_of-found}
use Rattle.spec_cache.proofs.MapsChanged.{same_cache}

pub get_or-all : (g : FrameView → FrameView) (fs : List (Option FrameView)) (i : ℕ)
    → get_or (map (option_map g) fs) i None ≡ option_map g (get_or fs i None)
get_or-all g [] i = refl
get_or-all g (o ∷ os) zero = refl
get_or-all g (o ∷ os) (suc i) = get_or-all g os i

-- a change that keeps the line
module _ (g : FrameView → FrameView) (same_line : (f : FrameView) → (g f).line.0 ≡ f.line.0) where
  pub holds_line-all : (l : ℕ) (o : Option FrameView) → holds_line l (option_map g o) ≡ holds_line l o
  unfolding holds_line
  holds_line-all l None = refl
  holds_line-all l (Some f) = ap (λ x. nat_eq x l) (same_line f)

  pub line_in-all : (o : Option FrameView) → line_in (option_map g o) ≡ line_in o
  unfolding line_in
  line_in-all None = refl
  line_in-all (Some f) = ap Some (same_line f)

  pub frame_of-all : (fs : List (Option FrameView)) (l : ℕ) → frame_of (map (option_map g) fs) l ≡ option_map g (frame_of fs l)
  unfolding frame_of
  frame_of-all [] l = refl
  frame_of-all (o ∷ os) l = rw (holds_line-all l o, frame_of-all os l) (either_one (holds_line l o) o (frame_of os l))
    where
      either_one : (b : Bool) (p q : Option FrameView) → cond b (option_map g p) (option_map g q) ≡ option_map g (cond b p q)
      either_one true p q = refl
      either_one false p q = refl

  pub at-all : (h : Held) (t y : ℕ) → line_in (frame_at (record h { frames = map (option_map g) h.frames }) t y) ≡ line_in (frame_at h t y)
  unfolding frame_at
  at-all h t y =
      elim (nat_lt y h.config.ways) as
      (λ b. line_in (cond b (get_or (map (option_map g) h.frames) (t * h.config.ways + y) None) None) ≡ line_in
      (cond b (get_or h.frames (t * h.config.ways + y) None) None)) [
        | true ↦ rw (get_or-all g h.frames (t * h.config.ways + y)) (line_in-all (get_or h.frames (t * h.config.ways + y) None))
        | false ↦ refl
      ]

  pub held-all : (h : Held) (l : ℕ) → is_some (frame_of (map (option_map g) h.frames) l) ≡ is_some (frame_of h.frames l)
  held-all h l =
      rw (frame_of-all h.frames l)
      (elim (frame_of h.frames l) as (λ o. is_some (option_map g o) ≡ is_some o) [ None ↦ refl | Some f ↦ refl ])

  -- what is read of a line's frame
  pub line-all : {A : Type 0} (x y : Option FrameView → A) (fs : List (Option FrameView)) (l : ℕ)
      → ((o : Option FrameView) → x (option_map g o) ≡ y o) → x (frame_of (map (option_map g) fs) l) ≡ y (frame_of fs l)
  line-all x y fs l e = rw (frame_of-all fs l) (e (frame_of fs l))

pub rolled_back_line : (f : FrameView) → (rolled_back_frame f).line.0 ≡ f.line.0
unfolding rolled_back_frame
rolled_back_line f = refl

pub read_cleared_line : (f : FrameView) → (read_cleared_frame f).line.0 ≡ f.line.0
unfolding read_cleared_frame
read_cleared_line f = refl

committed_line_at : (t : ℕ) (f : FrameView) (b : Bool) → (committed_modified b t f).line.0 ≡ f.line.0
unfolding committed_modified
committed_line_at t f true = refl
committed_line_at t f false = refl

pub committed_line : (t : ℕ) (f : FrameView) → (committed_frame t f).line.0 ≡ f.line.0
unfolding committed_frame
committed_line t f = committed_line_at t f (nat_eq f.modified.0 0)

-- a fact of each frame, and of none
each : (P : Option FrameView → Type 0) → P None → ((f : FrameView) → P (Some f)) → (o : Option FrameView) → P o
each P n s None = n
each P n s (Some f) = s f

pub maps-rolled_back : (h : Held) → maps (record h { frames = map (option_map rolled_back_frame) h.frames }) ≡ rolled_back (maps h)
unfolding maps rolled_back
maps-rolled_back h = same_cache _ _
    (at-all rolled_back_frame rolled_back_line h)
    (held-all rolled_back_frame rolled_back_line h)
    (λ w. line-all rolled_back_frame rolled_back_line (λ o. value_in o (place_of w))
    (λ o. cond (modified_in o (place_of w)) None (value_in o (place_of w))) h.frames (line_of w)
    (each (λ o. value_in (option_map rolled_back_frame o) (place_of w) ≡ cond (modified_in o (place_of w)) None
    (value_in o (place_of w))) (unfold value_in modified_in in refl) (λ f. value_in-rolled_back f (place_of w))))
    (λ w. line-all rolled_back_frame rolled_back_line (λ o. read_in o (place_of w)) (λ o. false) h.frames (line_of w)
    (each (λ o. read_in (option_map rolled_back_frame o) (place_of w) ≡ false) (unfold read_in in refl)
    (λ f. read_in-rolled_back f (place_of w))))
    (λ w. line-all rolled_back_frame rolled_back_line (λ o. modified_in o (place_of w)) (λ o. false) h.frames (line_of w)
    (each (λ o. modified_in (option_map rolled_back_frame o) (place_of w) ≡ false) (unfold modified_in in refl)
    (λ f. modified_in-rolled_back f (place_of w))))
    (λ w. line-all rolled_back_frame rolled_back_line (λ o. dirty_in o (place_of w)) (λ o. dirty_in o (place_of w)) h.frames (line_of w)
    (each (λ o. dirty_in (option_map rolled_back_frame o) (place_of w) ≡ dirty_in o (place_of w)) (unfold dirty_in in refl)
    (λ f. unfold dirty_in rolled_back_frame in refl)))

pub maps-read_cleared : (h : Held) → maps (record h { frames = map (option_map read_cleared_frame) h.frames }) ≡ read_cleared (maps h)
unfolding maps read_cleared
maps-read_cleared h = same_cache _ _
    (at-all read_cleared_frame read_cleared_line h)
    (held-all read_cleared_frame read_cleared_line h)
    (λ w. line-all read_cleared_frame read_cleared_line (λ o. value_in o (place_of w)) (λ o. value_in o (place_of w)) h.frames (line_of w)
    (each (λ o. value_in (option_map read_cleared_frame o) (place_of w) ≡ value_in o (place_of w)) (unfold value_in in refl)
    (λ f. unfold value_in read_cleared_frame in refl)))
    (λ w. line-all read_cleared_frame read_cleared_line (λ o. read_in o (place_of w)) (λ o. false) h.frames (line_of w)
    (each (λ o. read_in (option_map read_cleared_frame o) (place_of w) ≡ false) (unfold read_in in refl)
    (λ f. read_in-read_cleared f (place_of w))))
    (λ w. line-all read_cleared_frame read_cleared_line (λ o. modified_in o (place_of w)) (λ o. modified_in o (place_of w)) h.frames
    (line_of w) (each (λ o. modified_in (option_map read_cleared_frame o) (place_of w) ≡ modified_in o (place_of w))
    (unfold modified_in in refl) (λ f. unfold modified_in read_cleared_frame in refl)))
    (λ w. line-all read_cleared_frame read_cleared_line (λ o. dirty_in o (place_of w)) (λ o. dirty_in o (place_of w)) h.frames (line_of w)
    (each (λ o. dirty_in (option_map read_cleared_frame o) (place_of w) ≡ dirty_in o (place_of w)) (unfold dirty_in in refl)
    (λ f. unfold dirty_in read_cleared_frame in refl)))

-- what is found is a frame
pub frame_found : (h : Held) → IsHeld h → (l : ℕ) (f : FrameView) → frame_of h.frames l ≡ Some f → IsFrame f
unfolding IsWay
frame_found h s l f e = let r = frame_of-found h.frames l f e in rw r.1 at (s.frame r.0)

dirty_then : (t : ℕ) (o : Option FrameView) (k : ℕ) → ((f : FrameView) → o ≡ Some f → IsFrame f) →
    dirty_in (option_map (committed_frame t) o) k ≡ cond (modified_in o k) (Some t) (dirty_in o k)
dirty_then t None k s = unfold dirty_in modified_in in refl
dirty_then t (Some f) k s = dirty_in-committed t f k (s f refl)

pub maps-committed : (h : Held) → IsHeld h → (t : ℕ)
    → maps (record h { frames = map (option_map (committed_frame t)) h.frames }) ≡ committed t (maps h)
unfolding maps committed
maps-committed h s t = same_cache _ _
    (at-all (committed_frame t) (committed_line t) h)
    (held-all (committed_frame t) (committed_line t) h)
    (λ w. line-all (committed_frame t) (committed_line t) (λ o. value_in o (place_of w)) (λ o. value_in o (place_of w)) h.frames (line_of w)
    (each (λ o. value_in (option_map (committed_frame t) o) (place_of w) ≡ value_in o (place_of w)) (unfold value_in in refl)
    (λ f. value_in-committed t f (place_of w))))
    (λ w. line-all (committed_frame t) (committed_line t) (λ o. read_in o (place_of w)) (λ o. false) h.frames (line_of w)
    (each (λ o. read_in (option_map (committed_frame t) o) (place_of w) ≡ false) (unfold read_in in refl)
    (λ f. read_in-committed t f (place_of w))))
    (λ w. line-all (committed_frame t) (committed_line t) (λ o. modified_in o (place_of w)) (λ o. false) h.frames (line_of w)
    (each (λ o. modified_in (option_map (committed_frame t) o) (place_of w) ≡ false) (unfold modified_in in refl)
    (λ f. modified_in-committed t f (place_of w))))
    (λ w. rw (frame_of-all (committed_frame t) (committed_line t) h.frames (line_of w))
    (dirty_then t (frame_of h.frames (line_of w)) (place_of w) (frame_found h s (line_of w))))

-- a list that is changed at each place
pub all_of : (g : FrameView → FrameView) (fs os : List (Option FrameView)) → length os ≡ length fs
    → ((i : ℕ) → i < length fs → get_or os i None ≡ option_map g (get_or fs i None)) → os ≡ map (option_map g) fs
all_of g fs os l e =
    ext_get_or None os (map (option_map g) fs) (l ∙ sym (length-map fs (option_map g)))
    (λ i h. let b : i < length fs = omega (arith, l, h) in e i b ∙ sym (get_or-all g fs i))
