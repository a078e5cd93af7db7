-- What both forms of the frames show: their ways are in order at the start, after a change, and a search finds a line.
use Rattle.std.proofs.Common.{ℕ, suc, zero, ◌+◌, ◌*◌, ◌/◌, ◌%◌, ◌<◌, ◌≤◌, ◌≡◌, true, false, cond, inl, inr, List}
use Rattle.std.proofs.Common.{length, get_or, set, replicate, Option, Some, None, refl, sym, ◌∙◌, ap}
use Rattle.std.proofs.Common.{arith}
use Rattle.std.specs.Option.{MatchOption}
use Rattle.std.proofs.lemmas.Bool.{cases_Bool}
use Rattle.std.proofs.lemmas.List.{length-replicate}
use Rattle.tcc_base.specs.Settings.{Settings, IsAllowed}
use Rattle.rules_maps.specs.Words.{line_of}
use Rattle.rules_maps.specs.Cache.{empty_cache}
use Rattle.spec_cache.specs.declared.frame.FrameView.{FrameView}
use Rattle.spec_cache.specs.declared.frame.Change.{Change}
use Rattle.spec_cache.specs.declared.frame.Change.TheVariants.{RollBack, ClearRead, Commit}
use Rattle.spec_cache.specs.Frame.{value_in, read_in, modified_in, dirty_in, line_in, holds_line, IsFrame, IsWay}
use Rattle.spec_cache.specs.Change.{changed_frame, all_changed}
use Rattle.spec_cache.specs.Held.{Held, IsHeld, IsWayOf, frame_of, frame_at, maps}
use Rattle.spec_cache.proofs.FrameKept.{IsFrame-rolled_back, IsFrame-read_cleared, IsFrame-committed}
use Rattle.spec_cache.proofs.FrameList.{frame_of-absent}
use Rattle.spec_cache.proofs.FrameFound.{holds_line-true, holds_line-none, some_within}
use Rattle.spec_cache.proofs.MapsChanged.{same_cache}
use Rattle.spec_cache.proofs.MapsAll.{rolled_back_line, read_cleared_line, committed_line}
use Rattle.spec_cache.proofs.HeldKept.{IsHeld-all}

-- ---- a change of all frames

pub changed_line : (c : Change) (f : FrameView) → (changed_frame c f).line.0 ≡ f.line.0
changed_line RollBack f = rolled_back_line f
changed_line ClearRead f = read_cleared_line f
changed_line (Commit t) f = committed_line t.0 f

changed_kept : (c : Change) (f : FrameView) → IsFrame f → IsFrame (changed_frame c f)
changed_kept RollBack f s = IsFrame-rolled_back f s
changed_kept ClearRead f s = IsFrame-read_cleared f s
changed_kept (Commit t) f s = IsFrame-committed f s t.0

pub IsHeld-changed : (c : Change) (h : Held) → IsHeld h → IsHeld (record h { frames = all_changed c h.frames })
IsHeld-changed c h s = IsHeld-all (changed_frame c) (changed_line c) (changed_kept c) h s

-- ---- at the start

pub get_or-none : (n i : ℕ) → get_or {A = Option FrameView} (replicate n None) i None ≡ None
get_or-none zero i = refl
get_or-none (suc n) zero = refl
get_or-none (suc n) (suc i) = get_or-none n i

frame_of-none : (n l : ℕ) → frame_of (replicate n None) l ≡ None
frame_of-none n l = frame_of-absent (replicate n None) l (λ i. rw (get_or-none n i) (holds_line-none l))

never : {P : Type 0} (n i : ℕ) (f : FrameView) → get_or {A = Option FrameView} (replicate n None) i None ≡ Some f → P
never n i f e = absurd (let z : None ≡ Some f = sym (get_or-none n i) ∙ e in cc)

pub IsHeld-empty : (s : Settings) → IsAllowed s → IsHeld (record { config = s; frames = replicate (s.sets * s.ways) None })
unfolding IsWay
IsHeld-empty s a = record {
  allowed = a;
  filled_ways = length-replicate (s.sets * s.ways) None;
  frame = λ i. rw (get_or-none (s.sets * s.ways) i) tt;
  placed = λ i f e. never (s.sets * s.ways) i f e;
  exists = λ i f e. never (s.sets * s.ways) i f e;
  once = λ i j f g e d l. never (s.sets * s.ways) i f e;
}

frame_at-none : (s : Settings) (n t y : ℕ) → frame_at (record { config = s; frames = replicate n None }) t y ≡ None
unfolding frame_at
frame_at-none s n t y =
    rw (get_or-none n (t * s.ways + y))
    (elim (Rattle.std.proofs.Common.nat_lt y s.ways) as (λ b. cond {A = Option FrameView} b None None ≡ None) [
      | true ↦ refl
      | false ↦ refl
    ])

pub maps-empty : (s : Settings) (n : ℕ) → maps (record { config = s; frames = replicate n None }) ≡ empty_cache
unfolding maps empty_cache value_in read_in modified_in dirty_in line_in
maps-empty s n = same_cache _ _
    (λ t y. rw (frame_at-none s n t y) refl)
    (λ l. rw (frame_of-none n l) refl)
    (λ w. rw (frame_of-none n (line_of w)) refl)
    (λ w. rw (frame_of-none n (line_of w)) refl)
    (λ w. rw (frame_of-none n (line_of w)) refl)
    (λ w. rw (frame_of-none n (line_of w)) refl)

-- ---- a slice of all of a vector written back

-- ---- a search

module _ (h : Held) (s : IsHeld h) (l : ℕ) where
  -- a line is held in its set alone
  pub absent_set : (first : ℕ) → first ≡ l % h.config.sets * h.config.ways
      → ((j : ℕ) → first ≤ j → j < first + h.config.ways → holds_line l (get_or h.frames j None) ≡ false) → frame_of h.frames l ≡ None
  absent_set first e none = frame_of-absent h.frames l (λ j. elim (cases_Bool (holds_line l (get_or h.frames j None))) [
    | inr n ↦ n
    | inl t ↦ (let r = holds_line-true (get_or h.frames j None) l t in
        let positive : 0 < h.config.ways = s.allowed.3.0 in
        let set : j / h.config.ways ≡ l % h.config.sets = sym (s.placed j r.0 r.1) ∙ ap (λ x. x % h.config.sets) r.2 in
        let low : first ≤ j = rw (e, ← set) (omega (arith, positive)) in
        let high : j < first + h.config.ways = rw (e, ← set) (omega (arith, positive)) in
        none j low high)
  ])

  pub found_here : (i : ℕ) (f : FrameView) → get_or h.frames i None ≡ Some f → f.line.0 ≡ l → IsWayOf h l (i, f)
  found_here i f p e = record { inside = some_within h.frames i f p; here = p; line = e }

  -- what a search in the line's set finds
  pub found_set : (first : ℕ) → first ≡ l % h.config.sets * h.config.ways → (o : Option (ℕ × FrameView)) →
      MatchOption o ((j : ℕ) → first ≤ j → j < first + h.config.ways → holds_line l (get_or h.frames j None) ≡ false)
      (λ p. (get_or h.frames p.0 None ≡ Some p.1) × (p.1.line.0 ≡ l)) →
      MatchOption o (frame_of h.frames l ≡ None) (λ p. IsWayOf h l p)
  found_set first e None m = absent_set first e m
  found_set first e (Some p) m = found_here p.0 p.1 m.0 m.1

-- no way of the list holds the line
pub absent_all : (fs : List (Option FrameView)) (n l : ℕ) → length fs ≤ n → ((j : ℕ) → j < n → holds_line l (get_or fs j None) ≡ false)
    → frame_of fs l ≡ None
absent_all fs n l past none = frame_of-absent fs l (λ j. elim (cases_Bool (holds_line l (get_or fs j None))) [
  | inr f ↦ f
  | inl t ↦ (let r = holds_line-true (get_or fs j None) l t in let b : j < length fs = some_within fs j r.0 r.1 in none j (omega arith))
])
