-- What a cache shows and hands out of its frames.
use Rattle.std.proofs.Common.{ℕ, ◌+◌, ◌*◌, ◌<◌, ◌≡◌, Bool, true, false, not, get_or, set, Option, Some, None, is_some, nat_eq}
use Rattle.std.proofs.Common.{bit_and, refl, sym, ◌∙◌, ap}
use Rattle.std.specs.Option.{MatchOption, option_map}
use Rattle.rules_maps.specs.Words.{line_of, place_of, word_at, any_word}
use Rattle.rules_maps.specs.Cache.{dirty_copy, is_dirty, keeps}
use Rattle.rules_maps.specs.CacheChange.{evicted, evicted_line}
use Rattle.rules_maps.specs.Bridge.{tagged_of}
use Rattle.spec_cache.specs.declared.frame.FrameView.{FrameView}
use Rattle.tcc_base.specs.declared.access.Tagged.{Tagged}
use Rattle.std.proofs.Math.Bool.{and-false}
use Rattle.base_lemmas.proofs.Lemmas.{any_below-none, line_of-word_at}
use Rattle.rules_maps.specs.Masks.{hit}
use Rattle.rules_maps.specs.CacheLook.{reads_masked}
use Rattle.spec_cache.proofs.FrameKept.{IsFrame-invalidated}
use Rattle.spec_cache.specs.Frame.{value_in, read_in, dirty_in, line_in, IsFrame, IsWay, dirty_part, invalidated_frame}
use Rattle.spec_cache.specs.Held.{Held, IsHeld, IsWayOf, frame_of, maps}
use Rattle.spec_cache.specs.Look.{Views, Gives}
use Rattle.spec_cache.proofs.FrameFound.{frame_of-way}
use Rattle.spec_cache.proofs.Readings.{views-frame, value-word, modified_mask-frame, dirty_copy-frame, keeps-frame, reads_masked-frame}
use Rattle.spec_cache.proofs.MapsPlaced.{maps-emptied}
use Rattle.spec_cache.proofs.Calls.{found_line, frame_here, found_then, with_way}
use Rattle.spec_cache.proofs.Looks.{at_way, is_held}

module _ (h : Held) (s : IsHeld h) (t y : ℕ) (way : y < h.config.ways) (i : ℕ) (place : i ≡ t * h.config.ways + y) where
  at_place : (o : Option FrameView) → o ≡ get_or h.frames i None → (maps h).at t y ≡ line_in o
  at_place o e = at_way h t y way ∙ ap (λ x. line_in (get_or h.frames x None)) (sym place) ∙ ap line_in (sym e)

  frame_in : (f : FrameView) → Some f ≡ get_or h.frames i None → IsFrame f
  unfolding IsWay
  frame_in f e = rw (sym e) at (s.frame i)

  pub way_view : (o : Option FrameView) → o ≡ get_or h.frames i None
      → MatchOption o ((maps h).at t y ≡ None) (λ f. ((maps h).at t y ≡ Some f.line.0) × Views (maps h) f.line.0 f)
  unfolding line_in
  way_view None e = at_place None e
  way_view (Some f) e = (at_place (Some f) e, views-frame h f.line.0 f (frame_of-way h s i f (sym e)) (frame_in f e) refl)

  pub evicted_none : None ≡ get_or h.frames i None → maps h ≡ evicted t y (maps h)
  unfolding evicted line_in evicted_line
  evicted_none e = rw (at_place None e) refl

  pub evicted_some : (f : FrameView) → Some f ≡ get_or h.frames i None → (n : Held) → n ≡ record h { frames = set h.frames i None }
      → maps n ≡ evicted t y (maps h)
  unfolding evicted line_in
  evicted_some f e n q = rw (q, at_place (Some f) e) (maps-emptied h s i t y place way f (sym e))

  pub gives : (f : FrameView) → Some f ≡ get_or h.frames i None → (b : Option Tagged) → b ≡ dirty_part f →
      ((maps h).at t y ≡ Some f.line.0)
      × Gives (maps h) f.line.0 (record { line = f.line; modified = f.modified; words = f.words; back = b })
  unfolding line_in
  gives f p b e =
      let found : frame_of h.frames f.line.0 ≡ Some f = frame_of-way h s i f (sym p) in (
        at_place (Some f) p,
        record {
          line = refl;
          modified = sym (modified_mask-frame h f.line.0 f found (frame_in f p));
          words = value-word h f.line.0 f found;
          back = ap (option_map tagged_of) e ∙ dirty_copy-frame h f.line.0 f found (frame_in f p) refl;
        },
      )

-- the frame of a line
pub line_view : (h : Held) (s : IsHeld h) (l : ℕ) (p : ℕ × FrameView) (w : IsWayOf h l p) → ((maps h).held l ≡ true) × Views (maps h) l p.1
line_view h s l p w = (is_held h s l p w, views-frame h l p.1 (found_line h s l p w) (frame_here h s l p w) w.line)

-- what is handed out of the frame of a line, and of no frame
pub part_of : (h : Held) (s : IsHeld h) (l : ℕ) (p : ℕ × FrameView) (w : IsWayOf h l p) (b : Option Tagged) → b ≡ dirty_part p.1
    → option_map tagged_of b ≡ dirty_copy (maps h) l
part_of h s l p w b e = ap (option_map tagged_of) e ∙ dirty_copy-frame h l p.1 (found_line h s l p w) (frame_here h s l p w) w.line

module _ (h : Held) (l : ℕ) (absent : frame_of h.frames l ≡ None) where
  absent_word : (k : ℕ) → k < 8 → frame_of h.frames (line_of (word_at l k)) ≡ None
  absent_word k b = rw (line_of-word_at l k b) absent

  pub nothing_dirty : None ≡ dirty_copy (maps h) l
  unfolding dirty_copy is_dirty any_word maps dirty_in
  nothing_dirty =
      rw (any_below-none (λ k. is_some (dirty_in (frame_of h.frames (line_of (word_at l k))) (place_of (word_at l k)))) 8
      (λ k b. rw (absent_word k b) refl)) refl

  pub nothing_read : (m : ℕ) → false ≡ reads_masked l m (maps h)
  unfolding reads_masked any_word maps read_in
  nothing_read m = sym (any_below-none _ 8 (λ k b. rw (absent_word k b) (and-false (hit l m (word_at l k)))))

  pub nothing_kept : false ≡ keeps (maps h) l
  unfolding keeps any_word maps value_in
  nothing_kept = sym (any_below-none _ 8 (λ k b. rw (absent_word k b) refl))

-- after an invalidation
module _ (h : Held) (s : IsHeld h) (l : ℕ) (p : ℕ × FrameView) (w : IsWayOf h l p) (m : ℕ) where
  pub read_hits : (b : Bool) → b ≡ not (nat_eq (bit_and p.1.read.0 m) 0) → b ≡ reads_masked l m (maps h)
  read_hits b e = e ∙ sym (reads_masked-frame h l p.1 (found_line h s l p w) (frame_here h s l p w) m)

  pub kept_then : (f : FrameView) (n : Held) → f ≡ invalidated_frame m p.1 → n ≡ with_way h p.0 (Some f) → (b : Bool)
      → b ≡ not (nat_eq f.valid.0 0) → b ≡ keeps (maps n) l
  kept_then f n q e b r =
      let same : f.line.0 ≡ p.1.line.0 = rw q (unfold invalidated_frame in refl) in
      r ∙ sym (keeps-frame n l f (found_then h s l p w f n e same) (rw q (IsFrame-invalidated p.1 (frame_here h s l p w) m)))
