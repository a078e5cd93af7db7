-- The maps of a cache after the frame of one way changed.
use Rattle.std.proofs.Common.{[], ℕ, ◌+◌, ◌*◌, ◌/◌, ◌%◌, ◌<◌, ◌≡◌, Bool, true, false, not, cond, ◌&&◌, ◌||◌, inl, inr, List, length, get_or}
use Rattle.std.proofs.Common.{set, unwrap_or, Option, Some, None, is_some, nat_eq, nat_lt, refl, sym, ◌∙◌, ap, subst, arith}
use Rattle.std.proofs.Common.{get_or-set_same, get_or-set_other}
use Rattle.std.proofs.lemmas.Bool.{cases_eq, eq-eqb, ne_eqb}
use Rattle.base_lemmas.proofs.Lemmas.{nat_eq-comm}
use Rattle.rules_maps.specs.Words.{line_of, place_of}
use Rattle.rules_maps.specs.Masks.{has, hit}
use Rattle.rules_maps.specs.Cache.{Cache}
use Rattle.rules_maps.specs.CacheChange.{marked, stored, filled, invalidated, cleaned, words_dropped}
use Rattle.rules_maps.specs.Spilled.{spill, none_spilled}
use Rattle.spec_cache.specs.declared.frame.FrameView.{FrameView}
use Rattle.spec_cache.specs.Frame.{value_in, read_in, modified_in, dirty_in, line_in, IsFrame, marked_frame, stored_frame, filled_frame}
use Rattle.spec_cache.specs.Frame.{invalidated_frame, cleaned_frame, dropped_frame}
use Rattle.spec_cache.specs.Held.{Held, IsHeld, frame_of, frame_at, maps}
use Rattle.spec_cache.proofs.FrameChanges.{value_in-invalidated, dirty_in-invalidated, read_in-marked, value_in-stored, read_in-stored}
use Rattle.spec_cache.proofs.FrameChanges.{modified_in-stored, dirty_in-stored, dirty_in-cleaned, value_in-filled, value_in-dropped}
use Rattle.spec_cache.proofs.FrameChanges.{modified_in-dropped, dirty_in-dropped}
use Rattle.spec_cache.proofs.FrameFound.{frame_of-way, frame_of-changed, some_within}

pub same_cache : (c d : Cache) → ((t y : ℕ) → c.at t y ≡ d.at t y) → ((l : ℕ) → c.held l ≡ d.held l) → ((w : ℕ) → c.value w ≡ d.value w) →
    ((w : ℕ) → c.read w ≡ d.read w) → ((w : ℕ) → c.modified w ≡ d.modified w) → ((w : ℕ) → c.dirty w ≡ d.dirty w) → c ≡ d
same_cache c d a h v r m t = λ i. record {
  at = λ s y. (a s y) i;
  held = λ l. (h l) i;
  value = λ w. (v w) i;
  read = λ w. (r w) i;
  modified = λ w. (m w) i;
  dirty = λ w. (t w) i;
}

-- the masked words of one line dropped
abbrev pub line_dropped : ℕ → ℕ → Cache → Cache
line_dropped l m c = record c {
  value = λ w. cond (hit l m w) None (c.value w);
  modified = λ w. cond (hit l m w) false (c.modified w);
  dirty = λ w. cond (hit l m w) None (c.dirty w);
}

spilled-hit : (l m w : ℕ) → is_some (spill l m [] none_spilled w) ≡ hit l m w
unfolding spill none_spilled
spilled-hit l m w = chosen (hit l m w)
  where
    chosen : (b : Bool) → is_some {T = ℕ} (cond b (Some (get_or [] (place_of w) 0)) None) ≡ b
    chosen true = refl
    chosen false = refl

pub words_dropped-line : (l m : ℕ) (c : Cache) → words_dropped (spill l m [] none_spilled) c ≡ line_dropped l m c
unfolding words_dropped
words_dropped-line l m c = same_cache _ _ (λ t y. refl) (λ k. refl) (λ w. rw (spilled-hit l m w) refl) (λ w. refl)
    (λ w. rw (spilled-hit l m w) refl) (λ w. rw (spilled-hit l m w) refl)

-- two words are the same where they stand in one line at one place
pub same_word : (v w : ℕ) → nat_eq v w ≡ (nat_eq (line_of v) (line_of w) && nat_eq (place_of v) (place_of w))
same_word v w = elim (cases_eq v w) [
  | inl e ↦ rw (eq-eqb v w e, eq-eqb (line_of v) (line_of w) (ap line_of e), eq-eqb (place_of v) (place_of w) (ap place_of e)) refl
  | inr n ↦ rw (ne_eqb v w n) (elim (cases_eq (v / 8) (w / 8)) [
    | inr m ↦ rw (ne_eqb (v / 8) (w / 8) m) refl
    | inl e ↦ rw (eq-eqb (v / 8) (w / 8) e, ne_eqb (v % 8) (w % 8) (λ q. n (omega arith))) refl
  ])
]

module _ (h : Held) (s : IsHeld h) (i : ℕ) (f : FrameView) (p : get_or h.frames i None ≡ Some f) (g : FrameView)
    (e : g.line.0 ≡ f.line.0) where
  line_in-changed : (j : ℕ) → line_in (get_or (set h.frames i (Some g)) j None) ≡ line_in (get_or h.frames j None)
  unfolding line_in
  line_in-changed j = elim (cases_eq j i) [
    | inl q ↦ rw (q, get_or-set_same h.frames i (Some g) None (some_within h.frames i f p), p) (ap Some e)
    | inr n ↦ rw (get_or-set_other h.frames i j (Some g) None n) refl
  ]

  pub at-changed : (t y : ℕ) → line_in (frame_at (record h { frames = set h.frames i (Some g) }) t y) ≡ line_in (frame_at h t y)
  unfolding frame_at
  at-changed t y =
      elim (nat_lt y h.config.ways) as
      (λ b. line_in (cond b (get_or (set h.frames i (Some g)) (t * h.config.ways + y) None) None) ≡ line_in
      (cond b (get_or h.frames (t * h.config.ways + y) None) None)) [
        | true ↦ line_in-changed (t * h.config.ways + y)
        | false ↦ refl
      ]

  found_here : (l : ℕ) → f.line.0 ≡ l → frame_of h.frames l ≡ Some f
  found_here l q = subst (λ (x : ℕ). frame_of h.frames x ≡ Some f) q (frame_of-way h s i f p)

  -- what is read of a frame: at the line of way i, and at all others
  pub line-changed : {A : Type 0} (x : Option FrameView → A) (l : ℕ) (y : Bool → Option FrameView → A) →
      (f.line.0 ≡ l → x (Some g) ≡ y true (Some f)) → ((o : Option FrameView) → x o ≡ y false o) →
      x (frame_of (set h.frames i (Some g)) l) ≡ y (nat_eq f.line.0 l) (frame_of h.frames l)
  line-changed x l y here other = rw (frame_of-changed h s i f g p e l) (elim (cases_eq f.line.0 l) [
    | inl q ↦ rw (eq-eqb f.line.0 l q, found_here l q) (here q)
    | inr n ↦ rw (ne_eqb f.line.0 l n) (other (frame_of h.frames l))
  ])

  pub held-changed : (l : ℕ) → is_some (frame_of (set h.frames i (Some g)) l) ≡ is_some (frame_of h.frames l)
  held-changed l = line-changed (λ o. is_some o) l (λ b o. is_some o) (λ q. refl) (λ o. refl)

  -- the same of a word
  value-changed : (w : ℕ) (y : Bool → Option FrameView → Option ℕ)
      → (f.line.0 ≡ line_of w → value_in (Some g) (place_of w) ≡ y true (Some f))
      → ((o : Option FrameView) → value_in o (place_of w) ≡ y false o) →
      value_in (frame_of (set h.frames i (Some g)) (line_of w)) (place_of w) ≡ y (nat_eq f.line.0 (line_of w))
      (frame_of h.frames (line_of w))
  value-changed w y here other = line-changed (λ o. value_in o (place_of w)) (line_of w) y here other

  read-changed : (w : ℕ) (y : Bool → Option FrameView → Bool) → (f.line.0 ≡ line_of w → read_in (Some g) (place_of w) ≡ y true (Some f))
      → ((o : Option FrameView) → read_in o (place_of w) ≡ y false o) →
      read_in (frame_of (set h.frames i (Some g)) (line_of w)) (place_of w) ≡ y (nat_eq f.line.0 (line_of w))
      (frame_of h.frames (line_of w))
  read-changed w y here other = line-changed (λ o. read_in o (place_of w)) (line_of w) y here other

  modified-changed : (w : ℕ) (y : Bool → Option FrameView → Bool)
      → (f.line.0 ≡ line_of w → modified_in (Some g) (place_of w) ≡ y true (Some f))
      → ((o : Option FrameView) → modified_in o (place_of w) ≡ y false o) →
      modified_in (frame_of (set h.frames i (Some g)) (line_of w)) (place_of w) ≡ y (nat_eq f.line.0 (line_of w))
      (frame_of h.frames (line_of w))
  modified-changed w y here other = line-changed (λ o. modified_in o (place_of w)) (line_of w) y here other

  dirty-changed : (w : ℕ) (y : Bool → Option FrameView → Option ℕ)
      → (f.line.0 ≡ line_of w → dirty_in (Some g) (place_of w) ≡ y true (Some f))
      → ((o : Option FrameView) → dirty_in o (place_of w) ≡ y false o) →
      dirty_in (frame_of (set h.frames i (Some g)) (line_of w)) (place_of w) ≡ y (nat_eq f.line.0 (line_of w))
      (frame_of h.frames (line_of w))
  dirty-changed w y here other = line-changed (λ o. dirty_in o (place_of w)) (line_of w) y here other

  -- and where the frame says the same as before
  value-kept : (w : ℕ) → value_in (Some g) (place_of w) ≡ value_in (Some f) (place_of w)
      → value_in (frame_of (set h.frames i (Some g)) (line_of w)) (place_of w) ≡ value_in (frame_of h.frames (line_of w)) (place_of w)
  value-kept w here = value-changed w (λ b o. value_in o (place_of w)) (λ q. here) (λ o. refl)

  read-kept : (w : ℕ) → read_in (Some g) (place_of w) ≡ read_in (Some f) (place_of w)
      → read_in (frame_of (set h.frames i (Some g)) (line_of w)) (place_of w) ≡ read_in (frame_of h.frames (line_of w)) (place_of w)
  read-kept w here = read-changed w (λ b o. read_in o (place_of w)) (λ q. here) (λ o. refl)

  modified-kept : (w : ℕ) → modified_in (Some g) (place_of w) ≡ modified_in (Some f) (place_of w)
      → modified_in (frame_of (set h.frames i (Some g)) (line_of w)) (place_of w) ≡ modified_in (frame_of h.frames (line_of w)) (place_of w)
  modified-kept w here = modified-changed w (λ b o. modified_in o (place_of w)) (λ q. here) (λ o. refl)

  dirty-kept : (w : ℕ) → dirty_in (Some g) (place_of w) ≡ dirty_in (Some f) (place_of w)
      → dirty_in (frame_of (set h.frames i (Some g)) (line_of w)) (place_of w) ≡ dirty_in (frame_of h.frames (line_of w)) (place_of w)
  dirty-kept w here = dirty-changed w (λ b o. dirty_in o (place_of w)) (λ q. here) (λ o. refl)

module _ (h : Held) (s : IsHeld h) (i : ℕ) (f : FrameView) (p : get_or h.frames i None ≡ Some f) where
  pub maps-invalidated : (m : ℕ) → maps (record h { frames = set h.frames i (Some (invalidated_frame m f)) }) ≡ invalidated f.line.0 m
      (maps h)
  unfolding maps invalidated hit read_in modified_in invalidated_frame
  maps-invalidated m =
      let g : FrameView = invalidated_frame m f in
      same_cache _ _ (at-changed h s i f p g refl) (held-changed h s i f p g refl)
      (λ w. value-changed h s i f p g refl w
      (λ b o. cond ((b && has m (place_of w)) && not (modified_in o (place_of w))) None (value_in o (place_of w)))
      (λ q. value_in-invalidated m f (place_of w)) (λ o. refl))
      (λ w. read-kept h s i f p g refl w refl)
      (λ w. modified-kept h s i f p g refl w refl)
      (λ w. dirty-changed h s i f p g refl w
      (λ b o. cond ((b && has m (place_of w)) && not (modified_in o (place_of w))) None (dirty_in o (place_of w)))
      (λ q. dirty_in-invalidated m f (place_of w)) (λ o. refl))

  pub maps-cleaned : maps (record h { frames = set h.frames i (Some (cleaned_frame f)) }) ≡ cleaned f.line.0 (maps h)
  unfolding maps cleaned value_in read_in modified_in cleaned_frame
  maps-cleaned =
      let g : FrameView = cleaned_frame f in
      same_cache _ _ (at-changed h s i f p g refl) (held-changed h s i f p g refl)
      (λ w. value-kept h s i f p g refl w refl)
      (λ w. read-kept h s i f p g refl w refl)
      (λ w. modified-kept h s i f p g refl w refl)
      (λ w. dirty-changed h s i f p g refl w (λ b o. cond b None (dirty_in o (place_of w))) (λ q. dirty_in-cleaned f (place_of w))
      (λ o. refl))

  pub maps-filled : (ws : List ℕ) → maps (record h { frames = set h.frames i (Some (filled_frame ws f)) }) ≡ filled f.line.0 ws (maps h)
  unfolding maps filled read_in modified_in dirty_in filled_frame
  maps-filled ws =
      let g : FrameView = filled_frame ws f in
      same_cache _ _ (at-changed h s i f p g refl) (held-changed h s i f p g refl)
      (λ w. value-changed h s i f p g refl w
      (λ b o. cond b (Some (unwrap_or (value_in o (place_of w)) (get_or ws (place_of w) 0))) (value_in o (place_of w)))
      (λ q. value_in-filled ws f (place_of w) (omega arith)) (λ o. refl))
      (λ w. read-kept h s i f p g refl w refl)
      (λ w. modified-kept h s i f p g refl w refl)
      (λ w. dirty-kept h s i f p g refl w refl)

  pub maps-dropped : (m : ℕ) → maps (record h { frames = set h.frames i (Some (dropped_frame m f)) }) ≡ line_dropped f.line.0 m (maps h)
  unfolding maps hit read_in dropped_frame
  maps-dropped m =
      let g : FrameView = dropped_frame m f in
      same_cache _ _ (at-changed h s i f p g refl) (held-changed h s i f p g refl)
      (λ w. value-changed h s i f p g refl w (λ b o. cond (b && has m (place_of w)) None (value_in o (place_of w)))
      (λ q. value_in-dropped m f (place_of w)) (λ o. refl))
      (λ w. read-kept h s i f p g refl w refl)
      (λ w. modified-changed h s i f p g refl w (λ b o. cond (b && has m (place_of w)) false (modified_in o (place_of w)))
      (λ q. modified_in-dropped m f (place_of w)) (λ o. refl))
      (λ w. dirty-changed h s i f p g refl w (λ b o. cond (b && has m (place_of w)) None (dirty_in o (place_of w)))
      (λ q. dirty_in-dropped m f (place_of w)) (λ o. refl))

  -- a change of one word: v's line is that of way i
  module _ (v : ℕ) (l : f.line.0 ≡ line_of v) where
    word_here : (w : ℕ) → (nat_eq f.line.0 (line_of w) && nat_eq (place_of v) (place_of w)) ≡ nat_eq v w
    word_here w = sym (same_word v w ∙ ap (λ x. nat_eq x (line_of w) && nat_eq (place_of v) (place_of w)) (sym l))

    word_there : (w : ℕ) → (nat_eq f.line.0 (line_of w) && nat_eq (place_of v) (place_of w)) ≡ nat_eq w v
    word_there w = word_here w ∙ nat_eq-comm v w

    pub maps-marked : maps (record h { frames = set h.frames i (Some (marked_frame (place_of v) f)) }) ≡ marked v (maps h)
    unfolding maps marked value_in modified_in dirty_in marked_frame
    maps-marked =
        let g : FrameView = marked_frame (place_of v) f in
        same_cache _ _ (at-changed h s i f p g refl) (held-changed h s i f p g refl)
        (λ w. value-kept h s i f p g refl w refl)
        (λ w. read-changed h s i f p g refl w
        (λ b o. cond (b && nat_eq (place_of v) (place_of w)) (read_in o (place_of w) || not (modified_in o (place_of w)))
        (read_in o (place_of w))) (λ q. read_in-marked (place_of v) f (place_of w)) (λ o. refl)
        ∙ ap (λ b. cond b (read_in (frame_of h.frames (line_of w)) (place_of w)
        || not (modified_in (frame_of h.frames (line_of w)) (place_of w)))
        (read_in (frame_of h.frames (line_of w)) (place_of w))) (word_here w))
        (λ w. modified-kept h s i f p g refl w refl)
        (λ w. dirty-kept h s i f p g refl w refl)

    pub maps-stored : (x : ℕ) (also : Bool) → IsFrame f
        → maps (record h { frames = set h.frames i (Some (stored_frame (place_of v) x also f)) }) ≡ stored v x also (maps h)
    unfolding maps stored stored_frame
    maps-stored x also k =
        let g : FrameView = stored_frame (place_of v) x also f in
        let inside : place_of v < length f.words = rw k.eight_words (omega arith) in
        same_cache _ _ (at-changed h s i f p g refl) (held-changed h s i f p g refl)
        (λ w. value-changed h s i f p g refl w (λ b o. cond (b && nat_eq (place_of v) (place_of w)) (Some x) (value_in o (place_of w)))
        (λ q. value_in-stored (place_of v) x also f (place_of w) inside) (λ o. refl)
        ∙ ap (λ b. cond b (Some x) (value_in (frame_of h.frames (line_of w)) (place_of w))) (word_there w))
        (λ w. read-changed h s i f p g refl w
        (λ b o. cond (b && nat_eq (place_of v) (place_of w)) (also || read_in o (place_of w)) (read_in o (place_of w)))
        (λ q. read_in-stored (place_of v) x also f (place_of w)) (λ o. refl)
        ∙ ap (λ b. cond b (also || read_in (frame_of h.frames (line_of w)) (place_of w))
        (read_in (frame_of h.frames (line_of w)) (place_of w))) (word_here w))
        (λ w. modified-changed h s i f p g refl w (λ b o. cond (b && nat_eq (place_of v) (place_of w)) true (modified_in o (place_of w)))
        (λ q. modified_in-stored (place_of v) x also f (place_of w)) (λ o. refl)
        ∙ ap (λ b. cond b true (modified_in (frame_of h.frames (line_of w)) (place_of w))) (word_there w))
        (λ w. dirty-changed h s i f p g refl w (λ b o. cond b None (dirty_in o (place_of w)))
        (λ q. dirty_in-stored (place_of v) x also f (place_of w)) (λ o. refl)
        ∙ ap (λ l. cond (nat_eq l (line_of w)) None (dirty_in (frame_of h.frames (line_of w)) (place_of w))) l)
