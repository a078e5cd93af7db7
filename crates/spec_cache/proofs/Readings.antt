-- What the maps say of a line, read off its frame.
use Rattle.std.proofs.Common.{ℕ, ◌<◌, ◌≤◌, ◌≡◌, Bool, true, false, not, cond, ◌&&◌, ◌||◌, inl, inr, get_or, unwrap_or, bit_or}
use Rattle.std.proofs.Common.{Some, None, is_some, nat_eq, bit_and, refl, sym, ◌∙◌, ap, subst, arith}
use Rattle.std.specs.Option.{option_map}
use Rattle.std.proofs.lemmas.Bool.{false≢true, cases_eq, cases_Bool, eq-eqb, ne_eqb}
use Rattle.std.proofs.lemmas.Nat.{and_le_l, le_or_l, or_of_8}
use Rattle.base_lemmas.proofs.Lemmas.{any_below-same, eight-same, is_some-cond, line_of-word_at, mask_of-none, mask_of-same, none_below}
use Rattle.base_lemmas.proofs.Lemmas.{place_of-word_at}
use Rattle.rules_maps.specs.Words.{line_of, place_of, word_at, any_below, any_word, or_else}
use Rattle.rules_maps.specs.Masks.{has, hit, masked, meet, join}
use Rattle.rules_maps.specs.Cache.{is_marked, is_dirty, modified_mask, dirty_mask, dirty_words, dirty_tag, first_of_line, dirty_copy, keeps}
use Rattle.rules_maps.specs.CacheLook.{reads_masked}
use Rattle.rules_maps.specs.Bridge.{tagged_of}
use Rattle.rules_maps.proofs.Lemmas.{mask_of-has, has-meet, has-join, has-zero}
use Rattle.spec_cache.specs.declared.frame.FrameView.{FrameView}
use Rattle.spec_cache.specs.Frame.{value_in, read_in, modified_in, dirty_in, IsFrame, dirty_part}
use Rattle.spec_cache.specs.Held.{Held, frame_of, maps}
use Rattle.spec_cache.specs.Look.{Views}

-- ---- the words of a line

-- ---- a mask has a place where it isn't zero

any-zero : any_below (has 0) 8 ≡ false
any-zero = any_below-same (has 0) (λ _. false) 8 (λ k h. has-zero k) ∙ (unfold any_below in refl)

pub any-has : (m : ℕ) → m < 256 → any_below (has m) 8 ≡ not (nat_eq m 0)
any-has m h = elim (cases_eq m 0) [
  | inl z ↦ rw (eq-eqb m 0 z) (rw z any-zero)
  | inr n ↦ rw (ne_eqb m 0 n) (elim (cases_Bool (any_below (has m) 8)) [
    | inl t ↦ t
    | inr f ↦ absurd (n (sym (mask_of-has m h) ∙ mask_of-none (has m) (λ k b. none_below (has m) 8 k f b)))
  ])
]

and-swap : (a b : Bool) → (a && b) ≡ (b && a)
and-swap true true = refl
and-swap true false = refl
and-swap false true = refl
and-swap false false = refl

some_cond : (b : Bool) (x : ℕ) → is_some (cond b (Some x) None) ≡ true → cond b (Some x) None ≡ Some x
some_cond true x e = refl
some_cond false x e = absurd (false≢true e)

neither : (a b : ℕ) → not (nat_eq (bit_or a b) 0) ≡ not (nat_eq a 0 && nat_eq b 0)
neither a b = elim (cases_eq a 0) [
  | inl z ↦ rw z refl
  | inr n ↦ rw (ne_eqb a 0 n, ne_eqb (bit_or a b) 0 (λ e. n (let h : a ≤ bit_or a b = le_or_l a b in omega arith))) refl
]

-- ---- a line with a frame

module _ (h : Held) (l : ℕ) (f : FrameView) (found : frame_of h.frames l ≡ Some f) where
  frame_at_word : (k : ℕ) → k < 8 → frame_of h.frames (line_of (word_at l k)) ≡ Some f
  frame_at_word k b = rw (line_of-word_at l k b) found

  pub value-at : (k : ℕ) → k < 8 → (maps h).value (word_at l k) ≡ cond (has f.valid.0 k) (Some (get_or f.words k 0)) None
  unfolding maps value_in
  value-at k b = rw (frame_at_word k b, place_of-word_at l k b) refl

  pub read-at : (k : ℕ) → k < 8 → (maps h).read (word_at l k) ≡ has f.read.0 k
  unfolding maps read_in
  read-at k b = rw (frame_at_word k b, place_of-word_at l k b) refl

  pub modified-at : (k : ℕ) → k < 8 → (maps h).modified (word_at l k) ≡ has f.modified.0 k
  unfolding maps modified_in
  modified-at k b = rw (frame_at_word k b, place_of-word_at l k b) refl

  pub dirty-at : (k : ℕ) → k < 8 → (maps h).dirty (word_at l k) ≡ cond (has f.dirty.0 k) (Some f.tag.0) None
  unfolding maps dirty_in
  dirty-at k b = rw (frame_at_word k b, place_of-word_at l k b) refl

  pub value-word : (w : ℕ) → l ≡ line_of w → is_some ((maps h).value w) ≡ true → (maps h).value w ≡ Some (get_or f.words (place_of w) 0)
  unfolding maps value_in
  value-word w q e =
      let g : frame_of h.frames (line_of w) ≡ Some f = subst (λ (x : ℕ). frame_of h.frames x ≡ Some f) q found in
      rw g (some_cond (has f.valid.0 (place_of w)) (get_or f.words (place_of w) 0) (rw g at e))

  pub dirty-word : (w : ℕ) → l ≡ line_of w → is_some ((maps h).dirty w) ≡ true → (maps h).dirty w ≡ Some f.tag.0
  unfolding maps dirty_in
  dirty-word w q e =
      let g : frame_of h.frames (line_of w) ≡ Some f = subst (λ (x : ℕ). frame_of h.frames x ≡ Some f) q found in
      rw g (some_cond (has f.dirty.0 (place_of w)) f.tag.0 (rw g at e))

  module _ (s : IsFrame f) where
    pub keeps-frame : keeps (maps h) l ≡ not (nat_eq f.valid.0 0)
    unfolding keeps any_word
    keeps-frame = any_below-same _ (has f.valid.0) 8 (λ k b. rw (value-at k b) (is_some-cond (has f.valid.0 k) (get_or f.words k 0)))
        ∙ any-has f.valid.0 s.valid_fits

    pub is_dirty-frame : is_dirty (maps h) l ≡ not (nat_eq f.dirty.0 0)
    unfolding is_dirty any_word
    is_dirty-frame = any_below-same _ (has f.dirty.0) 8 (λ k b. rw (dirty-at k b) (is_some-cond (has f.dirty.0 k) f.tag.0))
        ∙ any-has f.dirty.0 s.dirty_fits

    pub modified_mask-frame : modified_mask (maps h) l ≡ f.modified.0
    unfolding modified_mask
    modified_mask-frame = mask_of-same _ (has f.modified.0) modified-at ∙ mask_of-has f.modified.0 s.modified_fits

    pub dirty_mask-frame : dirty_mask (maps h) l ≡ f.dirty.0
    unfolding dirty_mask
    dirty_mask-frame = mask_of-same _ (has f.dirty.0) (λ k b. rw (dirty-at k b) (is_some-cond (has f.dirty.0 k) f.tag.0))
        ∙ mask_of-has f.dirty.0 s.dirty_fits

    hit-word_at : (m k : ℕ) → k < 8 → hit l m (word_at l k) ≡ has m k
    unfolding hit
    hit-word_at m k b = rw (line_of-word_at l k b, place_of-word_at l k b, eq-eqb l l refl) refl

    pub reads_masked-frame : (m : ℕ) → reads_masked l m (maps h) ≡ not (nat_eq (bit_and f.read.0 m) 0)
    unfolding reads_masked any_word
    reads_masked-frame m =
        any_below-same _ (has (meet f.read.0 m)) 8
        (λ k b. rw (hit-word_at m k b, read-at k b, has-meet) (and-swap (has m k) (has f.read.0 k)))
        ∙ any-has (bit_and f.read.0 m) (omega (arith, and_le_l f.read.0 m, s.read_fits))

    pub is_marked-frame : is_marked (maps h) l ≡ not (nat_eq f.read.0 0 && nat_eq f.modified.0 0)
    unfolding is_marked any_word
    is_marked-frame =
        any_below-same _ (has (join f.read.0 f.modified.0)) 8 (λ k b. rw (read-at k b, modified-at k b, has-join) refl)
        ∙ any-has (bit_or f.read.0 f.modified.0) (or_of_8 _ _ s.read_fits s.modified_fits)
        ∙ neither f.read.0 f.modified.0

    word-dirty : (k : ℕ) → k < 8
        → cond (is_some (cond (has f.dirty.0 k) (Some f.tag.0) None))
        (unwrap_or (cond (has f.valid.0 k) (Some (get_or f.words k 0)) None) 0) 0 ≡ cond (has f.dirty.0 k) (get_or f.words k 0) 0
    word-dirty k b = elim (cases_Bool (has f.dirty.0 k)) [
      | inl t ↦ rw (t, s.dirty_valid k t) refl
      | inr n ↦ rw n refl
    ]

    pub dirty_words-frame : dirty_words (maps h) l ≡ masked f.dirty.0 f.words
    unfolding dirty_words masked
    dirty_words-frame = eight-same _ _ (λ k b. rw (dirty-at k b, value-at k b) (word-dirty k b))

    first_dirty : (t : ℕ) (a b c d e g i j : Bool) → (((((((a || b) || c) || d) || e) || g) || i) || j) ≡ true →
        unwrap_or (or_else (cond a (Some t) None)
        (or_else (cond b (Some t) None)
        (or_else (cond c (Some t) None)
        (or_else (cond d (Some t) None)
        (or_else (cond e (Some t) None)
        (or_else (cond g (Some t) None) (or_else (cond i (Some t) None) (cond j (Some t) None)))))))) 0 ≡ t
    first_dirty t true b c d e g i j p = refl
    first_dirty t false true c d e g i j p = refl
    first_dirty t false false true d e g i j p = refl
    first_dirty t false false false true e g i j p = refl
    first_dirty t false false false false true g i j p = refl
    first_dirty t false false false false false true i j p = refl
    first_dirty t false false false false false false true j p = refl
    first_dirty t false false false false false false false true p = refl
    first_dirty t false false false false false false false false p = absurd (false≢true p)

    pub dirty_tag-frame : nat_eq f.dirty.0 0 ≡ false → dirty_tag (maps h) l ≡ f.tag.0
    unfolding dirty_tag first_of_line any_below
    dirty_tag-frame n =
        rw (
          dirty-at 0 (omega arith),
          dirty-at 1 (omega arith),
          dirty-at 2 (omega arith),
          dirty-at 3 (omega arith),
          dirty-at 4 (omega arith),
          dirty-at 5 (omega arith),
          dirty-at 6 (omega arith),
          dirty-at 7 (omega arith),
        )
        (first_dirty f.tag.0 (has f.dirty.0 0) (has f.dirty.0 1) (has f.dirty.0 2) (has f.dirty.0 3) (has f.dirty.0 4) (has f.dirty.0 5)
        (has f.dirty.0 6) (has f.dirty.0 7) (any-has f.dirty.0 s.dirty_fits ∙ ap not n))

    pub dirty_copy-frame : f.line.0 ≡ l → option_map tagged_of (dirty_part f) ≡ dirty_copy (maps h) l
    unfolding dirty_copy dirty_part
    dirty_copy-frame line = rw is_dirty-frame (elim (cases_Bool (nat_eq f.dirty.0 0)) [
      | inl z ↦ rw z refl
      | inr n ↦ rw (n, dirty_mask-frame, dirty_words-frame, dirty_tag-frame n, line) refl
    ])

    pub views-frame : f.line.0 ≡ l → Views (maps h) l f
    views-frame line = record {
      line = line;
      valid =
          sym (mask_of-same _ (has f.valid.0) (λ k b. rw (value-at k b) (is_some-cond (has f.valid.0 k) (get_or f.words k 0)))
          ∙ mask_of-has f.valid.0 s.valid_fits);
      words = λ w q e. value-word w q e;
      read = sym (mask_of-same _ (has f.read.0) read-at ∙ mask_of-has f.read.0 s.read_fits);
      modified = sym modified_mask-frame;
      dirty = sym dirty_mask-frame;
      tag = λ w q e. dirty-word w q e;
    }
