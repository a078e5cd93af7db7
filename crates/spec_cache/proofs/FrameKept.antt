-- Each change of a frame leaves a frame.
use Rattle.std.proofs.Common.{ℕ, ◌/◌, ◌^◌, ◌<◌, ◌≤◌, ◌≡◌, Bool, true, false, not, cond, ◌&&◌, ◌||◌, inl, inr, List, nat_eq, bit_and, refl}
use Rattle.std.proofs.Common.{sym, ◌∙◌, arith, length-set, lit<}
use Rattle.std.proofs.Math.Pow.{pow_mono, pow_pos}
use Rattle.std.proofs.Math.Bool.{and-false}
use Rattle.std.proofs.lemmas.Bool.{false≢true, cases_eq, cases_lt, or_cases, or_left, or_right}
use Rattle.std.proofs.lemmas.Nat.{or_of_8, xor_of_8, and_le_l, pow_below, div_below}
use Rattle.base_lemmas.proofs.Lemmas.{has-full, has-zero, length-eight}
use Rattle.rules_maps.specs.Masks.{has, minus, join}
use Rattle.spec_cache.specs.declared.frame.FrameView.{FrameView}
use Rattle.spec_cache.specs.Frame.{IsFrame, empty_frame, marked_frame, stored_frame, filled_up, filled_frame, invalidated_frame}
use Rattle.spec_cache.specs.Frame.{cleaned_frame, dropped_frame, rolled_back_frame, read_cleared_frame, committed_frame, committed_modified}
use Rattle.spec_cache.proofs.MaskLaws.{has-join, has-minus}

never : {P : Type 0} (k : ℕ) → has 0 k ≡ true → P
never k h = absurd (false≢true (sym (has-zero k) ∙ h))

pub minus-lt : (m n : ℕ) → m < 256 → minus m n < 256
minus-lt m n h = xor_of_8 m (bit_and m n) h (omega (arith, and_le_l m n))

-- what is left of nothing is nothing
minus_none : (m n : ℕ) → m ≡ 0 → minus m n ≡ 0
minus_none m n e = rw e refl

-- what is left was there
has_left : (m n k : ℕ) → has (minus m n) k ≡ true → (has m k ≡ true) × (has n k ≡ false)
has_left m n k h = go (has m k) (has n k) refl refl (sym (has-minus m n k) ∙ h)
  where
    go : (a b : Bool) → has m k ≡ a → has n k ≡ b → (a && not b) ≡ true → (has m k ≡ true) × (has n k ≡ false)
    go true false p q e = (p, q)
    go true true p q e = absurd (false≢true e)
    go false b p q e = absurd (false≢true e)

has_kept : (m n k : ℕ) → has m k ≡ true → has n k ≡ false → has (minus m n) k ≡ true
has_kept m n k p q = rw (has-minus, p, q) refl

beyond : (m k : ℕ) → m < 256 → 8 ≤ k → has m k ≡ false
unfolding has
beyond m k h past =
    let large : 2 ^ 8 ≤ 2 ^ k = pow_mono past in
    let none : m / 2 ^ k < 1 = div_below m (2 ^ k) 1 (pow_pos k) (omega (arith, large)) in
    let gone : m / 2 ^ k ≡ 0 = omega (arith, none) in
    rw gone refl

-- a word added to both
joined : (m v n j : ℕ) → (has m j ≡ true → has v j ≡ true) → has (join m n) j ≡ true → has (join v n) j ≡ true
joined m v n j t e =
    let u : (has m j || has n j) ≡ true = sym (has-join m n j) ∙ e in
    rw has-join (elim (or_cases (has m j) (has n j) u) [ inl p ↦ or_left _ _ (t p) | inr q ↦ or_right _ _ q ])

-- a mask of a byte has no word past the eighth
pub has-below : (m k : ℕ) → m < 256 → has m k ≡ true → k < 8
has-below m k h e = elim (cases_lt k 8) [ inl b ↦ b | inr past ↦ absurd (false≢true (sym (beyond m k h past) ∙ e)) ]

pub IsFrame-empty : (l : ℕ) → IsFrame (empty_frame l)
unfolding empty_frame
IsFrame-empty l = record {
  eight_words = length-eight (λ _. 0);
  valid_fits = lit< tt;
  read_fits = lit< tt;
  modified_fits = lit< tt;
  dirty_fits = lit< tt;
  modified_valid = λ k h. h;
  dirty_valid = λ k h. h;
  either = λ n. refl;
}

module _ (f : FrameView) (s : IsFrame f) where
  pub IsFrame-marked : (k : ℕ) → k < 8 → IsFrame (marked_frame k f)
  unfolding marked_frame
  IsFrame-marked k h = record {
    eight_words = s.eight_words;
    valid_fits = s.valid_fits;
    read_fits = or_of_8 _ _ s.read_fits (minus-lt _ _ (pow_below k 8 h));
    modified_fits = s.modified_fits;
    dirty_fits = s.dirty_fits;
    modified_valid = s.modified_valid;
    dirty_valid = s.dirty_valid;
    either = s.either;
  }

  pub IsFrame-stored : (k v : ℕ) (also : Bool) → k < 8 → IsFrame (stored_frame k v also f)
  unfolding stored_frame
  IsFrame-stored k v also h = record {
    eight_words = length-set _ _ _ ∙ s.eight_words;
    valid_fits = or_of_8 _ _ s.valid_fits (pow_below k 8 h);
    read_fits = elim also as (λ a. cond a (join f.read.0 (2 ^ k)) f.read.0 < 256) [
      | true ↦ or_of_8 _ _ s.read_fits (pow_below k 8 h)
      | false ↦ s.read_fits
    ];
    modified_fits = or_of_8 _ _ s.modified_fits (pow_below k 8 h);
    dirty_fits = lit< tt;
    modified_valid = λ j e. joined f.modified.0 f.valid.0 (2 ^ k) j (s.modified_valid j) e;
    dirty_valid = λ j e. never j e;
    either = λ n. refl;
  }

  pub IsFrame-filled : (ws : List ℕ) → IsFrame (filled_frame ws f)
  unfolding filled_frame filled_up
  IsFrame-filled ws = record {
    eight_words = length-eight _;
    valid_fits = lit< tt;
    read_fits = s.read_fits;
    modified_fits = s.modified_fits;
    dirty_fits = s.dirty_fits;
    modified_valid = λ k e. has-full k (has-below f.modified.0 k s.modified_fits e);
    dirty_valid = λ k e. has-full k (has-below f.dirty.0 k s.dirty_fits e);
    either = s.either;
  }

  pub IsFrame-invalidated : (m : ℕ) → IsFrame (invalidated_frame m f)
  unfolding invalidated_frame
  IsFrame-invalidated m = record {
    eight_words = s.eight_words;
    valid_fits = minus-lt _ _ s.valid_fits;
    read_fits = s.read_fits;
    modified_fits = s.modified_fits;
    dirty_fits = minus-lt _ _ s.dirty_fits;
    modified_valid = λ k e. has_kept _ _ k (s.modified_valid k e) (rw (has-minus, e) (and-false (has m k)));
    dirty_valid = λ k e. let p = has_left _ _ k e in has_kept _ _ k (s.dirty_valid k p.0) p.1;
    either = λ n. minus_none _ _ (s.either n);
  }

  pub IsFrame-cleaned : IsFrame (cleaned_frame f)
  unfolding cleaned_frame
  IsFrame-cleaned = record {
    eight_words = s.eight_words;
    valid_fits = s.valid_fits;
    read_fits = s.read_fits;
    modified_fits = s.modified_fits;
    dirty_fits = lit< tt;
    modified_valid = s.modified_valid;
    dirty_valid = λ k e. never k e;
    either = λ n. refl;
  }

  pub IsFrame-dropped : (k : ℕ) → IsFrame (dropped_frame k f)
  unfolding dropped_frame
  IsFrame-dropped j = record {
    eight_words = s.eight_words;
    valid_fits = minus-lt _ _ s.valid_fits;
    read_fits = s.read_fits;
    modified_fits = minus-lt _ _ s.modified_fits;
    dirty_fits = minus-lt _ _ s.dirty_fits;
    modified_valid = λ k e. let p = has_left _ _ k e in has_kept _ _ k (s.modified_valid k p.0) p.1;
    dirty_valid = λ k e. let p = has_left _ _ k e in has_kept _ _ k (s.dirty_valid k p.0) p.1;
    either = λ n. minus_none _ _ (s.either (λ z. n (minus_none _ _ z)));
  }

  -- a dirty word is not modified
  pub not_both : (k : ℕ) → has f.dirty.0 k ≡ true → has f.modified.0 k ≡ false
  not_both k e = elim (cases_eq f.modified.0 0) [
    | inl z ↦ rw z (has-zero k)
    | inr n ↦ (let z = s.either n in absurd (false≢true (sym (has-zero k) ∙ (rw z at e))))
  ]

  pub IsFrame-rolled_back : IsFrame (rolled_back_frame f)
  unfolding rolled_back_frame
  IsFrame-rolled_back = record {
    eight_words = s.eight_words;
    valid_fits = minus-lt _ _ s.valid_fits;
    read_fits = lit< tt;
    modified_fits = lit< tt;
    dirty_fits = s.dirty_fits;
    modified_valid = λ k e. never k e;
    dirty_valid = λ k e. has_kept _ _ k (s.dirty_valid k e) (not_both k e);
    either = λ n. absurd (n refl);
  }

  pub IsFrame-read_cleared : IsFrame (read_cleared_frame f)
  unfolding read_cleared_frame
  IsFrame-read_cleared = record {
    eight_words = s.eight_words;
    valid_fits = s.valid_fits;
    read_fits = lit< tt;
    modified_fits = s.modified_fits;
    dirty_fits = s.dirty_fits;
    modified_valid = s.modified_valid;
    dirty_valid = s.dirty_valid;
    either = s.either;
  }

  pub IsFrame-committed_modified : (t : ℕ) (b : Bool) → IsFrame (committed_modified b t f)
  unfolding committed_modified
  IsFrame-committed_modified t true = record {
    eight_words = s.eight_words;
    valid_fits = s.valid_fits;
    read_fits = lit< tt;
    modified_fits = s.modified_fits;
    dirty_fits = s.dirty_fits;
    modified_valid = s.modified_valid;
    dirty_valid = s.dirty_valid;
    either = s.either;
  }
  IsFrame-committed_modified t false = record {
    eight_words = s.eight_words;
    valid_fits = s.valid_fits;
    read_fits = lit< tt;
    modified_fits = lit< tt;
    dirty_fits = s.modified_fits;
    modified_valid = λ k e. never k e;
    dirty_valid = s.modified_valid;
    either = λ n. absurd (n refl);
  }

  pub IsFrame-committed : (t : ℕ) → IsFrame (committed_frame t f)
  unfolding committed_frame
  IsFrame-committed t = IsFrame-committed_modified t (nat_eq f.modified.0 0)
