-- What is shown of a frame is what the rules' cache has of its line.
use Rattle.std.proofs.Common.{◌≡◌, ℕ, ◌*◌, ◌+◌, ◌<◌, Bool, true, false, cond, ◌==◌, if◌then◌else◌}
use Rattle.std.proofs.Common.{[], ◌∷◌, Option, Some, None, is_some, refl, ap, sym, ◌∙◌, arith, inl, inr}
use Rattle.std.specs.Prelude.{get_or, unwrap_or}
use Rattle.std.proofs.lemmas.Bool.{cases_Bool}
use Rattle.std.proofs.lemmas.Bool.Decides.{nat_tests}
use Rattle.rules_maps.specs.Cache.{Cache, dirty_mask, dirty_tag, first_of_line}
use Rattle.rules_maps.specs.Masks.{has, mask_of, masked}
use Rattle.rules_maps.specs.Words.{eight, line_of, num, or_else, place_of, word_at}
use Rattle.rules_maps.proofs.Lemmas.{has-mask_of}
use Rattle.spec_cache.specs.Look.{Views}
use Rattle.spec_cache.specs.declared.frame.FrameView.{FrameView}
use Rattle.watch_state.specs.Cores.{frame_of, held_record, way_record}
use Rattle.watch_state.specs.Records.{Holds}
use Rattle.watch_state.specs.Shown.{shown_frame}

-- a valid word of the line
word-here : (c : Cache) (l k : ℕ) (f : FrameView) → Views c l f → k < 8 → has f.valid.0 k ≡ true
    → get_or f.words k 0 ≡ unwrap_or (c.value (word_at l k)) 0
word-here c l k f v b h =
    let line : l ≡ line_of (word_at l k) = omega arith in
    let place : place_of (word_at l k) ≡ k = omega arith in
    let valid : is_some (c.value (word_at l k)) ≡ true =
    sym (has-mask_of (λ j. is_some (c.value (word_at l j))) k b) ∙ ap (λ m. has m k) (sym v.valid) ∙ h in
    ap (λ j. get_or f.words j 0) (sym place) ∙ ap (λ o. unwrap_or o 0) (sym (v.words (word_at l k) line valid))

-- each word, 0 where it isn't valid
word-shown : (c : Cache) (l k : ℕ) (f : FrameView) → Views c l f → k < 8
    → (if has f.valid.0 k then get_or f.words k 0 else 0) ≡ unwrap_or (c.value (word_at l k)) 0
word-shown c l k f v b =
    let same : has f.valid.0 k ≡ is_some (c.value (word_at l k)) =
    ap (λ m. has m k) v.valid ∙ has-mask_of (λ j. is_some (c.value (word_at l j))) k b in
    elim (cases_Bool (has f.valid.0 k)) [
      | inl t ↦ rw t (word-here c l k f v b t)
      | inr n ↦ rw n (sym (nothing (c.value (word_at l k)) (sym same ∙ n)))
    ]
  where
    nothing : (o : Option ℕ) → is_some o ≡ false → unwrap_or o 0 ≡ 0
    nothing None e = refl
    nothing (Some x) e = absurd (cc)

words-shown : (c : Cache) (l : ℕ) (f : FrameView) → Views c l f
    → masked f.valid.0 f.words ≡ eight (λ k. unwrap_or (c.value (word_at l k)) 0)
unfolding masked eight
words-shown c l f v = λ i.
    word-shown c l 0 f v (omega arith) i ∷ word-shown c l 1 f v (omega arith) i ∷ word-shown c l 2 f v (omega arith) i
    ∷ word-shown c l 3 f v (omega arith) i ∷ word-shown c l 4 f v (omega arith) i ∷ word-shown c l 5 f v (omega arith) i
    ∷ word-shown c l 6 f v (omega arith) i ∷ word-shown c l 7 f v (omega arith) i ∷ []

-- ---- the tag of the first dirty word

tagged : (t : ℕ) (o : Option ℕ) → (is_some o ≡ true → o ≡ Some t) → o ≡ cond (is_some o) (Some t) None
tagged t None h = refl
tagged t (Some x) h = h refl

chosen : (t m : ℕ) (a b c d e g i j : Bool)
    → m ≡ num a + 2 * num b + 4 * num c + 8 * num d + 16 * num e + 32 * num g + 64 * num i + 128 * num j
    → (if m == 0 then 0 else t) ≡ unwrap_or (or_else (cond a (Some t) None) (or_else (cond b (Some t) None) (or_else (cond c (Some t) None)
    (or_else (cond d (Some t) None) (or_else (cond e (Some t) None) (or_else (cond g (Some t) None) (or_else (cond i (Some t) None)
    (cond j (Some t) None)))))))) 0
chosen t m true b c d e g i j q = let z : (m == 0) ≡ false = grind (arith, nat_tests) in rw z refl
chosen t m false true c d e g i j q = let z : (m == 0) ≡ false = grind (arith, nat_tests) in rw z refl
chosen t m false false true d e g i j q = let z : (m == 0) ≡ false = grind (arith, nat_tests) in rw z refl
chosen t m false false false true e g i j q = let z : (m == 0) ≡ false = grind (arith, nat_tests) in rw z refl
chosen t m false false false false true g i j q = let z : (m == 0) ≡ false = grind (arith, nat_tests) in rw z refl
chosen t m false false false false false true i j q = let z : (m == 0) ≡ false = grind (arith, nat_tests) in rw z refl
chosen t m false false false false false false true j q = let z : (m == 0) ≡ false = grind (arith, nat_tests) in rw z refl
chosen t m false false false false false false false true q = let z : (m == 0) ≡ false = grind (arith, nat_tests) in rw z refl
chosen t m false false false false false false false false q = let z : (m == 0) ≡ true = grind (arith, nat_tests) in rw z refl

dirty-at : (c : Cache) (l k : ℕ) (f : FrameView) → Views c l f → k < 8
    → c.dirty (word_at l k) ≡ cond (is_some (c.dirty (word_at l k))) (Some f.tag.0) None
dirty-at c l k f v b =
    let line : l ≡ line_of (word_at l k) = omega arith in
    tagged f.tag.0 (c.dirty (word_at l k)) (v.tag (word_at l k) line)

-- the tag, by the words that are dirty
tag-shown : (c : Cache) (l : ℕ) (f : FrameView) → Views c l f → (if f.dirty.0 == 0 then 0 else f.tag.0) ≡ dirty_tag c l
unfolding dirty_tag first_of_line dirty_mask mask_of
tag-shown c l f v =
    let p : ℕ → Bool = λ k. is_some (c.dirty (word_at l k)) in
    let at : (k : ℕ) → k < 8 → c.dirty (word_at l k) ≡ cond (p k) (Some f.tag.0) None = λ k. dirty-at c l k f v in
    chosen f.tag.0 f.dirty.0 (p 0) (p 1) (p 2) (p 3) (p 4) (p 5) (p 6) (p 7) v.dirty
    ∙ sym (λ i. unwrap_or (or_else (at 0 (omega arith) i) (or_else (at 1 (omega arith) i) (or_else (at 2 (omega arith) i)
    (or_else (at 3 (omega arith) i) (or_else (at 4 (omega arith) i) (or_else (at 5 (omega arith) i)
    (or_else (at 6 (omega arith) i) (at 7 (omega arith) i)))))))) 0)

-- ---- the whole

frame-shown : (c : Cache) (l : ℕ) (f : FrameView) → Views c l f → shown_frame f ≡ frame_of c l
unfolding frame_of
frame-shown c l f v = λ i. record {
  line = v.line i;
  valid = v.valid i;
  read = v.read i;
  modified = v.modified i;
  dirty = v.dirty i;
  tag = tag-shown c l f v i;
  words = words-shown c l f v i;
}

pub way-shown : (id x y : ℕ) (c : Cache) (f : FrameView) → c.at x y ≡ Some f.line.0 → Views c f.line.0 f
    → Holds id x y (shown_frame f) ∷ [] ≡ way_record id c x y
unfolding way_record
way-shown id x y c f e v =
    ap (λ t. Holds id x y t ∷ []) (frame-shown c f.line.0 f v) ∙ ap (λ o. held_record id x y c o) (sym e)

pub way-empty : (id x y : ℕ) (c : Cache) → c.at x y ≡ None → way_record id c x y ≡ []
unfolding way_record
way-empty id x y c e = ap (λ o. held_record id x y c o) e
