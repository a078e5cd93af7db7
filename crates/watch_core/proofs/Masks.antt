-- The words of a line that have a mark, read from the masks of its frame, and of a line that has none.
use Rattle.std.proofs.Common.{◌≡◌, ℕ, ◌+◌, ◌*◌, ◌/◌, ◌%◌, ◌<◌, Bool, true, false, not, eqb, ◌&&◌, ◌||◌}
use Rattle.std.proofs.Common.{refl, ap, sym, ◌∙◌, arith, Option, Some, None, is_some}
use Rattle.std.proofs.lemmas.Bool.Decides.{nat_tests}
use Rattle.std.proofs.lemmas.Nat.{and_le_l}
use Rattle.std.specs.Prelude.{bit_and}
use Rattle.base_lemmas.proofs.Lemmas.{any_below-none, mask_of-same}
use Rattle.rules_maps.proofs.Lemmas.{has-meet, has-mask_of, mask_of-has, mask_of-small}
use Rattle.rules_maps.specs.Cache.{Cache, is_dirty, dirty_mask}
use Rattle.rules_maps.specs.Masks.{has, mask_of}
use Rattle.rules_maps.specs.Words.{any_below, any_word, num, word_at}
use Rattle.spec_cache.specs.declared.frame.FrameView.{FrameView}
use Rattle.spec_cache.specs.Frame.{dirty_in, read_in}
use Rattle.spec_cache.specs.Held.{Held, frame_of, maps}

-- one more bit of weight w
one-more : (n w : ℕ) (b : Bool) → 0 < w → not (eqb (n + w * num b) 0) ≡ not (eqb n 0) || b
one-more n w true h = grind (arith, nat_tests)
one-more n w false h = grind (arith, nat_tests)

first-bit : (b : Bool) → not (eqb (num b) 0) ≡ b
first-bit true = refl
first-bit false = refl

-- a mask isn't zero where one of its places has p
pub some-bit : (p : ℕ → Bool) → not (eqb (mask_of p) 0) ≡ any_below p 8
unfolding mask_of any_below
some-bit p =
    let n1 : ℕ = num (p 0) + 2 * num (p 1) in
    let n2 : ℕ = n1 + 4 * num (p 2) in
    let n3 : ℕ = n2 + 8 * num (p 3) in
    let n4 : ℕ = n3 + 16 * num (p 4) in
    let n5 : ℕ = n4 + 32 * num (p 5) in
    let n6 : ℕ = n5 + 64 * num (p 6) in
    one-more n6 128 (p 7) (omega arith) ∙ ap (λ b. b || p 7) (
    one-more n5 64 (p 6) (omega arith) ∙ ap (λ b. b || p 6) (
    one-more n4 32 (p 5) (omega arith) ∙ ap (λ b. b || p 5) (
    one-more n3 16 (p 4) (omega arith) ∙ ap (λ b. b || p 4) (
    one-more n2 8 (p 3) (omega arith) ∙ ap (λ b. b || p 3) (
    one-more n1 4 (p 2) (omega arith) ∙ ap (λ b. b || p 2) (
    one-more (num (p 0)) 2 (p 1) (omega arith) ∙ ap (λ b. b || p 1) (first-bit (p 0))))))))

pub dirty-bit : (c : Cache) (l : ℕ) → not (eqb (dirty_mask c l) 0) ≡ is_dirty c l
unfolding dirty_mask is_dirty any_word
dirty-bit c l = some-bit (λ k. is_some (c.dirty (word_at l k)))

and-turned : (a b : Bool) → a && b ≡ b && a
and-turned true true = refl
and-turned true false = refl
and-turned false true = refl
and-turned false false = refl

-- the places of a mask that are also in another
pub meet-mask : (p : ℕ → Bool) (m : ℕ) → bit_and (mask_of p) m ≡ mask_of (λ k. has m k && p k)
meet-mask p m =
    let x : ℕ = bit_and (mask_of p) m in
    let small : x < 256 = omega (arith, and_le_l (mask_of p) m, mask_of-small p) in
    sym (mask_of-has x small)
    ∙ mask_of-same (has x) (λ k. has m k && p k)
    (λ k below. has-meet (mask_of p) m k ∙ ap (λ b. b && has m k) (has-mask_of p k below) ∙ and-turned (p k) (has m k))

nothing : mask_of (λ k. false) ≡ 0
unfolding mask_of
nothing = refl

pub no-bit : (p : ℕ → Bool) → ((k : ℕ) → k < 8 → p k ≡ false) → 0 ≡ mask_of p
no-bit p h = sym (mask_of-same p (λ k. false) h ∙ nothing)

-- ---- a line without a frame

same-line : (l k : ℕ) → k < 8 → word_at l k / 8 ≡ l
same-line l k h = omega arith

unread-in : (o : Option FrameView) (k : ℕ) → is_some o ≡ false → read_in o k ≡ false
unfolding read_in
unread-in None k e = refl
unread-in (Some f) k e = absurd (cc)

undirty-in : (o : Option FrameView) (k : ℕ) → is_some o ≡ false → is_some (dirty_in o k) ≡ false
unfolding dirty_in
undirty-in None k e = refl
undirty-in (Some f) k e = absurd (cc)

pub unread : (h : Held) (l k : ℕ) → (maps h).held l ≡ false → k < 8 → (maps h).read (word_at l k) ≡ false
unfolding maps
unread h l k none below =
    ap (λ j. read_in (frame_of h.frames j) (word_at l k % 8)) (same-line l k below) ∙ unread-in (frame_of h.frames l) (word_at l k % 8) none

undirty : (h : Held) (l k : ℕ) → (maps h).held l ≡ false → k < 8 → is_some ((maps h).dirty (word_at l k)) ≡ false
unfolding maps
undirty h l k none below =
    ap (λ j. is_some (dirty_in (frame_of h.frames j) (word_at l k % 8))) (same-line l k below)
    ∙ undirty-in (frame_of h.frames l) (word_at l k % 8) none

pub clean : (h : Held) (l : ℕ) → (maps h).held l ≡ false → is_dirty (maps h) l ≡ false
unfolding is_dirty any_word
clean h l none = any_below-none (λ k. is_some ((maps h).dirty (word_at l k))) 8 (λ k below. undirty h l k none below)

and-false : (a b : Bool) → b ≡ false → a && b ≡ false
and-false true b e = e
and-false false b e = refl

pub unread-mask : (h : Held) (l m : ℕ) → (maps h).held l ≡ false → 0 ≡ mask_of (λ k. has m k && (maps h).read (word_at l k))
unread-mask h l m none =
    no-bit (λ k. has m k && (maps h).read (word_at l k))
    (λ k below. and-false (has m k) ((maps h).read (word_at l k)) (unread h l k none below))
