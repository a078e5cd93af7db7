-- What the kept lines say of each word, and after one of them changed.
use Rattle.std.proofs.Common.{ℕ, ◌/◌, ◌%◌, ◌^◌, ◌<◌, ◌≤◌, ◌≡◌, ◌≢◌, Bool, true, false, cond, ◌&&◌, ◌||◌, inl, inr, List, [], ◌∷◌}
use Rattle.std.proofs.Common.{length, get_or, set, unwrap_or, Option, Some, None, is_some, nat_eq, bit_or, refl, sym, ◌∙◌, ap, arith}
use Rattle.std.proofs.Common.{get_or-set_same, get_or-set_other}
use Rattle.std.proofs.lemmas.Bool.{false≢true, cases_eq, cases_Bool, eq-eqb, ne_eqb}
use Rattle.std.proofs.lemmas.Nat.{or_of_8, le_or_r}
use Rattle.tcc_base.specs.Put.{put}
use Rattle.base_lemmas.proofs.Lemmas.{any_below-same, eight-same, get_or-eight, is_some-cond, length-eight, line_of-word_at, mask_of-none}
use Rattle.base_lemmas.proofs.Lemmas.{mask_of-same, nat_eq-comm, place_of-word_at}
use Rattle.rules_maps.specs.Words.{line_of, place_of, word_at, any_below, any_word, eight}
use Rattle.rules_maps.specs.Masks.{has, hit, masked, join}
use Rattle.rules_maps.specs.Spilled.{Spilled, none_spilled, spill, holds, spilled_mask, spilled_words, spilled_line}
use Rattle.rules_maps.proofs.Lemmas.{has-join, has-pow, has-zero, mask_of-has, any_below-at}
use Rattle.overflow_buf.specs.declared.line.SpilledLine.{SpilledLine}
use Rattle.overflow_buf.specs.Kept.{Entries, kept_at, word_in, spilled, IsSpilled, IsLine, IsBuffer, merged}

pub IsBuffer-empty : IsBuffer []
unfolding IsLine kept_at
IsBuffer-empty l = tt

pub spilled-empty : spilled [] ≡ none_spilled
unfolding spilled none_spilled kept_at word_in
spilled-empty = refl

-- one line changed
abbrev pub Keeps : Entries → Entries → ℕ → SpilledLine → Type 0
Keeps old new line s = (l : ℕ) → kept_at new l ≡ cond (nat_eq line l) (Some s) (kept_at old l)

pub IsBuffer-kept : (old new : Entries) (line : ℕ) (s : SpilledLine) → Keeps old new line s → IsSpilled s → IsBuffer old → IsBuffer new
unfolding IsLine
IsBuffer-kept old new line s k i b l =
    rw (k l) (elim (nat_eq line l) as (λ t. IsLine (cond t (Some s) (kept_at old l))) [ true ↦ i | false ↦ b l ])

-- ---- a word of a line

same_word : (v w : ℕ) → nat_eq w v ≡ (nat_eq (line_of v) (line_of w) && nat_eq (place_of v) (place_of w))
same_word v w = elim (cases_eq w v) [
  | inl e ↦ rw (eq-eqb w v e, eq-eqb (line_of v) (line_of w) (ap line_of (sym e)), eq-eqb (place_of v) (place_of w) (ap place_of (sym e)))
      refl
  | inr n ↦ rw (ne_eqb w v n) (elim (cases_eq (v / 8) (w / 8)) [
    | inr m ↦ rw (ne_eqb (v / 8) (w / 8) m) refl
    | inl e ↦ rw (eq-eqb (v / 8) (w / 8) e, ne_eqb (v % 8) (w % 8) (λ q. n (omega arith))) refl
  ])
]

-- ---- the masked words of a line new

merged_word : (a b : Bool) (x y : ℕ) → cond (a || b) (Some (cond b x y)) None ≡ cond b (Some x) (cond a (Some y) None)
merged_word true true x y = refl
merged_word true false x y = refl
merged_word false true x y = refl
merged_word false false x y = refl

pub word_in-with : (s : SpilledLine) (m : ℕ) (ws : List ℕ) (k : ℕ) → k < 8 →
    word_in (Some (record { mask = record { 0 = join s.mask.0 m }; words = merged m ws s.words })) k ≡ cond (has m k) (Some (get_or ws k 0))
    (word_in (Some s) k)
unfolding word_in merged
word_in-with s m ws k h = rw (has-join, get_or-eight _ k 0 h) (merged_word (has s.mask.0 k) (has m k) (get_or ws k 0) (get_or s.words k 0))

pub word_in-new : (m : ℕ) (ws : List ℕ) (k : ℕ) → word_in (Some (record { mask = record { 0 = m }; words = ws })) k ≡ cond (has m k)
    (Some (get_or ws k 0)) (word_in None k)
unfolding word_in
word_in-new m ws k = refl

pub spilled-kept : (old new : Entries) (line : ℕ) (s : SpilledLine) (m : ℕ) (ws : List ℕ) → Keeps old new line s →
    ((k : ℕ) → k < 8 → word_in (Some s) k ≡ cond (has m k) (Some (get_or ws k 0)) (word_in (kept_at old line) k))
    → spilled new ≡ spill line m ws (spilled old)
unfolding spilled spill hit
spilled-kept old new line s m ws k e = λ i w. (at_word w) i
  where
    at_word : (w : ℕ) → word_in (kept_at new (line_of w)) (place_of w) ≡ cond (nat_eq line (line_of w) && has m (place_of w))
        (Some (get_or ws (place_of w) 0)) (word_in (kept_at old (line_of w)) (place_of w))
    at_word w = rw (k (line_of w)) (elim (cases_eq line (line_of w)) [
      | inl q ↦ rw (eq-eqb line (line_of w) q)
          (e (place_of w) (omega arith)
          ∙ ap (λ l. cond (has m (place_of w)) (Some (get_or ws (place_of w) 0)) (word_in (kept_at old l) (place_of w))) q)
      | inr n ↦ rw (ne_eqb line (line_of w) n) refl
    ])

pub spill-none : (line m : ℕ) (ws : List ℕ) (sp : Spilled) → m ≡ 0 → sp ≡ spill line m ws sp
unfolding spill hit
spill-none line m ws sp e = λ i w. (at_word w) i
  where
    at_word : (w : ℕ) → sp w ≡ cond (nat_eq line (line_of w) && has m (place_of w)) (Some (get_or ws (place_of w) 0)) (sp w)
    at_word w =
        rw (e, has-zero) (elim (nat_eq line (line_of w)) as
        (λ b. sp w ≡ cond (b && false) (Some (get_or ws (place_of w) 0)) (sp w)) [ true ↦ refl | false ↦ refl ])

-- ---- one word new

-- eight zeros but for one value
pub one_word : (j v k : ℕ) → j < 8 → get_or (set (0 ∷ 0 ∷ 0 ∷ 0 ∷ 0 ∷ 0 ∷ 0 ∷ 0 ∷ []) j v) k 0 ≡ cond (nat_eq k j) v
    (get_or (0 ∷ 0 ∷ 0 ∷ 0 ∷ 0 ∷ 0 ∷ 0 ∷ 0 ∷ []) k 0)
one_word j v k h = elim (cases_eq k j) [
  | inl q ↦ rw (eq-eqb k j q, q) (get_or-set_same (0 ∷ 0 ∷ 0 ∷ 0 ∷ 0 ∷ 0 ∷ 0 ∷ 0 ∷ []) j v 0 h)
  | inr n ↦ rw (ne_eqb k j n) (get_or-set_other (0 ∷ 0 ∷ 0 ∷ 0 ∷ 0 ∷ 0 ∷ 0 ∷ 0 ∷ []) j k v 0 n)
]

cond_twice : (b : Bool) (v x : ℕ) (o : Option ℕ) → cond b (Some (cond b v x)) o ≡ cond b (Some v) o
cond_twice true v x o = refl
cond_twice false v x o = refl

-- one word of a line is the words under a mask of one
pub word_alone : (o : Option SpilledLine) (s : SpilledLine) (j v m : ℕ) (ws : List ℕ) → j < 8 → m ≡ 2 ^ j
    → ws ≡ set (0 ∷ 0 ∷ 0 ∷ 0 ∷ 0 ∷ 0 ∷ 0 ∷ 0 ∷ []) j v →
    ((k : ℕ) → k < 8 → word_in (Some s) k ≡ cond (has m k) (Some (get_or ws k 0)) (word_in o k)) → (k : ℕ) → k < 8
    → word_in (Some s) k ≡ cond (nat_eq k j) (Some v) (word_in o k)
word_alone o s j v m ws h e f w k b = w k b ∙ (rw (e, f, has-pow, one_word j v k h) (cond_twice (nat_eq k j) v _ (word_in o k)))

pub spilled-put : (old new : Entries) (w : ℕ) (s : SpilledLine) (v : ℕ) → Keeps old new (line_of w) s →
    ((k : ℕ) → k < 8 → word_in (Some s) k ≡ cond (nat_eq k (place_of w)) (Some v) (word_in (kept_at old (line_of w)) k))
    → spilled new ≡ put (spilled old) w (Some v)
unfolding spilled
spilled-put old new w s v k e = λ i x. (at_word x) i
  where
    at_word : (x : ℕ) → word_in (kept_at new (line_of x)) (place_of x) ≡ cond (nat_eq x w) (Some v)
        (word_in (kept_at old (line_of x)) (place_of x))
    at_word x = rw (same_word w x, k (line_of x)) (elim (cases_eq (line_of w) (line_of x)) [
      | inl q ↦ rw (eq-eqb (line_of w) (line_of x) q)
          (e (place_of x) (omega arith)
          ∙ rw nat_eq-comm (ap (λ l. cond (nat_eq (place_of w) (place_of x)) (Some v) (word_in (kept_at old l) (place_of x))) q))
      | inr n ↦ rw (ne_eqb (line_of w) (line_of x) n) refl
    ])

-- ---- what holds of a line after a change

pub IsSpilled-new : (m : ℕ) (ws : List ℕ) → m ≢ 0 → m < 256 → length ws ≡ 8 → IsSpilled (record { mask = record { 0 = m }; words = ws })
IsSpilled-new m ws n f l = record { fits = f; some = n; eight_words = l }

pub IsSpilled-with : (s : SpilledLine) (m : ℕ) (ws : List ℕ) → m ≢ 0 → m < 256 → IsSpilled s
    → IsSpilled (record { mask = record { 0 = join s.mask.0 m }; words = merged m ws s.words })
unfolding merged
IsSpilled-with s m ws n f i = record {
  fits = or_of_8 s.mask.0 m i.fits f;
  some = λ e. n (let b : m ≤ bit_or s.mask.0 m = le_or_r s.mask.0 m in omega arith);
  eight_words = length-eight _;
}

pub is_spilled : (o : Option SpilledLine) (s : SpilledLine) → o ≡ Some s → IsLine o → IsSpilled s
unfolding IsLine
is_spilled o s e i = rw e at i

-- ---- what is kept of a line, and its words

pub word_kept : (es : Entries) (w : ℕ) (o : Option SpilledLine) → o ≡ kept_at es (line_of w) → word_in o (place_of w) ≡ spilled es w
unfolding spilled
word_kept es w o e = ap (λ (x : Option SpilledLine). word_in x (place_of w)) e

-- ---- a mask has a place where it isn't zero

any-has : (m : ℕ) → m < 256 → m ≢ 0 → any_below (has m) 8 ≡ true
any-has m h n = elim (cases_Bool (any_below (has m) 8)) [
  | inl t ↦ t
  | inr f ↦ absurd (n (sym (mask_of-has m h) ∙ mask_of-none (has m) (λ k b. elim (cases_Bool (has m k)) [
    | inl t ↦ absurd (false≢true (sym f ∙ any_below-at (has m) 8 k b t))
    | inr g ↦ g
  ])))
]

-- a word of the line, by its place
word-at : (es : Entries) (l k : ℕ) → k < 8 → spilled es (word_at l k) ≡ word_in (kept_at es l) k
unfolding spilled
word-at es l k h = rw (line_of-word_at l k h, place_of-word_at l k h) refl

pub holds-line : (es : Entries) (l : ℕ) (o : Option SpilledLine) → o ≡ kept_at es l → IsLine o → is_some o ≡ holds (spilled es) l
unfolding holds any_word word_in IsLine
holds-line es l None e i =
    sym (any_below-same (λ k. is_some (spilled es (word_at l k))) (λ _. false) 8 (λ k h. rw (word-at es l k h, ← e) refl)
    ∙ (unfold any_below in refl))
holds-line es l (Some s) e i =
    sym (any_below-same (λ k. is_some (spilled es (word_at l k))) (has s.mask.0) 8
    (λ k h. rw (word-at es l k h, ← e) (is_some-cond (has s.mask.0 k) (get_or s.words k 0))) ∙ any-has s.mask.0 i.fits i.some)

-- ---- the kept words of one line, handed out

unwrap-cond : (b : Bool) (x : ℕ) → unwrap_or (cond b (Some x) None) 0 ≡ cond b x 0
unwrap-cond true x = refl
unwrap-cond false x = refl

module _ (es : Entries) (l : ℕ) (s : SpilledLine) (e : Some s ≡ kept_at es l) (i : IsSpilled s) where
  mask-is : spilled_mask (spilled es) l ≡ s.mask.0
  unfolding spilled_mask word_in
  mask-is = mask_of-same _ (has s.mask.0) (λ k h. rw (word-at es l k h, ← e) (is_some-cond (has s.mask.0 k) (get_or s.words k 0)))
      ∙ mask_of-has s.mask.0 i.fits

  words-line : spilled_words (spilled es) l ≡ masked s.mask.0 s.words
  unfolding spilled_words masked word_in
  words-line = eight-same _ _ (λ k h. rw (word-at es l k h, ← e) (unwrap-cond (has s.mask.0 k) (get_or s.words k 0)))

  pub line-drained : (t : ℕ) → record { line = l; mask = s.mask.0; words = masked s.mask.0 s.words; tag = t } ≡ spilled_line t
      (spilled es) l
  unfolding spilled_line
  line-drained t = rw (mask-is, words-line) refl

  pub mask-line : s.mask.0 ≡ spilled_mask (spilled es) l
  mask-line = sym mask-is

-- a line of which nothing is kept
module _ (es : Entries) (l : ℕ) where
  pub mask-none : None ≡ kept_at es l → 0 ≡ spilled_mask (spilled es) l
  unfolding spilled_mask word_in
  mask-none e = sym (mask_of-none _ (λ k h. rw (word-at es l k h, ← e) refl))

  words-none : None ≡ kept_at es l → spilled_words (spilled es) l ≡ 0 ∷ 0 ∷ 0 ∷ 0 ∷ 0 ∷ 0 ∷ 0 ∷ 0 ∷ []
  unfolding spilled_words word_in eight
  words-none e = eight-same (λ k. unwrap_or (spilled es (word_at l k)) 0) (λ _. 0) (λ k h. rw (word-at es l k h, ← e) refl)

  pub line-none : (t : ℕ) → None ≡ kept_at es l → record { line = l; mask = 0; words = 0 ∷ 0 ∷ 0 ∷ 0 ∷ 0 ∷ 0 ∷ 0 ∷ 0 ∷ []; tag = t }
      ≡ spilled_line t (spilled es) l
  unfolding spilled_line
  line-none t e = rw (← mask-none e, words-none e) refl
