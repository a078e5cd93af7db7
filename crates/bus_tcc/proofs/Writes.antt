-- The lines that an attempt has written, as its words.
use Rattle.std.proofs.Common.{◌≡◌, ℕ, zero, suc, ◌<◌, Bool, true, false, ◌||◌, List, [], ◌∷◌, ◌++◌, map, get_or, Option, Some, None}
use Rattle.std.proofs.Common.{is_some}
use Rattle.std.proofs.Common.{inl, inr, refl, ap, sym, ◌∙◌, subst, arith}
use Rattle.std.specs.Prelude.{◌==◌, cond, nat_lt, unwrap_or, if◌then◌else◌}
use Rattle.std.proofs.lemmas.List.{map-append}
use Rattle.std.proofs.lemmas.Bool.{cases_eq}
use Rattle.std.proofs.lemmas.Bool.Decides.{nat_tests}
use Rattle.tcc_base.specs.declared.access.Tagged.{Tagged}
use Rattle.base_lemmas.proofs.Lemmas.{eight-at, or-left, or-right, word_at-own}
use Rattle.rules_maps.proofs.Lemmas.{has-mask_of}
use Rattle.rules_maps.specs.Cache.{is_modified}
use Rattle.rules_maps.specs.Masks.{hit}
use Rattle.rules_maps.specs.Shape.{Shape, lines}
use Rattle.rules_maps.specs.Spilled.{holds}
use Rattle.rules_maps.specs.Words.{any_word, line_of, or_else, place_of, those, word_at}
use Rattle.rules_tcc.specs.Commit.{is_written, written_mask}
use Rattle.rules_tcc.specs.State.{CoreState}
use Rattle.commit_engine.specs.Solo.{solo_list}
use Rattle.rules_bus.specs.Commit.{written_words}
use Rattle.core_node.specs.AtHand.{line_told, lines_told, word_told, words_in}
use Rattle.theorem_serial.proofs.Lemmas.{line-has}

both-words : (xs ys : List Tagged) (w : ℕ) → words_in (xs ++ ys) w ≡ or_else (words_in xs w) (words_in ys w)
unfolding words_in
both-words [] ys w = refl
both-words (t ∷ xs) ys w = by (hit t.line.0 t.mask.0 w) (both-words xs ys w)
  where
    by : (b : Bool) → words_in (xs ++ ys) w ≡ or_else (words_in xs w) (words_in ys w)
        → (if b then Some (get_or t.words (place_of w) 0) else words_in (xs ++ ys) w)
        ≡ or_else (if b then Some (get_or t.words (place_of w) 0) else words_in xs w) (words_in ys w)
    by true e = refl
    by false e = e

-- the attempt wrote the word
abbrev wrote_it : CoreState → (word : ℕ) → Bool
wrote_it s w = s.cache.modified w || is_some (s.spilled w)

abbrev told_word : CoreState → (word : ℕ) → Option ℕ
told_word s w = if wrote_it s w then Some (word_told s w) else None

hit-own : (s : CoreState) (w : ℕ) → hit (line_of w) (written_mask s.cache s.spilled (line_of w)) w ≡ wrote_it s w
unfolding hit written_mask
hit-own s w =
    let own : (line_of w == line_of w) ≡ true = grind (arith, nat_tests) in
    rw own (has-mask_of (λ k. s.cache.modified (word_at (line_of w) k) || is_some (s.spilled (word_at (line_of w) k))) (place_of w)
    (omega arith)
    ∙ ap (wrote_it s) (word_at-own w))

hit-other : (l m w : ℕ) → (l ≡ line_of w → ⊥) → hit l m w ≡ false
unfolding hit
hit-other l m w n = let other : (l == line_of w) ≡ false = grind (arith, nat_tests) in rw other refl

-- so its line is one that it wrote
wrote-line : (s : CoreState) (w : ℕ) → wrote_it s w ≡ true → is_written s.cache s.spilled (line_of w) ≡ true
unfolding is_written is_modified holds
wrote-line s w e = by (s.cache.modified w) refl e
  where
    by : (b : Bool) → s.cache.modified w ≡ b → (b || is_some (s.spilled w)) ≡ true
        → (any_word s.cache.modified (line_of w) || any_word (λ v. is_some (s.spilled v)) (line_of w)) ≡ true
    by true q h = or-left _ _ (line-has s.cache.modified w q)
    by false q h = or-right _ _ (line-has (λ v. is_some (s.spilled v)) w h)

abbrev pub the_line : CoreState → (tid line : ℕ) → Tagged
the_line s t l = line_told s t (l, written_mask s.cache s.spilled l)

-- its own line
one-own : (s : CoreState) (t w : ℕ) (b : Bool) → is_written s.cache s.spilled (line_of w) ≡ b
    → words_in (map (the_line s t) (cond b (line_of w ∷ []) [])) w ≡ told_word s w
unfolding words_in line_told
one-own s t w true e =
    rw (hit-own s w) (ap (λ (x : ℕ). if wrote_it s w then Some x else None)
    (eight-at (λ k. word_told s (word_at (line_of w) k)) (place_of w) (omega arith) ∙ ap (word_told s) (word_at-own w)))
one-own s t w false e = by (wrote_it s w) refl
  where
    by : (c : Bool) → wrote_it s w ≡ c → None ≡ (if c then Some (word_told s w) else None)
    by true q = let is = sym (wrote-line s w q) ∙ e in absurd (cc)
    by false q = refl

-- another line
one-other : (s : CoreState) (t l w : ℕ) (b : Bool) → (l ≡ line_of w → ⊥) → words_in (map (the_line s t) (cond b (l ∷ []) [])) w ≡ None
unfolding words_in line_told
one-other s t l w true n = rw (hit-other l _ w n) refl
one-other s t l w false n = refl

or-none : (o : Option ℕ) → or_else o None ≡ o
or-none None = refl
or-none (Some x) = refl

no-lines : (w : ℕ) → words_in [] w ≡ None
unfolding words_in
no-lines w = refl

-- those below a number
below-lines : (s : CoreState) (t w n : ℕ)
    → words_in (map (the_line s t) (those (is_written s.cache s.spilled) n)) w ≡ (if nat_lt (line_of w) n then told_word s w else None)
unfolding those
below-lines s t w zero = let no : nat_lt (line_of w) 0 ≡ false = grind (arith, nat_tests) in rw no (no-lines w)
below-lines s t w (suc n) =
    ap (λ ts. words_in ts w) (map-append (the_line s t) (those (is_written s.cache s.spilled) n) (cond (is_written s.cache s.spilled n)
    (n ∷ []) []))
    ∙ both-words (map (the_line s t) (those (is_written s.cache s.spilled) n)) _ w
    ∙ ap (λ o. or_else o (words_in (map (the_line s t) (cond (is_written s.cache s.spilled n) (n ∷ []) [])) w)) (below-lines s t w n)
    ∙ last
  where
    last : or_else (if nat_lt (line_of w) n then told_word s w else None)
        (words_in (map (the_line s t) (cond (is_written s.cache s.spilled n) (n ∷ []) [])) w)
        ≡ (if nat_lt (line_of w) (suc n) then told_word s w else None)
    last = elim (cases_eq n (line_of w)) [
      | inl q ↦ (let no : nat_lt (line_of w) n ≡ false = grind (arith, nat_tests) in
          let yes : nat_lt (line_of w) (suc n) ≡ true = grind (arith, nat_tests) in
          let own = subst (λ l. words_in (map (the_line s t) (cond (is_written s.cache s.spilled l) (l ∷ []) [])) w ≡ told_word s w) (sym q)
          (one-own s t w (is_written s.cache s.spilled (line_of w)) refl) in
          rw (no, yes) own)
      | inr d ↦ (let same : nat_lt (line_of w) (suc n) ≡ nat_lt (line_of w) n = grind (arith, nat_tests) in
          rw same (ap (or_else (if nat_lt (line_of w) n then told_word s w else None)) (one-other s t n w (is_written s.cache s.spilled
          n) d)
          ∙ or-none _))
    ]

map-twice : (f : ℕ × ℕ → Tagged) (g : ℕ → ℕ × ℕ) (xs : List ℕ) → map f (map g xs) ≡ map (λ l. f (g l)) xs
map-twice f g [] = refl
map-twice f g (x ∷ xs) = ap (λ ts. f (g x) ∷ ts) (map-twice f g xs)

-- one line for each that was written
pub told-each : (sh : Shape) (s : CoreState) (t : ℕ)
    → lines_told sh t s ≡ map (the_line s t) (those (is_written s.cache s.spilled) (lines sh))
unfolding lines_told solo_list
told-each sh s t =
    map-twice (line_told s t) (λ l. (l, written_mask s.cache s.spilled l)) (those (is_written s.cache s.spilled) (lines sh))

told-words : (sh : Shape) (s : CoreState) (t w : ℕ)
    → words_in (lines_told sh t s) w ≡ (if nat_lt (line_of w) (lines sh) then told_word s w else None)
told-words sh s t w = ap (λ ts. words_in ts w) (told-each sh s t) ∙ below-lines s t w (lines sh)

told-written : (o : Option ℕ) (b : Bool) (v : Option ℕ) → (b ≡ true → is_some v ≡ true)
    → (if b || is_some o then Some (unwrap_or (or_else o v) 0) else None) ≡ or_else o (if b then v else None)
told-written (Some x) true v h = refl
told-written (Some x) false v h = refl
told-written None true (Some y) h = refl
told-written None true None h = let q = h refl in cc
told-written None false v h = refl

-- they are what it wrote
pub lines-written : (sh : Shape) (s : CoreState) (t : ℕ) → ((w : ℕ) → s.cache.modified w ≡ true → is_some (s.cache.value w) ≡ true)
    → ((w : ℕ) → is_some (written_words s w) ≡ true → line_of w < lines sh) → words_in (lines_told sh t s) ≡ written_words s
unfolding written_words
lines-written sh s t valid mem = λ i w. (told-words sh s t w ∙ each w) i
  where
    each : (w : ℕ) → (if nat_lt (line_of w) (lines sh) then told_word s w else None)
        ≡ or_else (s.spilled w) (if s.cache.modified w then s.cache.value w else None)
    each w = by (nat_lt (line_of w) (lines sh)) refl
      where
        none : (o : Option ℕ) → (is_some o ≡ true → line_of w < lines sh) → nat_lt (line_of w) (lines sh) ≡ false → None ≡ o
        none None h e = refl
        none (Some x) h e = let l = h refl in absurd (grind (arith, nat_tests))

        by : (b : Bool) → nat_lt (line_of w) (lines sh) ≡ b → (if b then told_word s w else None)
            ≡ or_else (s.spilled w) (if s.cache.modified w then s.cache.value w else None)
        by true e = told-written (s.spilled w) (s.cache.modified w) (s.cache.value w) (valid w)
        by false e = none _ (mem w) e
