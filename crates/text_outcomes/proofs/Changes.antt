-- The lines of the words that differ from the start: those of all changes, in their order.
use Rattle.std.proofs.Common.{◌≡◌, ◌<◌, ◌≤◌, ◌+◌, ◌*◌, ◌/◌, ◌==◌, ℕ, zero, suc, Bool, true, false, List, [], ◌∷◌, ◌++◌, All}
use Rattle.std.proofs.Common.{Option, Some, None, if◌then◌else◌, refl, sym, ◌∙◌, ap, subst, arith}
use Rattle.std.proofs.lemmas.Bool.{eq-eqb, eqb-true, ne_eqb}
use Rattle.std.proofs.lemmas.Bool.Decides.{nat_tests}
use Rattle.std.proofs.lemmas.Grind.{common_steps}
use Rattle.std.proofs.lemmas.List.Elements.{All-head, All-tail}
use Rattle.std.specs.List.{flat_map, range_with_len}
use Rattle.image_load.specs.Contents.{Contents, started}
use Rattle.report_text.specs.Lines.{mem_line}
use Rattle.report_text.specs.Text.{ram_text, word_text}
use Rattle.run_outcomes.specs.Changes.{AreInside, AreNormal, AreNormalFrom, changed_ram, value_in}
use Rattle.image_load.specs.Start.{first_ram}
use Rattle.rv_plain.specs.Buffered.{or_else, seen}
use Rattle.text_outcomes.specs.Changes.{AreWords, change_line}

-- ---- words below all changes have none

below-none : (ram : ℕ → ℕ) (changes : List (ℕ × ℕ)) (from w : ℕ) → AreNormalFrom ram from changes → w < from → value_in changes w ≡ None
unfolding value_in AreNormalFrom
below-none ram [] from w rise lt = refl
below-none ram (c ∷ cs) from w rise lt =
    let le = rise.0 in
    rw (ne_eqb w c.0 (λ e. omega (arith, e, lt, le))) (below-none ram cs (c.0 + 1) w rise.2 (omega (arith, lt, le)))

here-some : (c : ℕ × ℕ) (cs : List (ℕ × ℕ)) (w : ℕ) → c.0 ≡ w → value_in (c ∷ cs) w ≡ Some c.1
unfolding value_in
here-some c cs w e = rw (eq-eqb w c.0 (sym e)) refl

later-same : (c : ℕ × ℕ) (cs : List (ℕ × ℕ)) (w : ℕ) → c.0 < w → value_in (c ∷ cs) w ≡ value_in cs w
unfolding value_in
later-same c cs w lt = rw (ne_eqb w c.0 (λ e. omega (arith, e, lt))) refl

-- ---- what is written of a range of words

-- the line of a word with its value, where it was loaded with another
change_text : (base : ℕ) → (loaded : ℕ → ℕ) → ℕ × ℕ → List ℕ
change_text base loaded change = if change.1 == loaded change.0 then [] else change_line base change

-- the line of a word with the value that it may have
abbrev text_at : (base : ℕ) → (loaded : ℕ → ℕ) → Option ℕ → (w : ℕ) → List ℕ
text_at base loaded None w = []
text_at base loaded (Some value) w = change_text base loaded (w, value)

flat_map-same : {A : Type 0} (f g : ℕ → List A) (a n : ℕ) → ((k : ℕ) → a ≤ k → k < a + n → f k ≡ g k)
    → flat_map f (range_with_len a n) ≡ flat_map g (range_with_len a n)
flat_map-same f g a zero same = refl
flat_map-same f g a (suc n) same =
    let here = same a (omega arith) (omega arith) in
    let there = flat_map-same f g (a + 1) n (λ k from to. same k (omega (arith, from)) (omega (arith, to))) in
    grind (arith, common_steps, here, there)

one-more : {A : Type 0} (f : ℕ → List A) (a n : ℕ) (here rest : List A) → f a ≡ here → flat_map f (range_with_len (a + 1) n) ≡ rest
    → flat_map f (range_with_len a (suc n)) ≡ here ++ rest
one-more f a n here rest is are = grind (arith, common_steps, is, are)

-- the lines of a range of words from the first change on: that of the change, and those of the later words
at-change : (base : ℕ) (loaded : ℕ → ℕ) (c : ℕ × ℕ) (cs : List (ℕ × ℕ)) (a n : ℕ) → c.0 ≡ a
    → flat_map (λ w. text_at base loaded (value_in cs w) w) (range_with_len (a + 1) n) ≡ flat_map (change_text base loaded) cs
    → flat_map (λ w. text_at base loaded (value_in (c ∷ cs) w) w) (range_with_len a (suc n))
    ≡ flat_map (change_text base loaded) (c ∷ cs)
at-change base loaded c cs a n e rest =
    one-more (λ w. text_at base loaded (value_in (c ∷ cs) w) w) a n (change_text base loaded c) (flat_map (change_text base loaded) cs)
    (ap (λ o. text_at base loaded o a) (here-some c cs a e) ∙ ap (λ w. change_text base loaded (w, c.1)) (sym e))
    (flat_map-same (λ w. text_at base loaded (value_in (c ∷ cs) w) w) (λ w. text_at base loaded (value_in cs w) w) (a + 1) n
    (λ w from to. ap (λ o. text_at base loaded o w) (later-same c cs w (omega (arith, e, from))))
    ∙ rest)

-- those of a range that begins before the first change
before-change : (ram : ℕ → ℕ) (base : ℕ) (loaded : ℕ → ℕ) (c : ℕ × ℕ) (cs : List (ℕ × ℕ)) (a n : ℕ) → AreNormalFrom ram (a + 1) (c ∷ cs)
    → flat_map (λ w. text_at base loaded (value_in (c ∷ cs) w) w) (range_with_len (a + 1) n)
    ≡ flat_map (change_text base loaded) (c ∷ cs)
    → flat_map (λ w. text_at base loaded (value_in (c ∷ cs) w) w) (range_with_len a (suc n))
    ≡ flat_map (change_text base loaded) (c ∷ cs)
before-change ram base loaded c cs a n rise rest =
    one-more (λ w. text_at base loaded (value_in (c ∷ cs) w) w) a n [] (flat_map (change_text base loaded) (c ∷ cs))
    (ap (λ o. text_at base loaded o a) (below-none ram (c ∷ cs) (a + 1) a rise (omega arith)))
    rest

no-lines : (base : ℕ) (loaded : ℕ → ℕ) (a n : ℕ) → flat_map (λ w. text_at base loaded (value_in [] w) w) (range_with_len a n) ≡ []
unfolding value_in
no-lines base loaded a zero = refl
no-lines base loaded a (suc n) = no-lines base loaded (a + 1) n

changes-lines : (ram : ℕ → ℕ) (base : ℕ) (loaded : ℕ → ℕ) (changes : List (ℕ × ℕ)) (a n : ℕ) → AreNormalFrom ram a changes
    → All (λ change. change.0 < a + n) changes
    → flat_map (λ w. text_at base loaded (value_in changes w) w) (range_with_len a n) ≡ flat_map (change_text base loaded) changes
unfolding AreNormalFrom
changes-lines ram base loaded [] a n rise inside = no-lines base loaded a n
changes-lines ram base loaded (c ∷ cs) a zero rise inside =
    let le = rise.0 in
    let lt = All-head (λ change. change.0 < a + 0) c cs inside in
    absurd (omega (arith, le, lt))
changes-lines ram base loaded (c ∷ cs) a (suc n) rise inside =
    let m : a + suc n ≡ a + 1 + n = omega arith in
    let within = subst (λ k. All (λ change. change.0 < k) (c ∷ cs)) m inside in
    by-place (c.0 == a) refl
    (λ rises. changes-lines ram base loaded cs (a + 1) n rises (All-tail (λ change. change.0 < a + 1 + n) c cs within))
    (λ rises. changes-lines ram base loaded (c ∷ cs) (a + 1) n rises within)
  where
    by-place : (b : Bool) → (c.0 == a) ≡ b
        → (AreNormalFrom ram (a + 1) cs
        → flat_map (λ w. text_at base loaded (value_in cs w) w) (range_with_len (a + 1) n) ≡ flat_map (change_text base loaded) cs)
        → (AreNormalFrom ram (a + 1) (c ∷ cs)
        → flat_map (λ w. text_at base loaded (value_in (c ∷ cs) w) w) (range_with_len (a + 1) n)
        ≡ flat_map (change_text base loaded) (c ∷ cs))
        → flat_map (λ w. text_at base loaded (value_in (c ∷ cs) w) w) (range_with_len a (suc n))
        ≡ flat_map (change_text base loaded) (c ∷ cs)
    by-place true e rest all =
        let here = eqb-true c.0 a e in
        at-change base loaded c cs a n here (rest (subst (λ k. AreNormalFrom ram (k + 1) cs) here rise.2))
    by-place false e rest all =
        let le = rise.0 in
        let rises : AreNormalFrom ram (a + 1) (c ∷ cs) = (grind (arith, nat_tests, e, le), rise.1, rise.2) in
        before-change ram base loaded c cs a n rises (all rises)

-- ---- RAM as a report tells it

untouched : (l : Contents) (w : ℕ) → AreWords l → w < l.settings.ram / 4 → first_ram (started l) w ≡ (started l).word w
unfolding first_ram started
untouched l w words inside =
    let small = words w inside in
    grind (arith, nat_tests, small, inside)

word-line : (l : Contents) (w : ℕ) (value : Option ℕ) → AreWords l → w < l.settings.ram / 4
    → (if or_else value (first_ram (started l) w) == (started l).word w then []
    else mem_line (l.settings.base + 4 * w) (or_else value (first_ram (started l) w)))
    ≡ text_at l.settings.base (started l).word value w
unfolding change_text
word-line l w None words inside =
    rw (eq-eqb (first_ram (started l) w) ((started l).word w) (untouched l w words inside)) refl
word-line l w (Some v) words inside = refl

-- each change is told, since none is as in RAM as it was loaded
changes-told : (l : Contents) (changes : List (ℕ × ℕ)) (from : ℕ) → AreWords l → AreInside (l.settings.ram / 4) changes
    → AreNormalFrom (first_ram (started l)) from changes
    → flat_map (change_text l.settings.base (started l).word) changes ≡ flat_map (change_line l.settings.base) changes
unfolding AreNormalFrom change_text
changes-told l [] from words inside normal = refl
changes-told l (c ∷ cs) from words inside normal =
    let here = All-head (λ change. change.0 < l.settings.ram / 4) c cs inside in
    let other = ne_eqb c.1 ((started l).word c.0) (λ e. normal.1 (e ∙ sym (untouched l c.0 words here))) in
    let rest = changes-told l cs (c.0 + 1) words (All-tail (λ change. change.0 < l.settings.ram / 4) c cs inside) normal.2 in
    rw other (ap (λ xs. change_line l.settings.base c ++ xs) rest)

pub memory-lines : (l : Contents) (changes : List (ℕ × ℕ)) → AreWords l → AreInside (l.settings.ram / 4) changes
    → AreNormal (first_ram (started l)) changes
    → ram_text l.settings.base (l.settings.ram / 4) (changed_ram l changes) (started l).word
    ≡ flat_map (change_line l.settings.base) changes
unfolding ram_text word_text changed_ram seen
memory-lines l changes words inside normal =
    let within : l.settings.ram / 4 ≡ 0 + l.settings.ram / 4 = omega arith in
    flat_map-same (word_text l.settings.base (changed_ram l changes) (started l).word)
    (λ w. text_at l.settings.base (started l).word (value_in changes w) w) 0 (l.settings.ram / 4)
    (λ w from to. word-line l w (value_in changes w) words (omega (arith, to)))
    ∙ changes-lines (first_ram (started l)) l.settings.base (started l).word changes 0 (l.settings.ram / 4) normal
    (subst (λ m. All (λ change. change.0 < m) changes) within inside)
    ∙ changes-told l changes 0 words inside normal
