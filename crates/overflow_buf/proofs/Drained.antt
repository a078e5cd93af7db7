-- What a change of the index map's entries says of the kept lines.
use Rattle.std.proofs.Common.{ℕ, ◌<◌, ◌≡◌, true, false, cond, [], ◌∷◌, ◌++◌, length, Some, None, is_some, nat_eq, refl, sym, ◌∙◌, ap}
use Rattle.std.proofs.Common.{arith, Bool, length, inl, inr, Contains, subst}
use Rattle.std.specs.Map.{keys_of, lookup}
use Rattle.std.proofs.lemmas.Bool.{false≢true, cases_eq, eq-eqb, ne_eqb}
use Rattle.base_lemmas.proofs.Lemmas.{head_or_tail, in_tail}
use Rattle.rules_maps.specs.Words.{line_of, place_of, any_word, any_below}
use Rattle.rules_maps.specs.Spilled.{none_spilled, holds}
use Rattle.overflow_buf.specs.declared.line.SpilledLine.{SpilledLine}
use Rattle.overflow_buf.specs.Kept.{Entries, kept_at, word_in, spilled, without_line, IsBuffer, IsLine}
use Rattle.overflow_buf.proofs.Lines.{Keeps, holds-line, spilled-empty}

-- what the map's own look-up gives is what is kept
pub looked_up : (es : Entries) (l : ℕ) → lookup (nat_eq l) es ≡ kept_at es l
unfolding kept_at
looked_up es l = refl

pub keeps-updated : (old new : Entries) (line : ℕ) (s : SpilledLine)
    → ((q : ℕ) → lookup (nat_eq q) new ≡ cond (nat_eq line q) (Some s) (lookup (nat_eq q) old)) → Keeps old new line s
unfolding kept_at
keeps-updated old new line s u = u

-- one line taken away
abbrev pub Loses : Entries → Entries → ℕ → Type 0
Loses old new line = (l : ℕ) → kept_at new l ≡ cond (nat_eq line l) None (kept_at old l)

pub loses-updated : (old new : Entries) (line : ℕ)
    → ((q : ℕ) → lookup (nat_eq q) new ≡ cond (nat_eq line q) None (lookup (nat_eq q) old)) → Loses old new line
unfolding kept_at
loses-updated old new line u = u

pub IsBuffer-lost : (old new : Entries) (line : ℕ) → Loses old new line → IsBuffer old → IsBuffer new
unfolding IsLine
IsBuffer-lost old new line k b l =
    rw (k l) (elim (nat_eq line l) as (λ t. IsLine (cond t None (kept_at old l))) [ true ↦ tt | false ↦ b l ])

pub spilled-lost : (old new : Entries) (line : ℕ) → Loses old new line → spilled new ≡ without_line line (spilled old)
unfolding spilled without_line word_in
spilled-lost old new line k = λ i w. (at_word w) i
  where
    at_word : (w : ℕ) → word_in (kept_at new (line_of w)) (place_of w)
        ≡ cond (nat_eq line (line_of w)) None (word_in (kept_at old (line_of w)) (place_of w))
    at_word w = rw (k (line_of w)) (elim (nat_eq line (line_of w))
        as (λ t. word_in (cond t None (kept_at old (line_of w))) (place_of w) ≡ cond t None
        (word_in (kept_at old (line_of w)) (place_of w)))
        [ true ↦ refl | false ↦ refl ])

-- ---- the last entry

-- what is kept of the last entry's line, where no entry before it is of that line
kept-last : (es : Entries) (line : ℕ) (s : SpilledLine) → kept_at es line ≡ None → kept_at (es ++ (line, s) ∷ []) line ≡ Some s
unfolding kept_at
kept-last [] line s n = rw (eq-eqb line line refl) refl
kept-last (e ∷ es) line s n = by (nat_eq line e.0) refl (kept-last es line s)
  where
    by : (b : Bool) → nat_eq line e.0 ≡ b → (kept_at es line ≡ None → kept_at (es ++ (line, s) ∷ []) line ≡ Some s)
        → kept_at ((e ∷ es) ++ (line, s) ∷ []) line ≡ Some s
    by true q rest = absurd (false≢true (ap is_some (sym n) ∙ (rw q refl)))
    by false q rest = rw q (rest (rw q at n))

-- an entry that is taken off the end was what was kept of its line
pub kept-popped : (old new : Entries) (line : ℕ) (s : SpilledLine) → old ≡ new ++ (line, s) ∷ [] → Loses old new line
    → Some s ≡ kept_at old line
kept-popped old new line s e k =
    let gone : kept_at new line ≡ None = k line ∙ rw (eq-eqb line line refl) refl in
    sym (ap (λ es. kept_at es line) e ∙ kept-last new line s gone)

-- ---- no entry

pub none_left : (es : Entries) → (0 < length es → ⊥) → es ≡ []
none_left [] h = refl
none_left (e ∷ es) h = absurd (h (omega arith))

-- where no word is kept there is no entry
pub no_entry : (es : Entries) → IsBuffer es → spilled es ≡ none_spilled → length es ≡ 0
no_entry [] b n = refl
no_entry (e ∷ es) b n =
    let kept : is_some (kept_at (e ∷ es) e.0) ≡ true = unfold kept_at in (rw (eq-eqb e.0 e.0 refl) refl) in
    let none : holds none_spilled e.0 ≡ false = unfold holds any_word any_below none_spilled in refl in
    absurd (false≢true (sym none ∙ ap (λ sp. holds sp e.0) (sym n) ∙ sym (holds-line (e ∷ es) e.0 (kept_at (e ∷ es) e.0) refl (b e.0))
    ∙ kept))

pub no_word : (es : Entries) → length es ≡ 0 → spilled es ≡ none_spilled
no_word [] e = spilled-empty
no_word (x ∷ es) e = absurd (omega arith)

-- ---- the keys of the kept lines

pub key_kept : (es : Entries) (l : ℕ) → Contains (keys_of es) l → is_some (kept_at es l) ≡ true
unfolding kept_at
key_kept [] l c = absurd (let h : c.0 < 0 = c.1 in omega arith)
key_kept (e ∷ es) l c = elim (cases_eq l e.0) [
  | inl q ↦ rw (eq-eqb l e.0 q) refl
  | inr n ↦ rw (ne_eqb l e.0 n)
      (key_kept es l (elim (head_or_tail e.0 l (keys_of es) c) [ inl q ↦ absurd (n (sym q)) | inr d ↦ d ]))
]

pub kept_key : (es : Entries) (l : ℕ) → is_some (kept_at es l) ≡ true → Contains (keys_of es) l
unfolding kept_at
kept_key [] l k = absurd (false≢true k)
kept_key (e ∷ es) l k = elim (cases_eq l e.0) [
  | inl q ↦ subst (λ (x : ℕ). Contains (keys_of (e ∷ es)) x) (sym q) (0, omega arith, refl)
  | inr n ↦ in_tail e.0 l (keys_of es) (kept_key es l (rw (ne_eqb l e.0 n) at k))
]

-- a line is kept exactly where a word of it is
pub kept_holds : (es : Entries) → IsBuffer es → (l : ℕ) → is_some (kept_at es l) ≡ holds (spilled es) l
kept_holds es s l = holds-line es l (kept_at es l) refl (s l)
