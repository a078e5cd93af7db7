-- What changed of a directory is what changed of the lines that aren't as they were.
use Rattle.std.proofs.Common.{◌≡◌, ℕ, suc, ◌==◌, Bool, true, false, List, [], ◌∷◌, ◌++◌, if◌then◌else◌}
use Rattle.std.proofs.Common.{refl, ap, sym, ◌∙◌, arith}
use Rattle.std.specs.List.{flat_map}
use Rattle.rules_maps.specs.Lines.{Lines}
use Rattle.rules_maps.specs.Shape.{Shape, home, lines}
use Rattle.rules_maps.specs.Words.{those, word_at}
use Rattle.rules_tcc.specs.Seen.{numbers}
use Rattle.rules_tcc.specs.State.{DirState}
use Rattle.watch_state.specs.Cores.{addr_of}
use Rattle.watch_state.specs.Directories.{at_home, directory_part, directory_records, is_known, known_of, line_record, serving_records}
use Rattle.watch_state.specs.Directories.{word_record, word_records}
use Rattle.watch_state.specs.Records.{Known, Record, HomeWord, LineIs}
use Rattle.watch_changes.specs.Changes.{changes, meeting}
use Rattle.watch_changes.specs.Same.{known_numbers, same}
use Rattle.watch_changes.proofs.Lowering.{alike-self}
use Rattle.watch_changes.proofs.OrderedDirectories.{at_line, at_word, behind-lies, home-lies, home-words-lie, line-lies, lines-lie, of_kind}
use Rattle.watch_changes.proofs.OrderedDirectories.{serving-lies}
use Rattle.watch_changes.proofs.Rising.{second-up-to}
use Rattle.watch_changes.proofs.Splitting.{changes-append, changes-those}

-- ---- records that are compared with themselves

abbrev pub AreTelling : List Record → Type 0
AreTelling [] = Unit {0}
AreTelling (r ∷ rs) = (same r r ≡ true) × AreTelling rs

none-changed : (rs : List Record) → AreTelling rs → changes rs rs ≡ []
unfolding changes meeting
none-changed [] t = refl
none-changed (r ∷ rs) t = rw t.0 (none-changed rs t.1)

pub none-of-same : (rs ss : List Record) → AreTelling rs → rs ≡ ss → changes rs ss ≡ []
none-of-same rs ss t e = ap (λ xs. changes rs xs) (sym e) ∙ none-changed rs t

telling-if : (b : Bool) (rs : List Record) → AreTelling rs → AreTelling (if b then rs else [])
telling-if true rs t = t
telling-if false rs t = record {}

telling-unless : (b : Bool) (rs : List Record) → AreTelling rs → AreTelling (if b then [] else rs)
telling-unless true rs t = record {}
telling-unless false rs t = t

telling-append : (rs ss : List Record) → AreTelling rs → AreTelling ss → AreTelling (rs ++ ss)
telling-append [] ss t u = u
telling-append (r ∷ rs) ss t u = (t.0, telling-append rs ss t.1 u)

pub telling-flat : (f : ℕ → List Record) → ((k : ℕ) → AreTelling (f k)) → (ks : List ℕ) → AreTelling (flat_map f ks)
telling-flat f h [] = record {}
telling-flat f h (k ∷ ks) = telling-append (f k) (flat_map f ks) (h k) (telling-flat f h ks)

line-same : (l : ℕ) (k : Known) → same (LineIs l k) (LineIs l k) ≡ true
unfolding same
line-same l k = alike-self (13 ∷ l ∷ known_numbers k)

word-same : (addr value : ℕ) → same (HomeWord addr value) (HomeWord addr value) ≡ true
unfolding same
word-same addr value = alike-self (14 ∷ addr ∷ value ∷ [])

line-telling : (sh : Shape) (d : ℕ) (ls : Lines) (l : ℕ) → AreTelling (at_home sh d (line_record sh ls) l)
unfolding at_home line_record
line-telling sh d ls l =
    telling-if (d == home sh l) (line_record sh ls l) (telling-if (is_known sh ls l) (LineIs l (known_of sh ls l) ∷ [])
    (line-same l (known_of sh ls l), record {}))

words-telling : (sh : Shape) (d : ℕ) (first words : ℕ → ℕ) (l : ℕ) → AreTelling (at_home sh d (word_records sh first words) l)
unfolding at_home word_records word_record
words-telling sh d first words l =
    telling-if (d == home sh l) (word_records sh first words l)
    (telling-flat (λ k. word_record sh first words (word_at l k))
    (λ k. telling-unless (words (word_at l k) == first (word_at l k)) (HomeWord (addr_of sh (word_at l k)) (words (word_at l k)) ∷ []) (
      word-same (addr_of sh (word_at l k)) (words (word_at l k)),
      record {},
    )) (numbers 8))

-- ---- piece by piece

known-changes : (sh : Shape) (d : ℕ) (p : ℕ → Bool) (ls ks : Lines)
    → ((l : ℕ) → p l ≡ false → line_record sh ls l ≡ line_record sh ks l) → (n : ℕ)
    → changes (flat_map (at_home sh d (line_record sh ls)) (numbers n)) (flat_map (at_home sh d (line_record sh ks)) (numbers n))
    ≡ changes (flat_map (at_home sh d (line_record sh ls)) (those p n)) (flat_map (at_home sh d (line_record sh ks)) (those p n))
unfolding at_home
known-changes sh d p ls ks alike n =
    changes-those (at_home sh d (line_record sh ls)) (at_home sh d (line_record sh ks)) at_line p
    (λ l. second-up-to 13 l (suc l) (0 ∷ 0 ∷ []) (omega arith)) (line-lies sh d ls) (line-lies sh d ks)
    (λ l e. none-of-same (at_home sh d (line_record sh ls) l) (at_home sh d (line_record sh ks) l) (line-telling sh d ls l)
    (ap (λ rs. if d == home sh l then rs else []) (alike l e))) n

words-changes : (sh : Shape) (d : ℕ) (first : ℕ → ℕ) (q : ℕ → Bool) (ws vs : ℕ → ℕ)
    → ((l : ℕ) → q l ≡ false → word_records sh first ws l ≡ word_records sh first vs l) → (n : ℕ)
    → changes (flat_map (at_home sh d (word_records sh first ws)) (numbers n))
    (flat_map (at_home sh d (word_records sh first vs)) (numbers n))
    ≡ changes (flat_map (at_home sh d (word_records sh first ws)) (those q n))
    (flat_map (at_home sh d (word_records sh first vs)) (those q n))
unfolding at_home
words-changes sh d first q ws vs alike n =
    changes-those (at_home sh d (word_records sh first ws)) (at_home sh d (word_records sh first vs)) (λ l. at_word sh (word_at l 0)) q
    (λ l. second-up-to 14 (addr_of sh (word_at l 0)) (addr_of sh (word_at (suc l) 0)) (0 ∷ 0 ∷ []) (omega arith))
    (home-lies sh d first ws) (home-lies sh d first vs)
    (λ l e. none-of-same (at_home sh d (word_records sh first ws) l) (at_home sh d (word_records sh first vs) l)
    (words-telling sh d first ws l) (ap (λ rs. if d == home sh l then rs else []) (alike l e))) n

-- what changed of the directory itself, then of lines, and then of words
parts-changes : (sh : Shape) (first : ℕ → ℕ) (d n : ℕ) (p q : ℕ → Bool) (s t : DirState)
    → changes (directory_part sh first d (those p n) (those q n) s) (directory_part sh first d (those p n) (those q n) t)
    ≡ changes (serving_records d s) (serving_records d t)
    ++ (changes (flat_map (at_home sh d (line_record sh s.lines)) (those p n))
    (flat_map (at_home sh d (line_record sh t.lines)) (those p n))
    ++ changes (flat_map (at_home sh d (word_records sh first s.words)) (those q n))
    (flat_map (at_home sh d (word_records sh first t.words)) (those q n)))
unfolding directory_part
parts-changes sh first d n p q s t =
    let known : DirState → List Record = λ r. flat_map (at_home sh d (line_record sh r.lines)) (those p n) in
    let words : DirState → List Record = λ r. flat_map (at_home sh d (word_records sh first r.words)) (those q n) in
    changes-append (of_kind 13) (serving_records d s) (serving_records d t) (known s ++ words s) (known t ++ words t)
    (serving-lies d s).below (serving-lies d t).below (behind-lies sh first d p q n s).from (behind-lies sh first d p q n t).from
    ∙ ap (λ cs. changes (serving_records d s) (serving_records d t) ++ cs)
    (changes-append (of_kind 14) (known s) (known t) (words s) (words t) (lines-lie sh d s.lines p n).below
    (lines-lie sh d t.lines p n).below (home-words-lie sh d first s.words q n).from (home-words-lie sh d first t.words q n).from)

-- lines that are as they were may be left out
pub part-changes : (sh : Shape) (first : ℕ → ℕ) (d : ℕ) (p q : ℕ → Bool) (s t : DirState)
    → ((l : ℕ) → p l ≡ false → line_record sh s.lines l ≡ line_record sh t.lines l)
    → ((l : ℕ) → q l ≡ false → word_records sh first s.words l ≡ word_records sh first t.words l)
    → changes (directory_records sh first d s) (directory_records sh first d t)
    ≡ changes (directory_part sh first d (those p (lines sh)) (those q (lines sh)) s)
    (directory_part sh first d (those p (lines sh)) (those q (lines sh)) t)
unfolding directory_records
part-changes sh first d p q s t known words =
    parts-changes sh first d (lines sh) (λ l. true) (λ l. true) s t
    ∙ (λ i. changes (serving_records d s) (serving_records d t)
    ++ (known-changes sh d p s.lines t.lines known (lines sh) i ++ words-changes sh d first q s.words t.words words (lines sh) i))
    ∙ sym (parts-changes sh first d (lines sh) p q s t)
