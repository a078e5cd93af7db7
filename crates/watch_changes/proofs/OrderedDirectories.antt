-- The records of a directory are ordered by their keys.
use Rattle.std.proofs.Common.{◌≡◌, ℕ, suc, ◌+◌, ◌==◌, Bool, true, List, [], ◌∷◌, ◌++◌, length, refl, subst, sym, arith}
use Rattle.std.specs.List.{flat_map}
use Rattle.rules_maps.specs.Lines.{Lines}
use Rattle.rules_maps.specs.Serving.{Serving, is_skipped}
use Rattle.rules_maps.specs.Shape.{Shape, home, lines}
use Rattle.rules_maps.specs.Words.{those, word_at}
use Rattle.rules_tcc.specs.Seen.{numbers}
use Rattle.rules_tcc.specs.State.{DirState}
use Rattle.watch_state.specs.Cores.{addr_of}
use Rattle.watch_state.specs.Directories.{at_home, directory_part, directory_records, is_known, known_of, line_record, serving_records}
use Rattle.watch_state.specs.Directories.{skipped_record, word_record, word_records}
use Rattle.watch_state.specs.Records.{Record, DirectoryIs, HomeWord, LineIs, Skipped}
use Rattle.watch_changes.specs.Order.{AreOrdered}
use Rattle.watch_changes.proofs.Rising.{head-lower, kind-up-to, lie-at, lie-if, lie-unless, second-lower, second-up-to, third-lower}
use Rattle.watch_changes.proofs.Rising.{third-up-to}
use Rattle.watch_changes.proofs.Ordering.{Lie, lie-append, lie-numbers, lie-those, up-to-self, widened}

-- where the records of a kind begin
abbrev pub of_kind : (kind : ℕ) → List ℕ
of_kind n = n ∷ 0 ∷ 0 ∷ 0 ∷ []

-- ---- the TIDs that were skipped

abbrev at_tid : (dir tid : ℕ) → List ℕ
at_tid d t = 12 ∷ d ∷ t ∷ 0 ∷ []

skipped-lies : (d : ℕ) (s : Serving) (k : ℕ)
    → Lie (at_tid d (s.serving + 1 + k)) (at_tid d (s.serving + 1 + suc k)) (skipped_record d s k)
unfolding skipped_record
skipped-lies d s k =
    let t = s.serving + 1 + k in
    lie-if (at_tid d t) (at_tid d (s.serving + 1 + suc k)) (is_skipped s t) (Skipped d t ∷ [])
    (lie-at (at_tid d t) (at_tid d (s.serving + 1 + suc k)) (Skipped d t) refl
    (third-lower 12 d t (s.serving + 1 + suc k) (0 ∷ []) (0 ∷ []) (omega arith)))

all-skipped-lie : (d : ℕ) (s : Serving) (n : ℕ) → Lie (12 ∷ d ∷ 0 ∷ 0 ∷ []) (of_kind 13) (flat_map (skipped_record d s) (numbers n))
all-skipped-lie d s n =
    let k : ℕ → List ℕ = λ j. at_tid d (s.serving + 1 + j) in
    widened (12 ∷ d ∷ 0 ∷ 0 ∷ []) (k 0) (k n) (of_kind 13) (flat_map (skipped_record d s) (numbers n))
    (third-up-to 12 d 0 (s.serving + 1 + 0) (0 ∷ []) (omega arith))
    (kind-up-to 12 13 (d ∷ (s.serving + 1 + n) ∷ 0 ∷ []) (0 ∷ 0 ∷ 0 ∷ []) (omega arith))
    (lie-numbers (skipped_record d s) k
    (λ j. third-up-to 12 d (s.serving + 1 + j) (s.serving + 1 + suc j) (0 ∷ []) (omega arith)) n (λ j b. skipped-lies d s j))

-- ---- the lines

abbrev pub at_line : (line : ℕ) → List ℕ
at_line l = 13 ∷ l ∷ 0 ∷ 0 ∷ []

pub line-lies : (sh : Shape) (d : ℕ) (ls : Lines) (l : ℕ) → Lie (at_line l) (at_line (suc l)) (at_home sh d (line_record sh ls) l)
unfolding at_home line_record
line-lies sh d ls l =
    lie-if (at_line l) (at_line (suc l)) (d == home sh l) (line_record sh ls l)
    (lie-if (at_line l) (at_line (suc l)) (is_known sh ls l) (LineIs l (known_of sh ls l) ∷ [])
    (lie-at (at_line l) (at_line (suc l)) (LineIs l (known_of sh ls l)) refl
    (second-lower 13 l (suc l) (0 ∷ 0 ∷ []) (0 ∷ 0 ∷ []) (omega arith))))

-- of those lines that have a property
pub lines-lie : (sh : Shape) (d : ℕ) (ls : Lines) (p : ℕ → Bool) (n : ℕ)
    → Lie (of_kind 13) (of_kind 14) (flat_map (at_home sh d (line_record sh ls)) (those p n))
lines-lie sh d ls p n =
    widened (of_kind 13) (at_line 0) (at_line n) (of_kind 14) (flat_map (at_home sh d (line_record sh ls)) (those p n))
    (up-to-self (of_kind 13)) (kind-up-to 13 14 (n ∷ 0 ∷ 0 ∷ []) (0 ∷ 0 ∷ 0 ∷ []) (omega arith))
    (lie-those (at_home sh d (line_record sh ls)) at_line p (λ l. second-up-to 13 l (suc l) (0 ∷ 0 ∷ []) (omega arith)) n
    (λ l b. line-lies sh d ls l))

-- ---- the home words

abbrev pub at_word : Shape → (word : ℕ) → List ℕ
at_word sh w = 14 ∷ addr_of sh w ∷ 0 ∷ 0 ∷ []

word-lies : (sh : Shape) (first words : ℕ → ℕ) (w : ℕ) → Lie (at_word sh w) (at_word sh (suc w)) (word_record sh first words w)
unfolding word_record
word-lies sh first words w =
    lie-unless (at_word sh w) (at_word sh (suc w)) (words w == first w) (HomeWord (addr_of sh w) (words w) ∷ [])
    (lie-at (at_word sh w) (at_word sh (suc w)) (HomeWord (addr_of sh w) (words w)) refl
    (second-lower 14 (addr_of sh w) (addr_of sh (suc w)) (0 ∷ 0 ∷ []) (0 ∷ 0 ∷ []) (omega arith)))

words-lie : (sh : Shape) (first words : ℕ → ℕ) (l : ℕ)
    → Lie (at_word sh (word_at l 0)) (at_word sh (word_at (suc l) 0)) (word_records sh first words l)
unfolding word_records
words-lie sh first words l =
    let f : ℕ → List Record = λ k. word_record sh first words (word_at l k) in
    let k : ℕ → List ℕ = λ j. at_word sh (word_at l j) in
    let next : (j : ℕ) → word_at l (suc j) ≡ suc (word_at l j) = λ j. omega arith in
    widened (k 0) (k 0) (k 8) (at_word sh (word_at (suc l) 0)) (flat_map f (numbers 8)) (up-to-self (k 0))
    (second-up-to 14 (addr_of sh (word_at l 8)) (addr_of sh (word_at (suc l) 0)) (0 ∷ 0 ∷ []) (omega arith))
    (lie-numbers f k (λ j. second-up-to 14 (addr_of sh (word_at l j)) (addr_of sh (word_at l (suc j))) (0 ∷ 0 ∷ []) (omega arith)) 8
    (λ j b. subst (λ w. Lie (k j) (at_word sh w) (f j)) (sym (next j)) (word-lies sh first words (word_at l j))))

pub home-lies : (sh : Shape) (d : ℕ) (first words : ℕ → ℕ) (l : ℕ)
    → Lie (at_word sh (word_at l 0)) (at_word sh (word_at (suc l) 0)) (at_home sh d (word_records sh first words) l)
unfolding at_home
home-lies sh d first words l =
    lie-if (at_word sh (word_at l 0)) (at_word sh (word_at (suc l) 0)) (d == home sh l) (word_records sh first words l)
    (words-lie sh first words l)

pub home-words-lie : (sh : Shape) (d : ℕ) (first words : ℕ → ℕ) (p : ℕ → Bool) (n : ℕ)
    → Lie (of_kind 14) (of_kind 15) (flat_map (at_home sh d (word_records sh first words)) (those p n))
home-words-lie sh d first words p n =
    let k : ℕ → List ℕ = λ l. at_word sh (word_at l 0) in
    widened (of_kind 14) (k 0) (k n) (of_kind 15) (flat_map (at_home sh d (word_records sh first words)) (those p n))
    (second-up-to 14 0 (addr_of sh (word_at 0 0)) (0 ∷ 0 ∷ []) (omega arith))
    (kind-up-to 14 15 (addr_of sh (word_at n 0) ∷ 0 ∷ 0 ∷ []) (0 ∷ 0 ∷ 0 ∷ []) (omega arith))
    (lie-those (at_home sh d (word_records sh first words)) k p
    (λ l. second-up-to 14 (addr_of sh (word_at l 0)) (addr_of sh (word_at (suc l) 0)) (0 ∷ 0 ∷ []) (omega arith)) n
    (λ l b. home-lies sh d first words l))

-- ---- the whole

-- the directory itself, and the TIDs that were skipped
pub serving-lies : (d : ℕ) (s : DirState) → Lie (11 ∷ d ∷ 0 ∷ 0 ∷ []) (of_kind 13) (serving_records d s)
unfolding serving_records
serving-lies d s =
    let is = DirectoryIs d s.serving.serving s.owed in
    let skips = flat_map (skipped_record d s.serving) (numbers (length s.serving.skips)) in
    let x : List ℕ = 11 ∷ d ∷ 0 ∷ 0 ∷ [] in
    let y : List ℕ = 12 ∷ d ∷ 0 ∷ 0 ∷ [] in
    let xs : List ℕ = d ∷ 0 ∷ 0 ∷ [] in
    let zs : List ℕ = 0 ∷ 0 ∷ 0 ∷ [] in
    lie-append x y (of_kind 13) (is ∷ []) skips (kind-up-to 11 12 xs xs (omega arith))
    (kind-up-to 12 13 xs zs (omega arith)) (lie-at x y is refl (head-lower 11 12 xs xs (omega arith)))
    (all-skipped-lie d s.serving (length s.serving.skips))

-- what is known of some lines, and the words of some
pub behind-lies : (sh : Shape) (first : ℕ → ℕ) (d : ℕ) (p q : ℕ → Bool) (n : ℕ) (s : DirState) → Lie (of_kind 13) (of_kind 15)
    (flat_map (at_home sh d (line_record sh s.lines)) (those p n) ++ flat_map (at_home sh d (word_records sh first s.words)) (those q n))
behind-lies sh first d p q n s =
    let known = flat_map (at_home sh d (line_record sh s.lines)) (those p n) in
    let words = flat_map (at_home sh d (word_records sh first s.words)) (those q n) in
    let zs : List ℕ = 0 ∷ 0 ∷ 0 ∷ [] in
    lie-append (of_kind 13) (of_kind 14) (of_kind 15) known words (kind-up-to 13 14 zs zs (omega arith))
    (kind-up-to 14 15 zs zs (omega arith)) (lines-lie sh d s.lines p n) (home-words-lie sh d first s.words q n)

pub directory-ordered : (sh : Shape) (first : ℕ → ℕ) (d : ℕ) (s : DirState) → AreOrdered (directory_records sh first d s)
unfolding directory_records directory_part
directory-ordered sh first d s =
    let xs : List ℕ = d ∷ 0 ∷ 0 ∷ [] in
    let zs : List ℕ = 0 ∷ 0 ∷ 0 ∷ [] in
    (lie-append (11 ∷ xs) (of_kind 13) (of_kind 15) (serving_records d s)
    (flat_map (at_home sh d (line_record sh s.lines)) (numbers (lines sh))
    ++ flat_map (at_home sh d (word_records sh first s.words)) (numbers (lines sh)))
    (kind-up-to 11 13 xs zs (omega arith)) (kind-up-to 13 15 zs zs (omega arith)) (serving-lies d s)
    (behind-lies sh first d (λ l. true) (λ l. true) (lines sh) s)).ordered
