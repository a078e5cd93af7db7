-- Lines of memory that are read: their rows, and that no other RAM has them.
use Rattle.std.proofs.Common.{◌≡◌, ℕ, zero, suc, ◌+◌, ◌-◌, ◌*◌, ◌/◌, ◌<◌, ◌≤◌, ◌^◌, true, false, eqb, List, [], ◌∷◌, ◌++◌, All}
use Rattle.std.proofs.Common.{codes, ◌⊎◌, inl, inr, length, take, drop, get_or, slice_index, refl, sym, ap, ◌∙◌, subst, append_assoc}
use Rattle.std.proofs.Common.{append-nil}
use Rattle.std.proofs.Common.{length-drop, arith}
use Rattle.std.proofs.lemmas.Bool.{and_parts, cases_lt}
use Rattle.std.proofs.lemmas.List.{drop-drop, drop-take, drop_at, length-take-le, take-take, take_at}
use Rattle.std.proofs.lemmas.List.Elements.{All-drop, All-take, All-cons}
use Rattle.row_text.specs.Reading.{HasNoRow, IsRowRead}
use Rattle.row_text.specs.Rows.{AreNumbers, IsRow, Row, row_text, rows_text}
use Rattle.row_text.proofs.Lemmas.{one-row}
use Rattle.serial_tool.specs.PlainTexts.{HasNoLine, IsPut, all_zero, mem_row, mem_rows, ram_rows, row}
use Rattle.serial_tool.proofs.Alike.{either, mem_row-none, mem_row-some, wider, word-end, word-mem}
use Rattle.serial_tool.proofs.Written.{lines-next, rows-append}

-- ---- words that are all 0

zero-take : (n : ℕ) (xs : List ℕ) → all_zero xs ≡ true → all_zero (take n xs) ≡ true
unfolding all_zero
zero-take zero xs e = refl
zero-take (suc n) [] e = refl
zero-take (suc n) (x ∷ xs) e =
    let parts = and_parts (eqb x 0) (all_zero xs) e in
    rw (parts.0, zero-take n xs parts.1) refl

zero-drop : (n : ℕ) (xs : List ℕ) → all_zero xs ≡ true → all_zero (drop n xs) ≡ true
unfolding all_zero
zero-drop zero xs e = e
zero-drop (suc n) [] e = refl
zero-drop (suc n) (x ∷ xs) e = zero-drop n xs (and_parts (eqb x 0) (all_zero xs) e).1

pub zero-after : (n m : ℕ) (xs : List ℕ) → n ≤ m → all_zero (drop n xs) ≡ true → all_zero (drop m xs) ≡ true
zero-after n m xs less e =
    let place : n + (m - n) ≡ m = omega arith in
    subst (λ k. all_zero (drop k xs) ≡ true) place
    (subst (λ (ys : List ℕ). all_zero ys ≡ true) (drop-drop (m - n) n xs) (zero-drop (m - n) (drop n xs) e))

-- ---- the rows of a RAM from a line on

abbrev pub end_row : Row
end_row = row (codes "end") []

abbrev pub rest_rows : (ram : List ℕ) → (lines line : ℕ) → List Row
rest_rows ram lines line = mem_rows (lines - line) line (drop (8 * line) ram) ++ end_row ∷ []

abbrev pub words_at : (ram : List ℕ) → (line : ℕ) → List ℕ
words_at ram line = take 8 (drop (8 * line) ram)

rest-none : (ram : List ℕ) (lines line : ℕ) → line < lines → all_zero (words_at ram line) ≡ true
    → rest_rows ram lines line ≡ rest_rows ram lines (line + 1)
rest-none ram lines line lt e =
    ap (λ rows. rows ++ end_row ∷ []) (lines-next lines line ram lt
    ∙ ap (λ rows. rows ++ mem_rows (lines - (line + 1)) (line + 1) (drop (8 * (line + 1)) ram)) (mem_row-none line (words_at ram line) e))

rest-some : (ram : List ℕ) (lines line : ℕ) → line < lines → all_zero (words_at ram line) ≡ false
    → rest_rows ram lines line ≡ row (codes "mem") (line ∷ words_at ram line) ∷ rest_rows ram lines (line + 1)
rest-some ram lines line lt e =
    ap (λ rows. rows ++ end_row ∷ []) (lines-next lines line ram lt
    ∙ ap (λ rows. rows ++ mem_rows (lines - (line + 1)) (line + 1) (drop (8 * (line + 1)) ram)) (mem_row-some line (words_at ram line) e))

rest-end : (ram : List ℕ) (lines line : ℕ) → lines ≤ line → rest_rows ram lines line ≡ end_row ∷ []
unfolding mem_rows
rest-end ram lines line past = let e : lines - line ≡ 0 = omega arith in rw e refl

-- the first line from this one on that isn't all 0
pub record FirstLine (ram : List ℕ) (lines from : ℕ) : Type 0 where
  pub line : ℕ
  pub late : from ≤ line
  pub within : line < lines
  pub some : all_zero (words_at ram line) ≡ false
  pub rows : rest_rows ram lines from ≡ row (codes "mem") (line ∷ words_at ram line) ∷ rest_rows ram lines (line + 1)

pub first-line : (gap : ℕ) (ram : List ℕ) (lines from : ℕ) → gap + from ≡ lines
    → (rest_rows ram lines from ≡ end_row ∷ []) ⊎ FirstLine ram lines from
first-line zero ram lines from e = inl (rest-end ram lines from (omega arith))
first-line (suc gap) ram lines from e =
    elim (either (all_zero (words_at ram from))) [
      | inl none ↦
          let skip = rest-none ram lines from (omega arith) none in
          elim (first-line gap ram lines (from + 1) (omega arith)) [
            | inl ends ↦ inl (skip ∙ ends)
            | inr found ↦ let late = found.late in inr (record {
              line = found.line;
              late = omega arith;
              within = found.within;
              some = found.some;
              rows = skip ∙ found.rows;
            })
          ]
      | inr some ↦ inr (record {
        line = from;
        late = omega arith;
        within = omega arith;
        some = some;
        rows = rest-some ram lines from (omega arith) some;
      })
    ]

pub any-line : (ram : List ℕ) (lines from : ℕ) → (rest_rows ram lines from ≡ end_row ∷ []) ⊎ FirstLine ram lines from
any-line ram lines from =
    elim (cases_lt from lines) [
      | inl lt ↦ first-line (lines - from) ram lines from (omega arith)
      | inr past ↦ inl (rest-end ram lines from past)
    ]

-- ---- a row that was read is the first of these

rows-first : (r : Row) (rows : List Row) → rows_text (r ∷ rows) ≡ row_text r ++ rows_text rows
unfolding rows_text
rows-first r rows = refl

rows-none : rows_text [] ≡ []
unfolding rows_text
rows-none = refl

words-fit : (ram : List ℕ) (line : ℕ) → All (λ w. w < 2 ^ 32) ram → All (λ w. w < 2 ^ 32) (words_at ram line)
words-fit ram line fits = All-take (λ w. w < 2 ^ 32) 8 (drop (8 * line) ram) (All-drop (λ w. w < 2 ^ 32) (8 * line) ram fits)

apart : (m n : ℕ) → m < n → m ≡ n → ⊥
apart m n less e = omega arith

line-fits : (ram : List ℕ) (line : ℕ) → line < 2 ^ 64 → All (λ w. w < 2 ^ 32) ram → IsRow (row (codes "mem") (line ∷ words_at ram line))
line-fits ram line small fits = record {
  word = word-mem;
  numbers = All-cons (λ n. n < 2 ^ 64) line (words_at ram line) small (wider (words_at ram line) (words-fit ram line fits));
}

-- the line whose row stands in front of what a RAM has left
pub record IsFront (ram : List ℕ) (lines from : ℕ) (numbers after : List ℕ) : Type 0 where
  pub first : FirstLine ram lines from
  pub numbers_are : numbers ≡ first.line ∷ words_at ram first.line
  pub rest : after ≡ rows_text (rest_rows ram lines (first.line + 1))

pub mem-front : (ram : List ℕ) (lines from : ℕ) (rest numbers after : List ℕ) → IsRowRead rest (codes "mem") numbers after
    → rest ≡ rows_text (rest_rows ram lines from) → IsFront ram lines from numbers after
mem-front ram lines from rest numbers after read e =
    elim (any-line ram lines from) [
      | inl ends ↦
          let same : row_text (row (codes "mem") numbers) ++ after ≡ row_text end_row ++ [] =
          sym read.parts ∙ e ∙ ap rows_text ends ∙ rows-first end_row [] ∙ ap (λ (t : List ℕ). row_text end_row ++ t) rows-none in
          let both = one-row (row (codes "mem") numbers) end_row after [] word-mem word-end same in
          absurd (apart 101 109 (omega arith) (sym (ap (λ r. get_or r.word 0 0) both.0)))
      | inr found ↦
          let r = row (codes "mem") (found.line ∷ words_at ram found.line) in
          let more = rows_text (rest_rows ram lines (found.line + 1)) in
          let same : row_text (row (codes "mem") numbers) ++ after ≡ row_text r ++ more =
          sym read.parts ∙ e ∙ ap rows_text found.rows ∙ rows-first r (rest_rows ram lines (found.line + 1)) in
          let both = one-row (row (codes "mem") numbers) r after more word-mem word-mem same in
          record { first = found; numbers_are = ap (λ r. r.numbers) both.0; rest = both.1 }
    ]

-- where no row of a line stands in front, the last row does
pub end-front : (ram : List ℕ) (lines from : ℕ) (rest : List ℕ) → 8 * lines ≤ length ram → lines ≤ 2 ^ 32 → All (λ w. w < 2 ^ 32) ram
    → HasNoRow rest (codes "mem") 9 → rest ≡ rows_text (rest_rows ram lines from) → rest ≡ row_text end_row ++ []
end-front ram lines from rest whole few fits none e =
    elim (any-line ram lines from) [
      | inl ends ↦ e ∙ ap rows_text ends ∙ rows-first end_row [] ∙ ap (λ (t : List ℕ). row_text end_row ++ t) rows-none
      | inr found ↦
          let r = row (codes "mem") (found.line ∷ words_at ram found.line) in
          let within = found.within in
          let behind = length-drop (8 * found.line) ram in
          let eight : length (words_at ram found.line) ≡ 8 = length-take-le 8 (drop (8 * found.line) ram) (omega arith) in
          let small : AreNumbers (found.line ∷ words_at ram found.line) = (line-fits ram found.line (omega arith) fits).numbers in
          absurd (none (found.line ∷ words_at ram found.line) (rows_text (rest_rows ram lines (found.line + 1))) (omega arith) (record {
            parts = e ∙ ap rows_text found.rows ∙ rows-first r (rest_rows ram lines (found.line + 1));
            fit = small;
          }))
    ]

-- ---- the rows of the lines below one

rows-more : (count line : ℕ) (ram : List ℕ)
    → mem_rows (suc count) line ram ≡ mem_rows count line ram ++ mem_row (line + count) (words_at ram count)
unfolding mem_rows
rows-more zero line ram =
    let e : line ≡ line + 0 = omega arith in
    append-nil (mem_row line (take 8 ram)) ∙ ap (λ l. mem_row l (take 8 ram)) e
rows-more (suc count) line ram =
    let e : line + 1 + count ≡ line + suc count = omega arith in
    let place : 8 + 8 * count ≡ 8 * suc count = omega arith in
    let words : words_at (drop 8 ram) count ≡ words_at ram (suc count) =
    ap (take 8) (drop-drop (8 * count) 8 ram ∙ ap (λ k. drop k ram) place) in
    ap (λ rows. mem_row line (take 8 ram) ++ rows) (rows-more count (line + 1) (drop 8 ram)
    ∙ ap (λ rows. mem_rows count (line + 1) (drop 8 ram) ++ rows)
    ((λ i. mem_row (e i) (words i))))
    ∙ sym (append_assoc (mem_row line (take 8 ram)) (mem_rows count (line + 1) (drop 8 ram))
    (mem_row (line + suc count) (words_at ram (suc count))))

rows-skip : (gap n : ℕ) (ram : List ℕ) → all_zero (drop (8 * n) ram) ≡ true → mem_rows (gap + n) 0 ram ≡ mem_rows n 0 ram
rows-skip zero n ram e = ap (λ k. mem_rows k 0 ram) (let same : 0 + n ≡ n = omega arith in same)
rows-skip (suc gap) n ram e =
    let next : suc gap + n ≡ suc (gap + n) = omega arith in
    let none : all_zero (words_at ram (gap + n)) ≡ true =
    zero-take 8 (drop (8 * (gap + n)) ram) (zero-after (8 * n) (8 * (gap + n)) ram (omega arith) e) in
    ap (λ k. mem_rows k 0 ram) next ∙ rows-more (gap + n) 0 ram
    ∙ ap (λ rows. mem_rows (gap + n) 0 ram ++ rows) (mem_row-none (0 + (gap + n)) (words_at ram (gap + n)) none)
    ∙ append-nil (mem_rows (gap + n) 0 ram) ∙ rows-skip gap n ram e

pub rows-up-to : (n m : ℕ) (ram : List ℕ) → n ≤ m → all_zero (drop (8 * n) ram) ≡ true → mem_rows m 0 ram ≡ mem_rows n 0 ram
rows-up-to n m ram less e =
    let place : m ≡ m - n + n = omega arith in
    ap (λ k. mem_rows k 0 ram) place ∙ rows-skip (m - n) n ram e

rows-same : (n line : ℕ) (xs ys : List ℕ) → take (8 * n) xs ≡ take (8 * n) ys → mem_rows n line xs ≡ mem_rows n line ys
unfolding mem_rows
rows-same zero line xs ys e = refl
rows-same (suc n) line xs ys e =
    let place : 8 * suc n ≡ 8 + 8 * n = omega arith in
    let whole : take (8 + 8 * n) xs ≡ take (8 + 8 * n) ys = subst (λ k. take k xs ≡ take k ys) place e in
    let first : take 8 xs ≡ take 8 ys =
    sym (take-take 8 (8 + 8 * n) xs (omega arith)) ∙ ap (take 8) whole ∙ take-take 8 (8 + 8 * n) ys (omega arith) in
    let rest : take (8 * n) (drop 8 xs) ≡ take (8 * n) (drop 8 ys) =
    sym (drop-take 8 (8 * n) xs) ∙ ap (drop 8) whole ∙ drop-take 8 (8 * n) ys in
    let more = rows-same n (line + 1) (drop 8 xs) (drop 8 ys) rest in
    λ i. mem_row line (first i) ++ more i

-- ---- steps of the loop over lines

pub ram-begin : (ram : List ℕ) (count : ℕ) → length ram ≡ count → rows_text (ram_rows ram) ≡ rows_text (rest_rows ram (count / 8) 0)
unfolding ram_rows
ram-begin ram count long =
    let same : length ram / 8 ≡ count / 8 = ap (λ n. n / 8) long in
    let lines : length ram / 8 ≡ count / 8 - 0 = omega arith in
    ap (λ k. rows_text (mem_rows k 0 ram ++ end_row ∷ [])) lines

pub rows-begin : (ram bytes : List ℕ) → bytes ≡ rows_text (mem_rows 0 0 ram) ++ bytes
unfolding rows_text mem_rows
rows-begin ram bytes = refl

pub no-line-ram : (ram : List ℕ) (lines next : ℕ) (numbers after : List ℕ) → All (λ w. w < 2 ^ 32) ram
    → IsFront ram lines next numbers after → HasNoLine lines next numbers → ⊥
no-line-ram ram lines next numbers after fits f none =
    let first = f.first in
    let line : slice_index numbers 0 ≡ first.line = ap (λ ns. slice_index ns 0) f.numbers_are in
    let words : drop 1 numbers ≡ words_at ram first.line = ap (drop 1) f.numbers_are in
    let late = first.late in
    let within = first.within in
    none (omega arith) (omega arith) (subst (All (λ w. w < 2 ^ 32)) (sym words) (words-fit ram first.line fits))
    (ap all_zero words ∙ first.some)

pub one-line : (ram : List ℕ) (lines next : ℕ) (numbers after old new : List ℕ) (next_line : ℕ)
    → IsFront ram lines next numbers after → IsPut old new next numbers next_line → after ≡ rows_text (rest_rows ram lines next_line)
one-line ram lines next numbers after old new next_line f put =
    let same : f.first.line ≡ put.line = ap (λ ns. slice_index ns 0) (sym f.numbers_are ∙ put.is) in
    f.rest ∙ ap (λ l. rows_text (rest_rows ram lines (l + 1))) same ∙ ap (λ l. rows_text (rest_rows ram lines l)) (sym put.follows)

front-length : (old : List ℕ) (n : ℕ) → n + 8 ≤ length old → length (take n old) ≡ n
front-length old n there = length-take-le n old (omega arith)

pub zero-next : (old new numbers : List ℕ) (next next_line : ℕ) → IsPut old new next numbers next_line
    → all_zero (drop (8 * next) old) ≡ true → all_zero (drop (8 * next_line) new) ≡ true
zero-next old new numbers next next_line put none =
    let there = put.there in
    let late = put.late in
    let follows = put.follows in
    let eight = put.eight in
    let place : 8 * next_line ≡ 8 * put.line + 8 = omega arith in
    let behind = drop (8 * put.line + 8) old in
    let first : drop (8 * put.line) (take (8 * put.line) old ++ (put.words ++ behind)) ≡ put.words ++ behind =
    drop_at (take (8 * put.line) old) (put.words ++ behind) (8 * put.line) (front-length old (8 * put.line) there) in
    let rest : drop (8 * next_line) new ≡ behind =
    ap (λ k. drop k new) place ∙ sym (drop-drop 8 (8 * put.line) new) ∙ ap (λ (xs : List ℕ). drop 8 (drop (8 * put.line) xs)) put.put
    ∙ ap (drop 8) first ∙ drop_at put.words behind 8 eight in
    ap all_zero rest ∙ zero-after (8 * next) (8 * put.line + 8) old (omega arith) none

pub parts-next : (bytes rest after numbers old new : List ℕ) (next next_line : ℕ) → IsPut old new next numbers next_line
    → all_zero (drop (8 * next) old) ≡ true → bytes ≡ rows_text (mem_rows next 0 old) ++ rest
    → IsRowRead rest (codes "mem") numbers after → bytes ≡ rows_text (mem_rows next_line 0 new) ++ after
parts-next bytes rest after numbers old new next next_line put none so_far read =
    let there = put.there in
    let line = put.line in
    let r = row (codes "mem") (line ∷ put.words) in
    let behind = put.words ++ drop (8 * line + 8) old in
    let front = front-length old (8 * line) there in
    let kept : take (8 * line) new ≡ take (8 * line) old = ap (take (8 * line)) put.put
    ∙ take_at (take (8 * line) old) behind (8 * line) front in
    let words : words_at new line ≡ put.words =
    ap (λ (xs : List ℕ). take 8 (drop (8 * line) xs)) put.put
    ∙ ap (take 8) (drop_at (take (8 * line) old) behind (8 * line) front)
    ∙ take_at put.words (drop (8 * line + 8) old) 8 put.eight in
    let place : next_line ≡ suc line = (let follows = put.follows in omega arith) in
    let number : 0 + line ≡ line = omega arith in
    let early : mem_rows line 0 new ≡ mem_rows next 0 old =
    rows-same line 0 new old kept ∙ rows-up-to next line old put.late none in
    let own : mem_row (0 + line) (words_at new line) ≡ r ∷ [] =
    (λ i. mem_row (number i) (words i)) ∙ mem_row-some line put.words put.some in
    let rows : mem_rows next_line 0 new ≡ mem_rows next 0 old ++ r ∷ [] =
    ap (λ k. mem_rows k 0 new) place ∙ rows-more line 0 new ∙ (λ i. early i ++ own i) in
    let mine : rest ≡ row_text r ++ after = read.parts ∙ ap (λ ns. row_text (row (codes "mem") ns) ++ after) put.is in
    let alone : rows_text (r ∷ []) ≡ row_text r =
    rows-first r [] ∙ ap (λ (t : List ℕ). row_text r ++ t) rows-none ∙ append-nil (row_text r) in
    so_far ∙ ap (λ (t : List ℕ). rows_text (mem_rows next 0 old) ++ t) mine
    ∙ sym (append_assoc (rows_text (mem_rows next 0 old)) (row_text r) after)
    ∙ ap (λ (t : List ℕ). t ++ after)
    (ap (λ (t : List ℕ). rows_text (mem_rows next 0 old) ++ t) (sym alone) ∙ sym (rows-append (mem_rows next 0 old) (r ∷ []))
    ∙ ap rows_text (sym rows))

nothing : (xs : List ℕ) → length xs ≡ 0 → xs ≡ []
nothing [] long = refl
nothing (x ∷ xs) long = absurd (omega arith)

-- the last row
pub ram-end : (bytes rest ram numbers after : List ℕ) (next : ℕ) → 8 * next ≤ length ram → all_zero (drop (8 * next) ram) ≡ true
    → bytes ≡ rows_text (mem_rows next 0 ram) ++ rest → IsRowRead rest (codes "end") numbers after → length numbers ≡ 0
    → length after ≡ 0 → bytes ≡ rows_text (ram_rows ram)
unfolding ram_rows
ram-end bytes rest ram numbers after next there none so_far read no_numbers no_more =
    let all : mem_rows (length ram / 8) 0 ram ≡ mem_rows next 0 ram = rows-up-to next (length ram / 8) ram (omega arith) none in
    let mine : rest ≡ row_text end_row ++ [] =
    read.parts ∙ (λ i. row_text (row (codes "end") (nothing numbers no_numbers i)) ++ nothing after no_more i) in
    let alone : rows_text (end_row ∷ []) ≡ row_text end_row ++ [] =
    rows-first end_row [] ∙ ap (λ (t : List ℕ). row_text end_row ++ t) rows-none in
    so_far ∙ ap (λ (t : List ℕ). rows_text (mem_rows next 0 ram) ++ t) (mine ∙ sym alone)
    ∙ sym (rows-append (mem_rows next 0 ram) (end_row ∷ [])) ∙ ap (λ rows. rows_text (rows ++ end_row ∷ [])) (sym all)

pub end-alone : (rest numbers after : List ℕ) → rest ≡ row_text end_row ++ [] → IsRowRead rest (codes "end") numbers after → after ≡ []
end-alone rest numbers after e read =
    (one-row (row (codes "end") numbers) end_row after [] word-end word-end (sym read.parts ∙ e)).1

pub no-end : (rest : List ℕ) → rest ≡ row_text end_row ++ [] → HasNoRow rest (codes "end") 0 → ⊥
no-end rest e none = none [] [] refl (record { parts = e; fit = λ k d lt. absurd (omega arith) })
