-- The text of a plain machine is that of one machine.
use Rattle.std.proofs.Common.{◌≡◌, ℕ, zero, suc, ◌+◌, ◌*◌, ◌/◌, ◌<◌, ◌≤◌, ◌^◌, Bool, true, false, eqb, codes}
use Rattle.std.proofs.Common.{List, [], ◌∷◌, ◌++◌, None, ◌⊎◌, inl, inr, All, length, map, take, drop, get_or, slice_index, refl, sym, ap}
use Rattle.std.proofs.Common.{◌∙◌, subst}
use Rattle.std.proofs.Common.{take-append-drop, length-drop, arith}
use Rattle.std.proofs.lemmas.Bool.{and_parts, eqb-true}
use Rattle.std.proofs.lemmas.Grind.{common_steps}
use Rattle.std.proofs.lemmas.List.{length-take-le, same_lists}
use Rattle.std.proofs.lemmas.List.Elements.{All-append, All-cons, All-drop, All-nil, All-tail, All-take}
use Rattle.reg_checkpoint.specs.Registers.{IsRegisters}
use Rattle.row_text.specs.Rows.{AreNumbers, IsRow, IsWord, Row, is_word_byte}
use Rattle.row_text.proofs.Lemmas.{is-word, one-text}
use Rattle.rules_program.specs.Registers.{register}
use Rattle.rv_plain.specs.PlainState.{PlainState}
use Rattle.rv_plain.specs.declared.plain.CoreState.{CoreState}
use Rattle.serial_tool.specs.Laws.{MachinesAreAlike}
use Rattle.serial_tool.specs.PlainTexts.{CoreFits, EndFits, HasText, all_zero, core_numbers, core_row, core_rows, end_code, end_kind}
use Rattle.serial_tool.specs.PlainTexts.{fresh, mem_row}
use Rattle.serial_tool.specs.PlainTexts.{mem_rows, plain_rows, ram_rows, registers, row}
use Rattle.tcc_base.specs.declared.access.CoreEnd.{CoreEnd}
use Rattle.tcc_base.specs.declared.access.CoreEnd.TheVariants.{Run, Halt, Trap}

-- ---- each row is one

pub word-plain : IsWord (codes "tcc-plain")
unfolding is_word_byte
word-plain = is-word 116 (codes "cc-plain") refl

pub word-last : IsWord (codes "last")
unfolding is_word_byte
word-last = is-word 108 (codes "ast") refl

pub word-core : IsWord (codes "core")
unfolding is_word_byte
word-core = is-word 99 (codes "ore") refl

pub word-mem : IsWord (codes "mem")
unfolding is_word_byte
word-mem = is-word 109 (codes "em") refl

pub word-end : IsWord (codes "end")
unfolding is_word_byte
word-end = is-word 101 (codes "nd") refl

not-equal : (m n : ℕ) → m < n → m ≡ n → ⊥
not-equal m n less e = omega arith

-- the first of some rows
abbrev head : List Row → Row
head [] = row [] []
head (r ∷ rows) = r

-- a test's two answers
pub either : (b : Bool) → (b ≡ true) ⊎ (b ≡ false)
either true = inl refl
either false = inr refl

-- numbers of 32 bits are numbers of a row
pub wider : (xs : List ℕ) → All (λ v. v < 2 ^ 32) xs → AreNumbers xs
wider xs h k d lt = let small : get_or xs k d < 2 ^ 32 = h k d lt in omega arith

one-more : (x : ℕ) (xs : List ℕ) → x < 2 ^ 64 → AreNumbers xs → AreNumbers (x ∷ xs)
one-more x xs fits rest = All-cons (λ n. n < 2 ^ 64) x xs fits rest

register-fits : (regs : List ℕ) (k : ℕ) → All (λ v. v < 2 ^ 32) regs → register regs k < 2 ^ 64
unfolding register
register-fits [] k h = omega arith
register-fits (x ∷ regs) zero h = let small : x < 2 ^ 32 = h 0 0 (omega arith) in omega arith
register-fits (x ∷ regs) (suc k) h = register-fits regs k (All-tail (λ v. v < 2 ^ 32) x regs h)

registers-fit : (count first : ℕ) (regs : List ℕ) → All (λ v. v < 2 ^ 32) regs → AreNumbers (registers count first regs)
unfolding registers
registers-fit zero first regs h = All-nil (λ n. n < 2 ^ 64)
registers-fit (suc count) first regs h =
    one-more (register regs first) (registers count (first + 1) regs) (register-fits regs first h) (registers-fit count (first + 1) regs h)

kind-few : (e : CoreEnd) → end_kind e < 3
kind-few Run = omega arith
kind-few (Halt code) = omega arith
kind-few (Trap code) = omega arith

code-fits : (e : CoreEnd) → EndFits e → end_code e < 2 ^ 64
code-fits Run fits = omega arith
code-fits (Halt code) fits = omega arith
code-fits (Trap code) fits = omega arith

pub core-numbers-fit : (core : ℕ) (s : CoreState) → core < 2 ^ 64 → CoreFits s → AreNumbers (core_numbers core s)
unfolding core_numbers
core-numbers-fit core s small fits =
    let pc = fits.pc in
    let code = code-fits s.ended fits.code in
    let kind = kind-few s.ended in
    let regs = registers 31 1 s.state.regs in
    one-more core (s.state.pc ∷ end_kind s.ended ∷ end_code s.ended ∷ regs) small
    (one-more s.state.pc (end_kind s.ended ∷ end_code s.ended ∷ regs) (omega arith)
    (one-more (end_kind s.ended) (end_code s.ended ∷ regs) (omega arith)
    (one-more (end_code s.ended) regs (omega arith) (registers-fit 31 1 s.state.regs fits.words))))

core-rows-fit : (core : ℕ) (cores : List CoreState) → core + length cores ≤ 64 → All CoreFits cores → All IsRow (core_rows core cores)
unfolding core_rows
core-rows-fit core [] few fits = All-nil IsRow
core-rows-fit core (s ∷ cores) few fits =
    All-cons IsRow (core_row core s) (core_rows (core + 1) cores)
    (record { word = word-core; numbers = core-numbers-fit core s (omega arith) (fits 0 s (omega arith)) })
    (core-rows-fit (core + 1) cores (omega arith) (All-tail CoreFits s cores fits))

mem-row-fits : (line : ℕ) (words : List ℕ) → line < 2 ^ 64 → All (λ w. w < 2 ^ 32) words → All IsRow (mem_row line words)
unfolding mem_row
mem-row-fits line words small fits = go (all_zero words) refl
  where
    go : (b : Bool) → all_zero words ≡ b → All IsRow (mem_row line words)
    go true e = rw e (All-nil IsRow)
    go false e = rw e (All-cons IsRow (row (codes "mem") (line ∷ words)) []
        (record { word = word-mem; numbers = one-more line words small (wider words fits) }) (All-nil IsRow))

mem-rows-fit : (lines line : ℕ) (ram : List ℕ) → line + lines ≤ 2 ^ 32 → All (λ w. w < 2 ^ 32) ram → All IsRow (mem_rows lines line ram)
unfolding mem_rows
mem-rows-fit zero line ram small fits = All-nil IsRow
mem-rows-fit (suc lines) line ram small fits =
    All-append IsRow (mem_row line (take 8 ram)) (mem_rows lines (line + 1) (drop 8 ram))
    (mem-row-fits line (take 8 ram) (omega arith) (All-take (λ w. w < 2 ^ 32) 8 ram fits))
    (mem-rows-fit lines (line + 1) (drop 8 ram) (omega arith) (All-drop (λ w. w < 2 ^ 32) 8 ram fits))

end-fits : All IsRow (row (codes "end") [] ∷ [])
end-fits = All-cons IsRow (row (codes "end") []) [] (record { word = word-end; numbers = All-nil (λ n. n < 2 ^ 64) }) (All-nil IsRow)

pub rows-fit : (s : PlainState) (last : ℕ) → HasText s last → All IsRow (plain_rows s last)
unfolding plain_rows ram_rows
rows-fit s last has =
    let tid = has.tid in
    let size = has.size in
    let few = has.few in
    let cores = core-rows-fit 0 s.cores (omega arith) has.cores in
    let mem = mem-rows-fit (length s.ram / 8) 0 s.ram (omega arith) has.words in
    let ram = All-append IsRow (mem_rows (length s.ram / 8) 0 s.ram) (row (codes "end") [] ∷ []) mem end-fits in
    let rows = core_rows 0 s.cores ++ (mem_rows (length s.ram / 8) 0 s.ram ++ row (codes "end") [] ∷ []) in
    let last_row = row (codes "last") (last ∷ []) in
    All-cons IsRow (row (codes "tcc-plain") (1 ∷ [])) (last_row ∷ rows)
    (record { word = word-plain; numbers = one-more 1 [] (omega arith) (All-nil (λ n. n < 2 ^ 64)) })
    (All-cons IsRow last_row rows (record { word = word-last; numbers = one-more last [] tid (All-nil (λ n. n < 2 ^ 64)) })
    (All-append IsRow (core_rows 0 s.cores) (mem_rows (length s.ram / 8) 0 s.ram ++ row (codes "end") [] ∷ []) cores ram))

-- ---- one core has these numbers

pub end-alike : (e f : CoreEnd) → end_kind e ≡ end_kind f → end_code e ≡ end_code f → e ≡ f
end-alike Run Run kind code = refl
end-alike Run (Halt d) kind code = absurd (omega arith)
end-alike Run (Trap d) kind code = absurd (omega arith)
end-alike (Halt c) Run kind code = absurd (omega arith)
end-alike (Halt c) (Halt d) kind code = ap (λ n. Halt n) code
end-alike (Halt c) (Trap d) kind code = absurd (omega arith)
end-alike (Trap c) Run kind code = absurd (omega arith)
end-alike (Trap c) (Halt d) kind code = absurd (omega arith)
end-alike (Trap c) (Trap d) kind code = ap (λ n. Trap n) code

registers-alike : (count first : ℕ) (xs ys : List ℕ) → registers count first xs ≡ registers count first ys → (k : ℕ) → first ≤ k
    → k < first + count → slice_index xs k ≡ slice_index ys k
unfolding registers register
registers-alike zero first xs ys e k low high = absurd (omega arith)
registers-alike (suc count) first xs ys e k low high =
    elim (either (eqb k first)) [
      | inl same ↦
          let is : k ≡ first = eqb-true k first same in
          let here : slice_index xs first ≡ slice_index ys first = cc in
          rw is here
      | inr other ↦
          let more : registers count (first + 1) xs ≡ registers count (first + 1) ys = cc in
          registers-alike count (first + 1) xs ys more k (grind (arith, other)) (omega arith)
    ]

-- registers with the same x1 to x31 are the same
pub regs-alike : (xs ys : List ℕ) → IsRegisters xs → IsRegisters ys → registers 31 1 xs ≡ registers 31 1 ys → xs ≡ ys
regs-alike xs ys is_x is_y e = same_lists xs ys (is_x.count ∙ sym is_y.count) each
  where
    at-zero : (k : ℕ) → k < 32 → slice_index xs k ≡ slice_index ys k
    at-zero zero lt = is_x.zero_register ∙ sym is_y.zero_register
    at-zero (suc k) lt = registers-alike 31 1 xs ys e (suc k) (omega arith) (omega arith)

    each : (k d : ℕ) → k < length xs → get_or xs k d ≡ get_or ys k d
    each k d lt =
        let long_x = is_x.count in
        let long_y = is_y.count in
        let same = at-zero k (omega arith) in
        grind (arith, common_steps, same)

pub core-alike : (core : ℕ) (x y : CoreState) → CoreFits x → CoreFits y → core_numbers core x ≡ core_numbers core y → fresh x ≡ fresh y
unfolding core_numbers
core-alike core x y fits_x fits_y e =
    let pcs : x.state.pc ≡ y.state.pc = ap (λ ns. get_or ns 1 0) e in
    let kinds : end_kind x.ended ≡ end_kind y.ended = ap (λ ns. get_or ns 2 0) e in
    let code : end_code x.ended ≡ end_code y.ended = ap (λ ns. get_or ns 3 0) e in
    let more : registers 31 1 x.state.regs ≡ registers 31 1 y.state.regs = ap (drop 4) e in
    let regs = regs-alike x.state.regs y.state.regs fits_x.registers fits_y.registers more in
    let ends = end-alike x.ended y.ended kinds code in
    λ i. fresh (record { state = record { regs = regs i; pc = pcs i; reserved = None }; ended = ends i; console = [] })

-- ---- one RAM has these rows

pub mem_row-none : (line : ℕ) (words : List ℕ) → all_zero words ≡ true → mem_row line words ≡ []
unfolding mem_row
mem_row-none line words e = rw e refl

pub mem_row-some : (line : ℕ) (words : List ℕ) → all_zero words ≡ false → mem_row line words ≡ row (codes "mem") (line ∷ words) ∷ []
unfolding mem_row
mem_row-some line words e = rw e refl

-- rows of memory, and the last one
abbrev pub tail_rows : (lines line : ℕ) → List ℕ → List Row
tail_rows lines line ram = mem_rows lines line ram ++ row (codes "end") [] ∷ []

tail-none : (lines line : ℕ) (ram : List ℕ) → all_zero (take 8 ram) ≡ true
    → tail_rows (suc lines) line ram ≡ tail_rows lines (line + 1) (drop 8 ram)
unfolding mem_rows
tail-none lines line ram e = rw (mem_row-none line (take 8 ram) e) refl

tail-some : (lines line : ℕ) (ram : List ℕ) → all_zero (take 8 ram) ≡ false
    → tail_rows (suc lines) line ram ≡ row (codes "mem") (line ∷ take 8 ram) ∷ tail_rows lines (line + 1) (drop 8 ram)
unfolding mem_rows
tail-some lines line ram e = rw (mem_row-some line (take 8 ram) e) refl

-- none of these rows is a core's
pub no-core : (lines line : ℕ) (ram numbers : List ℕ) (rest : List Row) → row (codes "core") numbers ∷ rest ≡ tail_rows lines line ram → ⊥
unfolding mem_rows
no-core zero line ram numbers rest e = not-equal 99 101 (omega arith) (ap (λ rows. get_or (head rows).word 0 0) e)
no-core (suc lines) line ram numbers rest e =
    elim (either (all_zero (take 8 ram))) [
      | inl zero_line ↦ no-core lines (line + 1) (drop 8 ram) numbers rest (e ∙ tail-none lines line ram zero_line)
      | inr some ↦
          not-equal 99 109 (omega arith) (ap (λ rows. get_or (head rows).word 0 0) (e ∙ tail-some lines line ram some))
    ]

-- and none a line's before the first of them
pub no-line : (lines line : ℕ) (ram words : List ℕ) (early : ℕ) (rest : List Row) → early < line
    → row (codes "mem") (early ∷ words) ∷ rest ≡ tail_rows lines line ram → ⊥
unfolding mem_rows
no-line zero line ram words early rest less e =
    not-equal 101 109 (omega arith) (sym (ap (λ rows. get_or (head rows).word 0 0) e))
no-line (suc lines) line ram words early rest less e =
    elim (either (all_zero (take 8 ram))) [
      | inl zero_line ↦
          no-line lines (line + 1) (drop 8 ram) words early rest (omega arith) (e ∙ tail-none lines line ram zero_line)
      | inr some ↦
          let same : early ≡ line = ap (λ rows. get_or (head rows).numbers 0 0) (e ∙ tail-some lines line ram some) in
          omega arith
    ]

zeros-alike : (xs ys : List ℕ) → length xs ≡ length ys → all_zero xs ≡ true → all_zero ys ≡ true → xs ≡ ys
unfolding all_zero
zeros-alike [] [] long zero_x zero_y = refl
zeros-alike [] (y ∷ ys) long zero_x zero_y = absurd (omega arith)
zeros-alike (x ∷ xs) [] long zero_x zero_y = absurd (omega arith)
zeros-alike (x ∷ xs) (y ∷ ys) long zero_x zero_y =
    let in_x = and_parts (eqb x 0) (all_zero xs) zero_x in
    let in_y = and_parts (eqb y 0) (all_zero ys) zero_y in
    let head_x = eqb-true x 0 in_x.0 in
    let head_y = eqb-true y 0 in_y.0 in
    let rest = zeros-alike xs ys (omega arith) in_x.1 in_y.1 in
    let heads : x ≡ y = head_x ∙ sym head_y in
    λ i. heads i ∷ rest i

-- a list in its first eight and the others
halves-alike : (xs ys : List ℕ) → take 8 xs ≡ take 8 ys → drop 8 xs ≡ drop 8 ys → xs ≡ ys
halves-alike xs ys first rest = sym (take-append-drop 8 xs) ∙ (λ i. first i ++ rest i) ∙ take-append-drop 8 ys

empty : (xs : List ℕ) → length xs ≡ 0 → xs ≡ []
empty [] long = refl
empty (x ∷ xs) long = absurd (omega arith)

pub ram-alike : (lines line : ℕ) (xs ys : List ℕ) → length xs ≡ 8 * lines → length ys ≡ 8 * lines
    → tail_rows lines line xs ≡ tail_rows lines line ys → xs ≡ ys
ram-alike zero line xs ys long_x long_y e = empty xs (omega arith) ∙ sym (empty ys (omega arith))
ram-alike (suc lines) line xs ys long_x long_y e =
    let more_x : length (drop 8 xs) ≡ 8 * lines = let l = length-drop 8 xs in omega arith in
    let more_y : length (drop 8 ys) ≡ 8 * lines = let l = length-drop 8 ys in omega arith in
    let eights : length (take 8 xs) ≡ length (take 8 ys) =
    length-take-le 8 xs (omega arith) ∙ sym (length-take-le 8 ys (omega arith)) in
    elim (either (all_zero (take 8 xs))) [
      | inl in_x ↦
          elim (either (all_zero (take 8 ys))) [
            | inl in_y ↦
                halves-alike xs ys (zeros-alike (take 8 xs) (take 8 ys) eights in_x in_y)
                (ram-alike lines (line + 1) (drop 8 xs) (drop 8 ys) more_x more_y
                (sym (tail-none lines line xs in_x) ∙ e ∙ tail-none lines line ys in_y))
            | inr in_y ↦
                absurd (no-line lines (line + 1) (drop 8 xs) (take 8 ys) line (tail_rows lines (line + 1) (drop 8 ys)) (omega arith)
                (sym (tail-some lines line ys in_y) ∙ sym e ∙ tail-none lines line xs in_x))
          ]
      | inr in_x ↦
          elim (either (all_zero (take 8 ys))) [
            | inl in_y ↦
                absurd (no-line lines (line + 1) (drop 8 ys) (take 8 xs) line (tail_rows lines (line + 1) (drop 8 xs)) (omega arith)
                (sym (tail-some lines line xs in_x) ∙ e ∙ tail-none lines line ys in_y))
            | inr in_y ↦
                let both = sym (tail-some lines line xs in_x) ∙ e ∙ tail-some lines line ys in_y in
                let first : take 8 xs ≡ take 8 ys = ap (λ rows. drop 1 (head rows).numbers) both in
                let rest : tail_rows lines (line + 1) (drop 8 xs) ≡ tail_rows lines (line + 1) (drop 8 ys) = ap (drop 1) both in
                halves-alike xs ys first (ram-alike lines (line + 1) (drop 8 xs) (drop 8 ys) more_x more_y rest)
          ]
    ]

-- ---- one machine

cores-alike : (core : ℕ) (xs ys : List CoreState) (la lb : ℕ) (ra rb : List ℕ) → All CoreFits xs → All CoreFits ys
    → core_rows core xs ++ tail_rows la 0 ra ≡ core_rows core ys ++ tail_rows lb 0 rb
    → (map fresh xs ≡ map fresh ys) × (tail_rows la 0 ra ≡ tail_rows lb 0 rb)
unfolding core_rows
cores-alike core [] [] la lb ra rb fits_x fits_y e = (refl, e)
cores-alike core [] (y ∷ ys) la lb ra rb fits_x fits_y e =
    absurd (no-core la 0 ra (core_numbers core y) (core_rows (core + 1) ys ++ tail_rows lb 0 rb) (sym e))
cores-alike core (x ∷ xs) [] la lb ra rb fits_x fits_y e =
    absurd (no-core lb 0 rb (core_numbers core x) (core_rows (core + 1) xs ++ tail_rows la 0 ra) e)
cores-alike core (x ∷ xs) (y ∷ ys) la lb ra rb fits_x fits_y e =
    let numbers : core_numbers core x ≡ core_numbers core y = ap (λ rows. (head rows).numbers) e in
    let others : core_rows (core + 1) xs ++ tail_rows la 0 ra ≡ core_rows (core + 1) ys ++ tail_rows lb 0 rb = ap (drop 1) e in
    let first = core-alike core x y (fits_x 0 x (omega arith)) (fits_y 0 y (omega arith)) numbers in
    let rest = cores-alike (core + 1) xs ys la lb ra rb (All-tail CoreFits x xs fits_x) (All-tail CoreFits y ys fits_y) others in
    (λ i. first i ∷ rest.0 i, rest.1)

pub machines-alike : MachinesAreAlike
unfolding plain_rows ram_rows
machines-alike a b s t has_a has_b long e =
    let rows : plain_rows a s ≡ plain_rows b t = one-text (plain_rows a s) (plain_rows b t) (rows-fit a s has_a) (rows-fit b t has_b) e in
    let la = length a.ram / 8 in
    let lb = length b.ram / 8 in
    let same : s ≡ t = ap (λ rs. get_or (head (drop 1 rs)).numbers 0 0) rows in
    let others : core_rows 0 a.cores ++ tail_rows la 0 a.ram ≡ core_rows 0 b.cores ++ tail_rows lb 0 b.ram = ap (drop 2) rows in
    let parts = cores-alike 0 a.cores b.cores la lb a.ram b.ram has_a.cores has_b.cores others in
    let lines : la ≡ lb = ap (λ n. n / 8) long in
    let ram = subst (λ (n : ℕ). tail_rows la 0 a.ram ≡ tail_rows n 0 b.ram) (sym lines) parts.1 in
    (same, ram-alike la 0 a.ram b.ram (sym has_a.lines) (sym has_b.lines ∙ ap (λ n. 8 * n) (sym lines)) ram, parts.0)
