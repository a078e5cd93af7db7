-- The first two rows that are read, the others after them, and that a text which is refused is no machine's.
use Rattle.std.proofs.Common.{◌≡◌, ℕ, zero, suc, ◌*◌, ◌<◌, ◌^◌, true, List, [], ◌∷◌, ◌++◌, codes, length, slice_index}
use Rattle.std.proofs.Common.{Result, Ok, Err, IfErr, replicate, refl, sym, ap, ◌∙◌, subst, append_assoc, append-nil, arith}
use Rattle.std.specs.Result.{IsErrAnd}
use Rattle.row_text.specs.Reading.{HasNoRow, IsRowRead}
use Rattle.row_text.specs.Rows.{AreNumbers, IsWord, Row, row_text, rows_text}
use Rattle.row_text.proofs.Lemmas.{one-row}
use Rattle.rv_plain.specs.PlainState.{PlainState}
use Rattle.rv_plain.specs.declared.plain.CoreState.{CoreState}
use Rattle.schedule_text.specs.declared.fault.TextFault.{TextFault}
use Rattle.schedule_text.specs.declared.fault.TextFault.TheVariants.{Line, Memory}
use Rattle.serial_tool.specs.PlainTexts.{AreCoresRead, HasNoCores, HasNoHead, HasNoMachine, HasNoRam, Refuses, all_zero, core_rows}
use Rattle.serial_tool.specs.PlainTexts.{head_rows, plain_rows, plain_text, ram_rows, row}
use Rattle.serial_tool.proofs.Alike.{word-last, word-plain}
use Rattle.serial_tool.proofs.Written.{rows-append}
use Rattle.tcc_base.specs.Settings.{Settings}

-- ---- the first two rows

version_row : Row
version_row = row (codes "tcc-plain") (1 ∷ [])

abbrev last_row : (last : ℕ) → Row
last_row last = row (codes "last") (last ∷ [])

head-parts : (last : ℕ) (rest : List ℕ)
    → rows_text (head_rows last) ++ rest ≡ row_text version_row ++ (row_text (last_row last) ++ rest)
unfolding rows_text version_row
head-parts last rest =
    append_assoc (row_text version_row) (row_text (last_row last) ++ []) rest
    ∙ ap (λ (t : List ℕ). row_text version_row ++ (t ++ rest)) (append-nil (row_text (last_row last)))

one-number : (n : ℕ) → n < 2 ^ 64 → AreNumbers (n ∷ [])
one-number n fits zero d lt = fits
one-number n fits (suc k) d lt = absurd (omega arith)

version-word : IsWord version_row.word
unfolding version_row
version-word = word-plain

single : (xs : List ℕ) → length xs ≡ 1 → xs ≡ slice_index xs 0 ∷ []
single [] long = absurd (omega arith)
single (x ∷ []) long = refl
single (x ∷ y ∷ xs) long = absurd (omega arith)

pub no-version : (bytes : List ℕ) → HasNoRow bytes (codes "tcc-plain") 1 → HasNoHead bytes
unfolding version_row
no-version bytes none last rest fits e =
    none (1 ∷ []) (row_text (last_row last) ++ rest) refl
    (record { parts = e ∙ head-parts last rest; fit = one-number 1 (omega arith) })

-- what follows the first row
after-version : (bytes numbers after : List ℕ) (last : ℕ) (rest : List ℕ) → IsRowRead bytes (codes "tcc-plain") numbers after
    → bytes ≡ rows_text (head_rows last) ++ rest → (numbers ≡ 1 ∷ []) × (after ≡ row_text (last_row last) ++ rest)
unfolding version_row
after-version bytes numbers after last rest read e =
    let both = one-row (row (codes "tcc-plain") numbers) version_row after (row_text (last_row last) ++ rest)
    word-plain word-plain (sym read.parts ∙ e ∙ head-parts last rest) in
    (ap (λ r. r.numbers) both.0, both.1)

pub other-version : (bytes numbers after : List ℕ) → IsRowRead bytes (codes "tcc-plain") numbers after
    → (slice_index numbers 0 ≡ 1 → ⊥) → HasNoHead bytes
other-version bytes numbers after read other last rest fits e =
    other (ap (λ ns. slice_index ns 0) (after-version bytes numbers after last rest read e).0)

pub no-last : (bytes numbers after : List ℕ) → IsRowRead bytes (codes "tcc-plain") numbers after → HasNoRow after (codes "last") 1
    → HasNoHead bytes
no-last bytes numbers after read none last rest fits e =
    none (last ∷ []) rest refl
    (record { parts = (after-version bytes numbers after last rest read e).1; fit = one-number last fits })

pub head-read : (bytes first after second rest : List ℕ) → length first ≡ 1 → slice_index first 0 ≡ 1 → length second ≡ 1
    → IsRowRead bytes (codes "tcc-plain") first after → IsRowRead after (codes "last") second rest
    → bytes ≡ rows_text (head_rows (slice_index second 0)) ++ rest
unfolding version_row
head-read bytes first after second rest long one same read more =
    let numbers : first ≡ 1 ∷ [] = single first long ∙ ap (λ n. n ∷ []) one in
    let front : bytes ≡ row_text version_row ++ after =
    read.parts ∙ ap (λ ns. row_text (row (codes "tcc-plain") ns) ++ after) numbers in
    let back : after ≡ row_text (last_row (slice_index second 0)) ++ rest =
    more.parts ∙ ap (λ ns. row_text (row (codes "last") ns) ++ rest) (single second same) in
    front ∙ ap (λ (t : List ℕ). row_text version_row ++ t) back ∙ sym (head-parts (slice_index second 0) rest)

-- ---- a whole text

pub refuses-then : (f : TextFault) (P Q : Type 0) → (P → Q) → Refuses f P → Refuses f Q
refuses-then (Line k) P Q then_so p = then_so p
refuses-then Memory P Q then_so p = tt

pub plain-parts : (s : PlainState) (last : ℕ)
    → plain_text s last ≡ rows_text (head_rows last) ++ (rows_text (core_rows 0 s.cores) ++ rows_text (ram_rows s.ram))
unfolding plain_rows
plain-parts s last =
    rows-append (head_rows last) (core_rows 0 s.cores ++ ram_rows s.ram)
    ∙ ap (λ (t : List ℕ). rows_text (head_rows last) ++ t) (rows-append (core_rows 0 s.cores) (ram_rows s.ram))

pub no-head-machine : (bytes : List ℕ) (settings : Settings) → HasNoHead bytes → HasNoMachine bytes settings
no-head-machine bytes settings none s last has cores ram e =
    none last (rows_text (core_rows 0 s.cores) ++ rows_text (ram_rows s.ram)) has.tid (e ∙ plain-parts s last)

one-head : (bytes x y : List ℕ) (a b : ℕ) → bytes ≡ rows_text (head_rows a) ++ x
    → bytes ≡ rows_text (head_rows b) ++ y → x ≡ y
one-head bytes x y a b e f =
    let first = one-row version_row version_row (row_text (last_row a) ++ x) (row_text (last_row b) ++ y) version-word version-word
    (sym (head-parts a x) ∙ sym e ∙ f ∙ head-parts b y) in
    (one-row (last_row a) (last_row b) x y word-last word-last first.1).1

pub no-cores-machine : (bytes rest : List ℕ) (a : ℕ) (settings : Settings) → a < 2 ^ 64 → bytes ≡ rows_text (head_rows a) ++ rest
    → HasNoCores rest settings.cores → HasNoMachine bytes settings
no-cores-machine bytes rest a settings fits front none s last has cores ram e =
    none s.cores (rows_text (ram_rows s.ram)) cores has.cores
    (one-head bytes rest _ a last front (e ∙ plain-parts s last))

pub no-ram-machine : (bytes rest more : List ℕ) (a : ℕ) (found : List CoreState) (count : ℕ) (settings : Settings) → a < 2 ^ 64
    → bytes ≡ rows_text (head_rows a) ++ rest → AreCoresRead rest settings.cores found more → 4 * count ≡ settings.ram
    → HasNoRam more count → HasNoMachine bytes settings
no-ram-machine bytes rest more a found count settings fits front read size none s last has cores ram e =
    none s.ram (omega arith) has.words
    (read.one s.cores (rows_text (ram_rows s.ram)) cores has.cores
    (one-head bytes rest _ a last front (e ∙ plain-parts s last)))

pub text-read : (bytes rest more : List ℕ) (a : ℕ) (s : PlainState) (count : ℕ) → bytes ≡ rows_text (head_rows a) ++ rest
    → AreCoresRead rest count s.cores more → more ≡ rows_text (ram_rows s.ram) → bytes ≡ plain_text s a
text-read bytes rest more a s count front read back =
    front ∙ ap (λ (t : List ℕ). rows_text (head_rows a) ++ t)
    (read.parts ∙ ap (λ (t : List ℕ). rows_text (core_rows 0 s.cores) ++ t) back)
    ∙ sym (plain-parts s a)

-- ---- words of 0

pub zeros-zero : (n : ℕ) → all_zero (replicate n 0) ≡ true
unfolding all_zero
zeros-zero zero = refl
zeros-zero (suc n) = zeros-zero n

-- a fault is handed on
pub refused-by : {A : Type 0} (r : Result A TextFault) (fault : TextFault) (P : Type 0) → IsErrAnd r (λ e. e ≡ fault) → Refuses fault P
    → IfErr r (λ f. Refuses f P)
refused-by (Ok x) fault P is none = tt
refused-by (Err e) fault P is none = subst (λ (f : TextFault). Refuses f P) (sym is) none
