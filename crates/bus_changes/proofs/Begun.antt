-- The lists of records that are kept where a window begins, core by core, and the lines that tell them.
use Rattle.std.proofs.Common.{◌≡◌, ℕ, zero, suc, ◌+◌, ◌<◌, Bool, true, false, List, [], ◌∷◌, ◌++◌, length, map}
use Rattle.std.proofs.Common.{append-nil, nat_lt, refl, ap, sym, ◌∙◌, arith}
use Rattle.std.specs.Prelude.{get_or}
use Rattle.std.specs.List.{flat_map}
use Rattle.std.proofs.lemmas.Bool.Decides.{nat_tests}
use Rattle.std.proofs.Math.Seq.{get_or-append_seam}
use Rattle.std.proofs.lemmas.List.{get_or-map, get_or_append_left, length-append, length-map}
use Rattle.std.proofs.lemmas.List.Concat.{flat_map-append}
use Rattle.rules_maps.specs.Words.{those}
use Rattle.rules_tcc.specs.Seen.{numbers}
use Rattle.watch_state.specs.Plain.{record_of}
use Rattle.watch_state.specs.Records as plain
use Rattle.watch_state.specs.declared.records.Record.{Record}
use Rattle.watch_changes.specs.Changes.{Told, all_lines, all_told, change_line, change_lines}

-- of the cores below this number the records are kept, and their lines stand behind the text
pub record Begun (records : ℕ → List plain.Record) (n : ℕ) (lists : List (List Record)) (before now : List ℕ) : Type 0 where
  pub kept : map (map record_of) lists ≡ map records (numbers n)
  pub told : now ≡ before ++ flat_map (λ k. all_lines (records k)) (numbers n)

pub begun-none : (records : ℕ → List plain.Record) (text : List ℕ) → Begun records 0 [] text text
unfolding those
begun-none records text = record { kept = refl; told = sym (append-nil text) }

-- ---- all cores

length-numbers : (n : ℕ) → length (numbers n) ≡ n
unfolding those
length-numbers zero = refl
length-numbers (suc n) = let e = length-append (numbers n) (n ∷ []) in let h = length-numbers n in omega (arith, e, h)

number-at : (n k : ℕ) → k < n → get_or (numbers n) k 0 ≡ k
unfolding those
number-at zero k h = absurd (omega (arith, h))
number-at (suc n) k h = go (nat_lt k n) refl (λ less. number-at n k less)
  where
    go : (b : Bool) → nat_lt k n ≡ b → (k < n → get_or (numbers n) k 0 ≡ k) → get_or (numbers n ++ n ∷ []) k 0 ≡ k
    go true e earlier =
        let count = length-numbers n in
        let less : k < n = grind (arith, nat_tests) in
        get_or_append_left (numbers n) (n ∷ []) 0 k (omega (arith, count, less)) ∙ earlier less
    go false e earlier =
        let count = length-numbers n in
        let last : k ≡ n = grind (arith, nat_tests) in
        ap (λ j. get_or (numbers n ++ n ∷ []) j 0) (last ∙ sym count) ∙ get_or-append_seam (numbers n) n [] 0 ∙ sym last

-- a list for each
pub fits-all : (records : ℕ → List plain.Record) (lists : List (List Record)) (n : ℕ)
    → map (map record_of) lists ≡ map records (numbers n) → length lists ≡ n
fits-all records lists n e =
    sym (length-map lists (map record_of)) ∙ ap length e ∙ length-map (numbers n) records ∙ length-numbers n

pub kept-one : (records : ℕ → List plain.Record) (lists : List (List Record)) (n k : ℕ)
    → map (map record_of) lists ≡ map records (numbers n) → k < n → map record_of (get_or lists k []) ≡ records k
kept-one records lists n k e h =
    let many = fits-all records lists n e in
    let count = length-numbers n in
    sym (get_or-map (map record_of) lists k [] [] (omega (arith, many, h)))
    ∙ ap (λ ls. get_or ls k []) e
    ∙ get_or-map records (numbers n) k 0 [] (omega (arith, count, h))
    ∙ ap records (number-at n k h)

-- ---- the lines of all cores are those of all records

all-append : (rs ss : List plain.Record) → all_told (rs ++ ss) ≡ all_told rs ++ all_told ss
all-append [] ss = refl
all-append (r ∷ rs) ss = ap (λ cs. Told r ∷ cs) (all-append rs ss)

lines-append : (rs ss : List plain.Record) → all_lines (rs ++ ss) ≡ all_lines rs ++ all_lines ss
unfolding change_lines
lines-append rs ss = ap (flat_map change_line) (all-append rs ss) ∙ flat_map-append change_line (all_told rs) (all_told ss)

pub lines-flat : (records : ℕ → List plain.Record) (ns : List ℕ)
    → flat_map (λ c. all_lines (records c)) ns ≡ all_lines (flat_map records ns)
unfolding change_lines
lines-flat records [] = refl
lines-flat records (n ∷ ns) =
    ap (λ t. all_lines (records n) ++ t) (lines-flat records ns) ∙ sym (lines-append (records n) (flat_map records ns))
