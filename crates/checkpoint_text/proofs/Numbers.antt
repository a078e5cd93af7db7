-- The numbers of a row give back the value that they were made of.
use Rattle.std.proofs.Common.{◌≡◌, ℕ, ◌==◌, Bool, true, false, cond, List, [], ◌∷◌, ◌++◌, map, get_or, drop, length, Option, Some, None}
use Rattle.std.proofs.Common.{refl, sym, ap, ◌∙◌}
use Rattle.tcc_base.specs.declared.access.Load.{Load}
use Rattle.tcc_base.specs.declared.access.Size.{Size}
use Rattle.tcc_base.specs.declared.access.Size.TheVariants.{Byte, Half, Word}
use Rattle.tcc_base.specs.declared.access.Stored.{Stored}
use Rattle.rules_program.specs.Program.{Local}
use Rattle.checkpoint_text.specs.Numbers.{byte_numbers, flag, load_numbers, local_numbers, optional, size_number, stored_numbers}

-- what a list's numbers were made of
map-back : {A B : Type 0} (f : A → B) (from : B → A) → ((x : A) → from (f x) ≡ x) → (xs : List A) → map from (map f xs) ≡ xs
map-back f from back [] = refl
map-back f from back (x ∷ xs) = λ i. back x i ∷ map-back f from back xs i

pub map-same : {A B : Type 0} (f : A → B) (from : B → A) → ((x : A) → from (f x) ≡ x) → (xs ys : List A) → map f xs ≡ map f ys → xs ≡ ys
map-same f from back xs ys e = sym (map-back f from back xs) ∙ ap (map from) e ∙ map-back f from back ys

pub made-same : {A B : Type 0} (f : A → B) (from : B → A) → ((x : A) → from (f x) ≡ x) → (x y : A) → f x ≡ f y → x ≡ y
made-same f from back x y e = sym (back x) ∙ ap from e ∙ back y

pub rows-same : (xs ys : List (List ℕ)) → map (λ (row : List ℕ). row) xs ≡ map (λ (row : List ℕ). row) ys → xs ≡ ys
rows-same = map-same (λ (row : List ℕ). row) (λ (row : List ℕ). row) (λ row. refl)

-- two lists in a row, of which the first are equally long
pub parts-same : (xs ys a b : List ℕ) → length xs ≡ length ys → xs ++ a ≡ ys ++ b → (xs ≡ ys) × (a ≡ b)
parts-same [] [] a b long e = (refl, e)
parts-same [] (y ∷ ys) a b long e = absurd (cc)
parts-same (x ∷ xs) [] a b long e = absurd (cc)
parts-same (x ∷ xs) (y ∷ ys) a b long e =
    let head : x ≡ y = cc in
    let tail : xs ++ a ≡ ys ++ b = cc in
    let count : length xs ≡ length ys = cc in
    let rest = parts-same xs ys a b count tail in
    (λ i. head i ∷ rest.0 i, rest.1)

-- ---- flags, and what may be missing

abbrev pub flag_from : ℕ → Bool
flag_from n = n == 1

pub flag-back : (b : Bool) → flag_from (flag b) ≡ b
flag-back false = refl
flag-back true = refl

abbrev pub optional_from : (kind n : ℕ) → Option ℕ
optional_from kind n = cond (kind == 0) None (Some n)

-- ---- loads, stores and bytes

abbrev size_from : ℕ → Size
size_from n = cond (n == 1) Byte (cond (n == 2) Half Word)

size-back : (s : Size) → size_from (size_number s) ≡ s
size-back Byte = refl
size-back Half = refl
size-back Word = refl

abbrev load_from : List ℕ → Load
load_from ns = record { addr = get_or ns 0 0; size = size_from (get_or ns 1 0); value = get_or ns 2 0 }

pub loads-same : (xs ys : List Load) → map load_numbers xs ≡ map load_numbers ys → xs ≡ ys
loads-same = map-same load_numbers load_from (λ x i. record { addr = x.addr; size = size-back x.size i; value = x.value })

abbrev stored_from : List ℕ → Stored
stored_from ns = record { addr = get_or ns 0 0; size = size_from (get_or ns 1 0); value = get_or ns 2 0 }

pub stores-same : (xs ys : List Stored) → map stored_numbers xs ≡ map stored_numbers ys → xs ≡ ys
stores-same = map-same stored_numbers stored_from (λ x i. record { addr = x.addr; size = size-back x.size i; value = x.value })

pub bytes-same : (xs ys : List ℕ) → map byte_numbers xs ≡ map byte_numbers ys → xs ≡ ys
bytes-same = map-same byte_numbers (λ ns. get_or ns 0 0) (λ x. refl)

-- ---- pc, reservation and registers

abbrev local_from : List ℕ → Local
local_from ns = record { pc = get_or ns 0 0; reserved = optional_from (get_or ns 1 0) (get_or ns 2 0); regs = drop 3 ns }

local-back : (l : Local) → local_from (local_numbers l) ≡ l
unfolding local_numbers
local-back l = go l.reserved
  where
    go : (o : Option ℕ) → local_from (l.pc ∷ (optional o ++ l.regs)) ≡ record { pc = l.pc; reserved = o; regs = l.regs }
    go None = refl
    go (Some w) = refl

pub locals-same : (x y : Local) → local_numbers x ≡ local_numbers y → x ≡ y
locals-same = made-same local_numbers local_from local-back
