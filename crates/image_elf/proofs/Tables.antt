-- Walks along a table of program headers: what the first of the headers that are left adds to tests and segments.
use Rattle.std.proofs.Common.{◌≡◌, ℕ, ◌+◌, ◌-◌, ◌<◌, List, [], ◌∷◌, ◌++◌, Some, None, arith, refl, ap, ◌∙◌, suc}
use Rattle.std.specs.List.{range_with_len, cons_option}
use Rattle.image_elf.specs.Elf.{e_phnum, header_of, segment_of, segments_from}
use Rattle.image_elf.specs.Tests.{Test, first_fault, identity_tests, table_tests, segment_tests, segments_tests, tests}
use Rattle.image_elf.specs.declared.fault.ElfFault.{ElfFault}

-- the first of the numbers from i up to n
range_with_len-left : (i n : ℕ) → i < n → range_with_len i (n - i) ≡ i ∷ range_with_len (i + 1) (n - (i + 1))
range_with_len-left i n below =
    let e : n - i ≡ suc (n - (i + 1)) = omega arith in ap (range_with_len i) e

pub first_fault-append : (xs ys : List Test) → first_fault xs ≡ None → first_fault (xs ++ ys) ≡ first_fault ys
first_fault-append [] ys passed = refl
first_fault-append (x ∷ xs) ys passed = grind (arith, first_fault-append xs ys)

pub first_fault-append_failed : (xs ys : List Test) (fault : ElfFault) → first_fault xs ≡ Some fault → first_fault (xs ++ ys) ≡ Some fault
first_fault-append_failed [] ys fault failed = cc
first_fault-append_failed (x ∷ xs) ys fault failed = grind (arith, first_fault-append_failed xs ys fault)

-- a header that passes its tests
pub segments_tests-passed : (file : List ℕ) (i n : ℕ) → i < n → first_fault (segment_tests file i (header_of file i)) ≡ None →
    first_fault (segments_tests file i (n - i)) ≡ first_fault (segments_tests file (i + 1) (n - (i + 1)))
segments_tests-passed file i n below passed =
    rw (range_with_len-left i n below)
    (first_fault-append (segment_tests file i (header_of file i)) (segments_tests file (i + 1) (n - (i + 1))) passed)

-- a header that fails one
pub segments_tests-failed : (file : List ℕ) (i n : ℕ) (fault : ElfFault) → i < n
    → first_fault (segment_tests file i (header_of file i)) ≡ Some fault →
    first_fault (segments_tests file i (n - i)) ≡ Some fault
segments_tests-failed file i n fault below failed =
    rw (range_with_len-left i n below)
    (first_fault-append_failed (segment_tests file i (header_of file i)) (segments_tests file (i + 1) (n - (i + 1))) fault failed)

-- the segment of a header
pub segments_from-left : (file : List ℕ) (i n : ℕ) → i < n →
    segments_from file i (n - i) ≡ cons_option (segment_of file i (header_of file i)) (segments_from file (i + 1) (n - (i + 1)))
segments_from-left file i n below = rw (range_with_len-left i n below)

-- all tests, where those of the ELF header hold
pub tests-headers : (file : List ℕ) → first_fault (identity_tests file) ≡ None → first_fault (table_tests file) ≡ None →
    first_fault (tests file) ≡ first_fault (segments_tests file 0 (e_phnum file))
tests-headers file identity table =
    first_fault-append (identity_tests file) (table_tests file ++ segments_tests file 0 (e_phnum file)) identity
    ∙ first_fault-append (table_tests file) (segments_tests file 0 (e_phnum file)) table
