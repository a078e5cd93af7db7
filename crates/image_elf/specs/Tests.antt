-- What an ELF file must be to be an image, as a table of tests with the fault of each, in the order in which they count.
use Rattle.std.specs.Prelude.{ℕ, ◌+◌, ◌*◌, ◌%◌, ◌^◌, Bool, not, ◌||◌, ◌&&◌, ◌==◌, nat_eq, nat_le, if◌then◌else◌, List, [], ◌∷◌, ◌++◌}
use Rattle.std.specs.Prelude.{length, slice_index, Option, Some, None}
use Rattle.std.specs.List.{range_with_len, flat_map, starts_with}
use Rattle.image_elf.specs.Elf.{e_type, e_machine, e_version, e_phoff, e_flags, e_phentsize, e_phnum, header_of, is_loaded, is_dynamic}
use Rattle.image_elf.specs.declared.header.ProgramHeader.{ProgramHeader}
use Rattle.image_elf.specs.declared.fault.ElfFault.{ElfFault}
use Rattle.image_elf.specs.declared.fault.ElfFault.TheVariants.{Short, NotElf, NotRv32, Kind, Compressed, Dynamic, BadSegment}

-- a test, and the fault of a file that fails it
pub record Test : Type 0 where
  pub holds : Bool
  pub fault : ElfFault

infix 5 ◌else_fault◌
abbrev pub ◌else_fault◌ : Bool → ElfFault → Test
holds else_fault fault = record { holds = holds; fault = fault }

-- the fault of the first test that fails
abbrev pub first_fault : List Test → Option ElfFault
first_fault [] = None
first_fault (test ∷ tests) = if test.holds then first_fault tests else Some test.fault

-- the magic number 7f 45 4c 46
abbrev pub magic : List ℕ
magic = 127 ∷ 69 ∷ 76 ∷ 70 ∷ []

-- ELFCLASS32, ELFDATA2LSB and EV_CURRENT in e_ident, EM_RISCV, and EV_CURRENT again
abbrev pub identity_tests : List ℕ → List Test
identity_tests file =
    (nat_le 52 (length file) else_fault Short 52)
    ∷ (starts_with nat_eq file magic else_fault NotElf)
    ∷ ((slice_index file 4 == 1) else_fault NotRv32 4)
    ∷ ((slice_index file 5 == 1) else_fault NotRv32 5)
    ∷ ((slice_index file 6 == 1) else_fault NotRv32 6)
    ∷ ((e_machine file == 243) else_fault NotRv32 18)
    ∷ ((e_version file == 1) else_fault NotRv32 20)
    ∷ []

-- ET_EXEC, no EF_RISCV_RVC, and a table of program headers of 32 bytes each that lies in the file, if there is one
abbrev pub table_tests : List ℕ → List Test
table_tests file =
    ((e_type file == 2) else_fault Kind)
    ∷ ((e_flags file % 2 == 0) else_fault Compressed)
    ∷ ((e_phnum file == 0 || e_phentsize file == 32) else_fault NotRv32 42)
    ∷ ((e_phnum file == 0 || nat_le (e_phoff file + 32 * e_phnum file) (length file))
    else_fault Short (e_phoff file + 32 * e_phnum file))
    ∷ []

-- a program header: nothing is linked at run time, and what is loaded ends within memory and lies in the file
abbrev pub segment_tests : List ℕ → ℕ → ProgramHeader → List Test
segment_tests file index header =
    (not (is_dynamic header) else_fault Dynamic)
    ∷ ((not (is_loaded header)
    || (nat_le header.p_filesz header.p_memsz && nat_le (header.p_vaddr + header.p_memsz) (2 ^ 32)))
    else_fault BadSegment index)
    ∷ ((not (is_loaded header) || header.p_filesz == 0 || nat_le (header.p_offset + header.p_filesz) (length file))
    else_fault Short (header.p_offset + header.p_filesz))
    ∷ []

-- the tests of n program headers, from that index on
abbrev pub segments_tests : List ℕ → ℕ → ℕ → List Test
segments_tests file index n = flat_map (λ i. segment_tests file i (header_of file i)) (range_with_len index n)

-- all tests, in order
abbrev pub tests : List ℕ → List Test
tests file = identity_tests file ++ (table_tests file ++ segments_tests file 0 (e_phnum file))
