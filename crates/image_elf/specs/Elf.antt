-- The fields of a 32-bit little-endian ELF file, by their names in the System V ABI (generic ABI 4.1, chapter 4, "ELF
-- Header", and chapter 5, "Program Header"), and the image that they describe.
use Rattle.std.specs.Prelude.{ℕ, ◌+◌, ◌*◌, ◌%◌, Bool, not, ◌&&◌, ◌||◌, ◌==◌, ◌≤◌, if◌then◌else◌, List, take, drop, length, All, Option}
use Rattle.std.specs.Prelude.{Some, None}
use Rattle.std.specs.List.{range_with_len, filter_map}
use Rattle.byteorder.specs.Endian.{little_number}
use Rattle.image_elf.specs.declared.header.ProgramHeader.{ProgramHeader}
use Rattle.image_elf.specs.declared.image.Segment.{Segment}
use Rattle.image_elf.specs.declared.image.Image.{Image}

-- the half word and the word at an offset
unfoldable pub half_at : List ℕ → ℕ → ℕ
half_at file at = little_number 2 (drop at file)

unfoldable pub word_at : List ℕ → ℕ → ℕ
word_at file at = little_number 4 (drop at file)

-- the ELF header
abbrev pub e_type : List ℕ → ℕ
e_type file = half_at file 16

abbrev pub e_machine : List ℕ → ℕ
e_machine file = half_at file 18

abbrev pub e_version : List ℕ → ℕ
e_version file = word_at file 20

abbrev pub e_entry : List ℕ → ℕ
e_entry file = word_at file 24

abbrev pub e_phoff : List ℕ → ℕ
e_phoff file = word_at file 28

abbrev pub e_flags : List ℕ → ℕ
e_flags file = word_at file 36

abbrev pub e_phentsize : List ℕ → ℕ
e_phentsize file = half_at file 42

abbrev pub e_phnum : List ℕ → ℕ
e_phnum file = half_at file 44

-- the program header at an offset, without p_paddr and p_align, which mean nothing to the machine
unfoldable pub header_at : List ℕ → ℕ → ProgramHeader
header_at file at = record {
  p_type = word_at file at;
  p_offset = word_at file (at + 4);
  p_vaddr = word_at file (at + 8);
  p_filesz = word_at file (at + 16);
  p_memsz = word_at file (at + 20);
  p_flags = word_at file (at + 24);
}

-- the program header of that index
abbrev pub header_of : List ℕ → ℕ → ProgramHeader
header_of file index = header_at file (e_phoff file + 32 * index)

-- PT_LOAD, PT_DYNAMIC and PT_INTERP
abbrev pub is_loaded : ProgramHeader → Bool
is_loaded header = header.p_type == 1

abbrev pub is_dynamic : ProgramHeader → Bool
is_dynamic header = header.p_type == 2 || header.p_type == 3

-- what a header's segment holds of the file: p_filesz bytes from p_offset on
abbrev pub contents_of : List ℕ → ProgramHeader → List ℕ
contents_of file header = take header.p_filesz (drop header.p_offset file)

-- the segment that a header describes, where it is loaded and isn't empty. It is executable by PF_X.
unfoldable pub segment_of : List ℕ → ℕ → ProgramHeader → Option Segment
segment_of file index header =
    if is_loaded header && not (header.p_memsz == 0)
    then Some (record {
      index = index;
      addr = header.p_vaddr;
      bytes = contents_of file header;
      size = header.p_memsz;
      exec = header.p_flags % 2 == 1;
    })
    else None

-- the segments of n headers, from that index on
abbrev pub segments_from : List ℕ → ℕ → ℕ → List Segment
segments_from file index n = filter_map (λ i. segment_of file i (header_of file i)) (range_with_len index n)

-- the image that a file describes
abbrev pub image_of : List ℕ → Image
image_of file = record { entry = e_entry file; segments = segments_from file 0 (e_phnum file) }

-- no segment of the image has more bytes than its size
abbrev pub IsWithinSizes : Image → Type 0
IsWithinSizes image = All (λ segment. length segment.bytes ≤ segment.size) image.segments
