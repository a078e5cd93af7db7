-- What segments put into memory, byte by byte. Segments that hold different bytes each decide theirs alone.
use Rattle.std.specs.Prelude.{ℕ, ◌+◌, ◌-◌, ◌*◌, Bool, false, ◌&&◌, nat_le, nat_lt, List, slice_index, Option, Some, None, is_some}
use Rattle.std.specs.List.{find}
use Rattle.image_elf.specs.declared.image.Segment.{Segment}

-- the segment holds the byte at the address
abbrev pub holds : Segment → ℕ → Bool
holds segment addr = nat_le segment.addr addr && nat_lt addr (segment.addr + segment.size)

-- the segment that holds the byte at an address
unfoldable pub segment_at : List Segment → ℕ → Option Segment
segment_at segments addr = find (λ segment. holds segment addr) segments

-- the byte of a segment at an address: zero after those that the file holds, and where there is no segment
abbrev pub byte_in : ℕ → Option Segment → ℕ
byte_in addr None = 0
byte_in addr (Some segment) = slice_index segment.bytes (addr - segment.addr)

abbrev pub byte_at : List Segment → ℕ → ℕ
byte_at segments addr = byte_in addr (segment_at segments addr)

-- the byte at an address lies in a segment, and in an executable one
abbrev pub is_held : List Segment → ℕ → Bool
is_held segments addr = is_some (segment_at segments addr)

abbrev pub executes : Option Segment → Bool
executes None = false
executes (Some segment) = segment.exec

abbrev pub is_code : List Segment → ℕ → Bool
is_code segments addr = executes (segment_at segments addr)

-- the little-endian word of four bytes of memory (RISC-V Unprivileged ISA, 1.4)
unfoldable pub word_of : (ℕ → ℕ) → ℕ → ℕ
word_of byte addr = byte addr + 256 * byte (addr + 1) + 65536 * byte (addr + 2) + 16777216 * byte (addr + 3)

-- all four bytes from an address on pass
unfoldable pub all_four : (ℕ → Bool) → ℕ → Bool
all_four test addr = test addr && test (addr + 1) && test (addr + 2) && test (addr + 3)
