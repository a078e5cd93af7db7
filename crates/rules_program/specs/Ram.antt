-- Flat memory: the value of each word by its number, little-endian (RISC-V Unprivileged ISA, 1.4 and 2.6). An access of
-- one, two or four bytes at a multiple of its size lies in one word.
use Rattle.std.specs.Prelude.{ℕ, List, slice_index, ◌+◌, ◌-◌, ◌*◌, ◌/◌, ◌%◌, ◌^◌}
use Rattle.tcc_base.specs.Bytes.{bytes_of}
use Rattle.tcc_base.specs.Put.{put}
use Rattle.tcc_base.specs.declared.access.Size.{Size}

-- the number of the word in which an address lies
unfoldable pub word_of : (base addr : ℕ) → ℕ
word_of base addr = (addr - base) / 4

-- what the byte at an address counts for in its word
unfoldable pub unit_of : (addr : ℕ) → ℕ
unit_of addr = 256 ^ (addr % 4)

-- the bytes of a word from an address on
unfoldable pub part : (word addr : ℕ) → Size → ℕ
part word addr size = (word / unit_of addr) % 256 ^ bytes_of size

-- a word in which the bytes from an address on are replaced
unfoldable pub patched : (word addr : ℕ) → Size → (value : ℕ) → ℕ
patched word addr size value =
    let above = unit_of addr * 256 ^ bytes_of size in
    (word % unit_of addr) + (value % 256 ^ bytes_of size) * unit_of addr + (word / above) * above

unfoldable pub loaded : (base : ℕ) → (ram : ℕ → ℕ) → (addr : ℕ) → Size → ℕ
loaded base ram addr size = part (ram (word_of base addr)) addr size

unfoldable pub stored : (base : ℕ) → (ram : ℕ → ℕ) → (addr : ℕ) → Size → (value : ℕ) → ℕ → ℕ
stored base ram addr size value = put ram (word_of base addr) (patched (ram (word_of base addr)) addr size value)

-- the memory that a list of words holds
unfoldable pub flat : List ℕ → ℕ → ℕ
flat words w = slice_index words w
