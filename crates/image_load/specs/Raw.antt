-- Raw files as images: one executable segment each, laid into RAM one after the other, each from the first line's bound at
-- or after the end of the one before.
use Rattle.std.specs.Prelude.{ℕ, ◌+◌, ◌*◌, ◌/◌, Bool, true, ◌&&◌, nat_le, nat_lt, if◌then◌else◌, List, [], ◌∷◌, length, Option, Some, None}
use Rattle.tcc_base.specs.Settings.{Settings}
use Rattle.image_elf.specs.declared.image.Image.{Image}
use Rattle.image_load.specs.declared.fault.LoadFault.{LoadFault}
use Rattle.image_load.specs.declared.fault.LoadFault.TheVariants.{Outside}

-- the first multiple of 32 at or after an address
abbrev pub next_line : ℕ → ℕ
next_line addr = (addr + 31) / 32 * 32

-- a file that begins at the address, its entry at its first byte
abbrev pub raw_image : ℕ → List ℕ → Image
raw_image addr file = record {
  entry = addr;
  segments = record { index = 0; addr = addr; bytes = file; size = length file; exec = true } ∷ [];
}

unfoldable pub raw_images : ℕ → List (List ℕ) → List Image
raw_images addr [] = []
raw_images addr (file ∷ files) = raw_image addr file ∷ raw_images (next_line (addr + length file)) files

-- the file's first address and all its bytes lie in RAM; no file begins before it
abbrev pub fits : Settings → ℕ → List ℕ → Bool
fits settings addr file =
    nat_lt addr (settings.base + settings.ram) && nat_le (addr + length file) (settings.base + settings.ram)

-- the first file that doesn't fit, numbered from `number` on
unfoldable pub raw_fault : Settings → (number addr : ℕ) → List (List ℕ) → Option LoadFault
raw_fault settings number addr [] = None
raw_fault settings number addr (file ∷ files) =
    if fits settings addr file
    then raw_fault settings (number + 1) (next_line (addr + length file)) files
    else Some (Outside number 0)
