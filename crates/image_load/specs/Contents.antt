-- What a loaded memory holds, as plain data, and the start that it stands for.
use Rattle.std.specs.Prelude.{ℕ, ◌-◌, ◌*◌, Bool, false, ◌&&◌, nat_le, if◌then◌else◌, List, slice_index, slice_index_or, length, ◌≡◌, ◌≤◌}
use Rattle.std.specs.Prelude.{◌<◌, Option, Some, None}
use Rattle.tcc_base.specs.Settings.{Settings}
use Rattle.image_load.specs.Memory.{word_of, all_four}
use Rattle.image_load.specs.Start.{Start, entry_of}

-- the settings; the bytes of RAM from its base on, and for each whether it is code; the entry of each image
pub record Contents : Type 0 where
  pub settings : Settings
  pub ram : List ℕ
  pub code : List Bool
  pub entries : List ℕ

-- the byte and the mark at a place in RAM
abbrev pub code_at : List Bool → ℕ → Bool
code_at code place = slice_index_or code place false

-- the place in RAM of four bytes of code from an address on
unfoldable pub code_place : (base : ℕ) → List Bool → (addr : ℕ) → Option ℕ
code_place base code addr =
    if nat_le base addr && all_four (code_at code) (addr - base) then Some (addr - base) else None

abbrev pub word_at_place : List ℕ → Option ℕ → Option ℕ
word_at_place ram None = None
word_at_place ram (Some place) = Some (word_of (slice_index ram) place)

-- the start that a loaded memory stands for
unfoldable pub started : Contents → Start
started c = record {
  settings = c.settings;
  word = λ w. word_of (slice_index c.ram) (4 * w);
  fetch = λ pc. word_at_place c.ram (code_place c.settings.base c.code pc);
  entry = entry_of c.entries;
}

-- every byte of RAM has its mark, and there is an image
pub record IsSound (c : Contents) : Type 0 where
  pub marked : length c.code ≡ length c.ram
  pub whole : length c.ram ≡ c.settings.ram
  pub few : length c.entries ≤ 16
  pub some : 0 < length c.entries
