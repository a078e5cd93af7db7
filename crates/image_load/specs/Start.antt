-- The start of every machine: memory, code and entries as a Config and its images give them.
use Rattle.std.specs.Prelude.{ℕ, ◌+◌, ◌*◌, ◌/◌, ◌%◌, ◌^◌, nat_lt, Bool, if◌then◌else◌, List, length, map, slice_index, Option, Some, None}
use Rattle.std.specs.List.{flat_map}
use Rattle.tcc_base.specs.Settings.{Settings}
use Rattle.image_elf.specs.declared.image.Image.{Image}
use Rattle.image_elf.specs.declared.image.Segment.{Segment}
use Rattle.image_load.specs.Memory.{byte_at, is_code, word_of, all_four}

-- `word` by its number, `fetch` by an address and `entry` by a core's number. A fetch of which any of the four bytes lies
-- outside all executable segments gives nothing.
pub record Start : Type 0 where
  pub settings : Settings
  pub word : ℕ → ℕ
  pub fetch : ℕ → Option ℕ
  pub entry : ℕ → ℕ

-- RAM's words at the start, 32 bits of each, with zeros past its end
unfoldable pub first_ram : Start → ℕ → ℕ
first_ram s w = if nat_lt w (s.settings.ram / 4) then s.word w % 2 ^ 32 else 0

abbrev pub segments_of : List Image → List Segment
segments_of images = flat_map (λ image. image.segments) images

abbrev pub entries_of : List Image → List ℕ
entries_of images = map (λ image. image.entry) images

-- the entry of a core: cores take the images in turn
abbrev pub entry_of : List ℕ → ℕ → ℕ
entry_of entries core = slice_index entries (core % length entries)

abbrev pub fetch_of : (ℕ → ℕ) → (ℕ → Bool) → ℕ → Option ℕ
fetch_of byte code pc = if all_four code pc then Some (word_of byte pc) else None

unfoldable pub start : Settings → List Image → Start
start settings images = record {
  settings = settings;
  word = λ w. word_of (byte_at (segments_of images)) (settings.base + 4 * w);
  fetch = fetch_of (byte_at (segments_of images)) (is_code (segments_of images));
  entry = entry_of (entries_of images);
}
