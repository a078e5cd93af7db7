-- A filled RAM is the start: words, fetches and entries are those of the images.
use Rattle.std.proofs.Common.{◌≡◌, ℕ, ◌+◌, ◌-◌, ◌*◌, ◌∙◌, Bool, true, false, List, slice_index, Some, None, ap, refl, arith, inl, inr}
use Rattle.std.proofs.Common.{if◌then◌else◌}
use Rattle.std.proofs.lemmas.Bool.{cases_lt, lt-leb, le-leb}
use Rattle.tcc_base.specs.Settings.{Settings}
use Rattle.image_elf.specs.declared.image.Image.{Image}
use Rattle.image_elf.specs.declared.image.Segment.{Segment}
use Rattle.image_load.specs.Memory.{byte_at, is_code, word_of, all_four}
use Rattle.image_load.specs.Start.{segments_of, entries_of, entry_of, fetch_of, start}
use Rattle.image_load.specs.Contents.{code_place, word_at_place, started}
use Rattle.image_load.specs.Filled.{IsFilled}
use Rattle.image_load.proofs.Memory.{all_four-from_base, all_four-below}

word_of-filled : (base : ℕ) (bytes : List ℕ) (taken code : List Bool) (xs : List Segment) (place addr : ℕ) →
    IsFilled base bytes taken code xs → base + place ≡ addr → word_of (slice_index bytes) place ≡ word_of (byte_at xs) addr
unfolding word_of
word_of-filled base bytes taken code xs place addr filled here =
    let b0 : slice_index bytes place ≡ byte_at xs addr = filled.byte place ∙ ap (byte_at xs) here in
    let b1 = at 1 in
    let b2 = at 2 in
    let b3 = at 3 in
    rw (b0, b1, b2, b3)
  where
    at : (j : ℕ) → slice_index bytes (place + j) ≡ byte_at xs (addr + j)
    at j = let there : base + (place + j) ≡ addr + j = omega arith in filled.byte (place + j) ∙ ap (byte_at xs) there

fetch_of-filled : (base : ℕ) (bytes : List ℕ) (taken code : List Bool) (xs : List Segment) (pc : ℕ) →
    IsFilled base bytes taken code xs → word_at_place bytes (code_place base code pc) ≡ fetch_of (byte_at xs) (is_code xs) pc
unfolding code_place
fetch_of-filled base bytes taken code xs pc filled =
    elim (cases_lt pc base) [
      | inl below ↦
          let before = lt-leb base pc below in
          let none = all_four-below base bytes taken code xs pc filled below in
          rw (before, none)
      | inr from ↦
          let after = le-leb base pc from in
          let same = all_four-from_base base bytes taken code xs pc filled from in
          rw (after, same) (by_cases (all_four (is_code xs) pc)
          (word_of-filled base bytes taken code xs (pc - base) pc filled (omega arith)))
    ]
  where
    by_cases : (b : Bool) → word_of (slice_index bytes) (pc - base) ≡ word_of (byte_at xs) pc →
        word_at_place bytes (if b then Some (pc - base) else None) ≡ (if b then Some (word_of (byte_at xs) pc) else None)
    by_cases true same = ap Some same
    by_cases false same = refl

pub started-filled : (settings : Settings) (bytes : List ℕ) (taken code : List Bool) (entries : List ℕ) (images : List Image) →
    IsFilled settings.base bytes taken code (segments_of images) → entries ≡ entries_of images →
    started (record { settings = settings; ram = bytes; code = code; entries = entries }) ≡ start settings images
unfolding started start
started-filled settings bytes taken code entries images filled same = λ i. record {
  settings = settings;
  word = λ w. word_of-filled settings.base bytes taken code (segments_of images) (4 * w) (settings.base + 4 * w) filled refl i;
  fetch = λ pc. fetch_of-filled settings.base bytes taken code (segments_of images) pc filled i;
  entry = λ core. entry_of (same i) core;
}
