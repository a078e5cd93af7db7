-- RAM while segments are laid into it, by lists: its bytes, and for each whether it lies in a segment and in an executable one.
use Rattle.std.specs.Prelude.{ℕ, ◌+◌, ◌<◌, ◌≡◌, Bool, List, slice_index, None}
use Rattle.image_elf.specs.declared.image.Segment.{Segment}
use Rattle.image_load.specs.Memory.{segment_at, byte_at, is_held, is_code}
use Rattle.image_load.specs.Contents.{code_at}

-- the lists hold what the segments put into memory from the base on, and the segments nothing below it
pub record IsFilled (base : ℕ) (bytes : List ℕ) (taken code : List Bool) (segments : List Segment) : Type 0 where
  pub byte : (k : ℕ) → slice_index bytes k ≡ byte_at segments (base + k)
  pub held : (k : ℕ) → code_at taken k ≡ is_held segments (base + k)
  pub executable : (k : ℕ) → code_at code k ≡ is_code segments (base + k)
  pub from_base : (addr : ℕ) → addr < base → segment_at segments addr ≡ None
