-- Segments that share a byte.
use Rattle.std.specs.Prelude.{ℕ, ◌+◌, Bool, nat_lt, max, min, List, map}
use Rattle.image_elf.specs.declared.image.Segment.{Segment}
use Rattle.image_load.specs.declared.extent.Extent.{Extent}

-- a segment that was gone through, with the number of its image
pub record Laid : Type 0 where
  pub image : ℕ
  pub segment : Segment

abbrev pub laid : ℕ → List Segment → List Laid
laid image segments = map (λ segment. record { image = image; segment = segment }) segments

abbrev pub segments_laid : List Laid → List Segment
segments_laid earlier = map (λ l. l.segment) earlier

-- where a segment lies, and which it is
abbrev pub extent_of : ℕ → Segment → Extent
extent_of image segment =
    record { image = image; segment = segment.index; addr = segment.addr; size = segment.size }

abbrev pub extents_laid : List Laid → List Extent
extents_laid earlier = map (λ l. extent_of l.image l.segment) earlier

-- some byte lies in both: the later of the first bytes lies before the earlier of the ends
abbrev pub shares_byte : Extent → Extent → Bool
shares_byte a b = nat_lt (max a.addr b.addr) (min (a.addr + a.size) (b.addr + b.size))
