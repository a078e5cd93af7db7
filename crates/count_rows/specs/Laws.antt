-- A text stands for one counts.
use Rattle.std.specs.Prelude.{◌≡◌}
use Rattle.watch_count.specs.Counts.{Counts}
use Rattle.count_rows.specs.Rows.{counts_text}

-- Counts that have the same text have the same numbers.
abbrev pub TextsTellCountsApart : Type 0
TextsTellCountsApart = (c d : Counts) → counts_text c ≡ counts_text d → c ≡ d
