-- Memory told by the words that differ from the start.
use Rattle.std.specs.Prelude.{ℕ, List, ◌+◌, ◌*◌, ◌/◌, ◌^◌, ◌<◌}
use Rattle.image_load.specs.Contents.{Contents, started}
use Rattle.report_text.specs.Lines.{mem_line}

-- the line of a word with its value
abbrev pub change_line : (base : ℕ) → ℕ × ℕ → List ℕ
change_line base change = mem_line (base + 4 * change.0) change.1

-- the words of RAM as it was loaded have 32 bits
abbrev pub AreWords : Contents → Type 0
AreWords l = (w : ℕ) → w < l.settings.ram / 4 → (started l).word w < 2 ^ 32
