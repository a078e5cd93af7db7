-- What a report shows of an ending, whatever its memories are.
use Rattle.std.specs.Prelude.{ℕ}
use Rattle.report_text.specs.Shown.{Shown}
use Rattle.report_text.specs.declared.shown.Ending.{Ending}

-- `words` and `count` read the memory as it is, `old_words` the memory as it was loaded
abbrev pub shown_of : {R L : Type 0} → (words : R → ℕ → ℕ) → (count : R → ℕ) → (old_words : L → ℕ → ℕ) → Ending R L → Shown
shown_of words count old_words e = record {
  commits = e.commits.now;
  cores = e.cores.now;
  base = e.base;
  count = count e.ram.now;
  ram = words e.ram.now;
  loaded = old_words e.loaded.now;
}
