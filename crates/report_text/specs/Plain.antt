-- What a report shows of the plain machine.
use Rattle.std.specs.Prelude.{ℕ, List, map}
use Rattle.std.specs.List.{range_with_len}
use Rattle.tcc_base.specs.declared.access.Commit.{Commit}
use Rattle.rules_program.specs.Plain.{Plain, PlainCore}
use Rattle.report_text.specs.Shown.{Shown, ShownCore}

abbrev pub shown_core : PlainCore → ShownCore
shown_core c = record { ended = c.ended; pc = c.local.pc; regs = c.local.regs; console = c.console }

-- the first `cores` cores, and `count` words from the address `base` on
abbrev pub shown_plain : (cores base count : ℕ) → (loaded : ℕ → ℕ) → List Commit → Plain → Shown
shown_plain cores base count loaded commits m = record {
  commits = commits;
  cores = map (λ core. shown_core (m.cores core)) (range_with_len 0 cores);
  base = base;
  count = count;
  ram = m.ram;
  loaded = loaded;
}
