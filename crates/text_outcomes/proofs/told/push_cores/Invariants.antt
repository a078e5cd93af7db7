-- What is written, with the lines of the cores that are left, is the text of all.
use Rattle.std.proofs.Common.{◌≡◌, ◌++◌, map, string_bytes, drop}
use Rattle.report_text.specs.Text.{cores_text}
use Rattle.text_outcomes.specs.Told.{core_shown}
use Rattle.text_outcomes.proofs.told.push_cores.Given as goal

abbrev pub invariant-loop-number : goal.invariant-loop-number
invariant-loop-number l =
    string_bytes l.text ++ cores_text l.number (map core_shown (drop l.number l.cores))
    ≡ string_bytes l.fn.text ++ cores_text 0 (map core_shown l.cores)
