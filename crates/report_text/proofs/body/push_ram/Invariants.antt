-- The lines of the words so far are written.
use Rattle.std.proofs.Common.{◌≡◌, ◌++◌, ◌*◌, string_bytes}
use Rattle.std.specs.List.{flat_map, range_with_len}
use Rattle.report_text.specs.Text.{word_text}
use Rattle.report_text.proofs.body.push_ram.Given as goal

abbrev pub invariant-loop-line : goal.invariant-loop-line
invariant-loop-line g l =
    string_bytes l.text
    ≡ string_bytes l.fn.text
    ++ flat_map (word_text l.base (g.R.ShownWords.words l.ram) (g.L.ShownWords.words l.loaded)) (range_with_len 0 (8 * l.line))
