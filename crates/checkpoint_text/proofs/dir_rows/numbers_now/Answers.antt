-- The record and the words of the line.
use Rattle.std.proofs.Common.{◌∷◌, ◌++◌, ◌∙◌}
use Rattle.directory.specs.Data.{dir_of}
use Rattle.checkpoint_text.specs.Directories.{line_numbers, record_numbers}
use Rattle.checkpoint_text.proofs.dir_rows.numbers_now.Goals as goal

pub returns : goal.returns
unfolding dir_of line_numbers
returns c =
    c.line_numbers.ensures ∙ (λ i. c.args.line.0 ∷ (record_numbers (c.record.ensures i) ++ c.line_words.ensures (λ w. 0) i))
