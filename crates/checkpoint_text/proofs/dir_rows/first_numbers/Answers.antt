-- A blank record and the loaded words.
use Rattle.std.proofs.Common.{◌∷◌, ◌++◌, ◌∙◌}
use Rattle.checkpoint_text.specs.Directories.{first_line, record_numbers}
use Rattle.checkpoint_text.proofs.dir_rows.first_numbers.Goals as goal

pub returns : goal.returns
unfolding first_line
returns c =
    c.line_numbers.ensures ∙ (λ i. c.args.line.0 ∷ (record_numbers (c.blank.ensures i) ++ c.loaded_words.ensures i))
