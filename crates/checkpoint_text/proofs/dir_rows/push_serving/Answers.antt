-- The numbers of the row.
use Rattle.std.proofs.Common.{◌∷◌, ◌++◌, ◌∙◌, [], codes}
use Rattle.directory.specs.Data.{dir_of}
use Rattle.row_text.specs.Rows.{row_text}
use Rattle.checkpoint_text.proofs.dir_rows.push_serving.Goals as goal

pub returns : goal.returns
unfolding dir_of
returns c =
    c.in_ok-push_row.ensures
    ∙ (λ i. c.args.text.now ++ row_text (record {
      word = codes "directory";
      numbers = c.args.k ∷ c.serving.ensures (λ w. 0) i ∷ c.owed.ensures (λ w. 0) i ∷ [];
    }))
