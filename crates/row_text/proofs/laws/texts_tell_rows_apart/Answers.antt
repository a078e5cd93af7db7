use Rattle.row_text.proofs.Texts.{one-text_of_words}
use Rattle.row_text.proofs.laws.texts_tell_rows_apart.Goals as goal

pub returns : goal.returns
returns c = one-text_of_words
