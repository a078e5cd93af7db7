-- What other crates may cite.
pub use Rattle.row_text.proofs.Texts.{one-text_of_words}
pub use Rattle.row_text.proofs.Numbers.{decimal-above, number-text, numeral_of, one-number}
pub use Rattle.row_text.proofs.Fields.{all-word-bytes, is-word, later-all}
pub use Rattle.row_text.proofs.Texts.{one-row, one-text, row-parts}
