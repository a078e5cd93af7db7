-- What other crates may cite: the text of a schedule, part by part.
pub use Rattle.schedule_text.proofs.Texts.{text_from_parts}
