-- What other crates may cite: what stands behind what was told before, piece by piece.
pub use Rattle.text_runs.proofs.Bytes.{put-cut, put-part, rose-later}
