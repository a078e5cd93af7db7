-- What other crates may cite: the laws, what keeps an attempt counted and what is sent inside memory, and what a machine's code needs of
-- them.
pub use Rattle.theorem_bounds.proofs.After.{bounded_after, riscv_bounded_after, granted_most, link_short}
pub use Rattle.theorem_bounds.proofs.AtHome.{LineOf, named as line-named, no-copy as back-no_copy}
pub use Rattle.theorem_bounds.proofs.Bounded.{kept_in_frames, runs_are_bounded}
pub use Rattle.theorem_bounds.proofs.CoreKeeps.{CoreKeeps, exec-keeps, evict-keeps, grant-keeps, back-keeps}
pub use Rattle.theorem_bounds.proofs.Counted.{finishes, marked_read, none, rolled, weak}
pub use Rattle.theorem_bounds.proofs.Ends.{Between, fits_out, fits_back}
pub use Rattle.theorem_bounds.proofs.Riscv.{riscv_runs_are_bounded}
unfoldable pub use Rattle.theorem_bounds.proofs.Outside.{is_inside}
pub use Rattle.theorem_bounds.proofs.Outside.{below, SendsInside, LinkInside, link-all, link-none, link-inside, sending-inside, sent-length}
pub use Rattle.theorem_bounds.proofs.Steps.{Within, step-keeps}
