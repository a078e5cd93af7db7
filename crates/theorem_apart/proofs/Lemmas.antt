-- What other crates may cite: the laws, and what code needs of them.
pub use Rattle.theorem_apart.proofs.Given.{next_few, riscv_acted, carried_in}
pub use Rattle.theorem_apart.proofs.Given.{joins_nodes, brought_to_dir, to_dir_from_core, to_vendor_from_core}
pub use Rattle.theorem_apart.proofs.Starts.{nodes_start, riscv_nodes_start}
pub use Rattle.theorem_apart.proofs.Stays.{nodes_stay, riscv_nodes_stay}
