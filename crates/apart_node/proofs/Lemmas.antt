-- What other crates may cite: new ports in their places, a log over more messages, and stamps that rise.
pub use Rattle.apart_node.proofs.Porting.Placed.{placed-between}
pub use Rattle.apart_node.proofs.Running.Stored.{Includes, came-more, get-behind, log-filled_more, stored-more}
