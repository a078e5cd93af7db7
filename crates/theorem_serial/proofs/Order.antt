-- The serial order: the transaction of each commit is inserted at its TID.
unfoldable pub use InsertedOrders.*
unfoldable pub use SerialParts.*
unfoldable pub use SerialSteps.*
pub mod InsertedOrders
pub mod SerialParts
pub mod SerialSteps
