use Rattle.theorem_serial.proofs.Order.InsertedOrders.{orders_joined, order_inserted}
use Rattle.theorem_serial.proofs.transaction_inserted.Goals as goal

pub returns : goal.returns
returns c = record { without = orders_joined; with_it = order_inserted }
