use Rattle.std.proofs.Common.{length}
use Rattle.serial_tool.specs.Lists.{lines_of}
use Rattle.serial_tool.proofs.Listing.{Before}
use Rattle.serial_tool.proofs.reading.read_orders.Given as goal

-- the lines so far list the orders so far
abbrev pub invariant-loop-i : goal.invariant-loop-i
invariant-loop-i l = Before l.config.cores (lines_of l.bytes) (length l.yielded) l.orders
