-- The lines of the orders so far are written.
use Rattle.std.proofs.Common.{◌≡◌, ◌++◌, map, string_bytes, take}
use Rattle.std.specs.List.{flat_map}
use Rattle.rv_plain.specs.PlainState.{order_of}
use Rattle.text_outcomes.specs.Lines.{order_line}
use Rattle.text_outcomes.proofs.lines.push_orders.Given as goal

abbrev pub invariant-loop-order : goal.invariant-loop-order
invariant-loop-order l =
    string_bytes l.text ≡ string_bytes l.fn.text ++ flat_map order_line (map order_of (take l.order-index l.orders))
