use Rattle.std.proofs.Common.{◌≡◌, ◌++◌, drop, map}
use Rattle.serial_tool.proofs.execution.orders_of.Given as goal

-- the orders so far and those to come are all
abbrev pub invariant-loop-one : goal.invariant-loop-one
invariant-loop-one l = l.orders ++ map (λ x. x.order) (drop l.one-index l.listed) ≡ map (λ x. x.order) l.listed
