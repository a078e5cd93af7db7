-- The words so far are stored.
use Rattle.bus_tcc.proofs.Stores.{Stored}
use Rattle.bus_tcc.proofs.storing.store_line.Given as goal

abbrev pub invariant-loop-k : goal.invariant-loop-k
invariant-loop-k l = Stored l.fn.line l.k l.fn.ram l.ram
