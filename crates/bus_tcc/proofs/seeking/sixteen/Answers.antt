-- The low sixteen, where no other bit is set, else a quarter.
use Rattle.bus_tcc.proofs.Halves.{low-bits}
use Rattle.bus_tcc.proofs.seeking.sixteen.Goals as goal

pub returns-then-all-lt65536-clause-among : goal.returns-then-all-lt65536-clause-among
returns-then-all-lt65536-clause-among c = λ m k h. low-bits m k c.args.all c.if-all-lt65536.true h

pub returns-else-all-lt65536-clause-among : goal.returns-else-all-lt65536-clause-among
returns-else-all-lt65536-clause-among c = λ m k h. c.half-else-all-lt65536.ensures.among m k (c.half.ensures.among m k h)
