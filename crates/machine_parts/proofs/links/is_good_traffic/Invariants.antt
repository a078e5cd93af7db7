-- The links of the cores so far.
use Rattle.std.proofs.Common.{◌<◌, ℕ}
use Rattle.machine_parts.specs.Links.{AreGoodLinks}
use Rattle.machine_parts.specs.Traffic.{traffic_of}
use Rattle.machine_parts.proofs.links.is_good_traffic.Given as goal

abbrev pub invariant-loop-c : goal.invariant-loop-c
invariant-loop-c l = (c : ℕ) → c < l.c → AreGoodLinks l.fn.config (traffic_of l.fn.flights l.fn.limits) c l.fn.config.dirs
