-- The links with the directories so far.
use Rattle.std.proofs.Common.{◌<◌, ℕ}
use Rattle.rules_maps.specs.Nodes.{Core, Dir}
use Rattle.machine_parts.specs.Links.{IsGoodLink}
use Rattle.machine_parts.specs.Traffic.{traffic_of}
use Rattle.machine_parts.proofs.links.are_good_links.Given as goal

abbrev pub invariant-loop-d : goal.invariant-loop-d
invariant-loop-d l = (d : ℕ) → d < l.d
    → IsGoodLink l.fn.config (traffic_of l.fn.flights l.fn.limits) (Core l.fn.core.0) (Dir d)
    × IsGoodLink l.fn.config (traffic_of l.fn.flights l.fn.limits) (Dir d) (Core l.fn.core.0)
