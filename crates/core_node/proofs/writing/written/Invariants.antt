use Rattle.std.proofs.Common.{◌≡◌, map, take}
use Rattle.spec_cache.specs.Home.{mark_of}
use Rattle.core_node.specs.AtHand.{line_told}
use Rattle.core_node.specs.View.{core_of}
use Rattle.core_node.proofs.writing.written.Given as goal

abbrev pub invariant-loop-line : goal.invariant-loop-line
invariant-loop-line l = l.told ≡ map (line_told (core_of l.fn.core) l.fn.tid.0) (map mark_of (take l.line-index l.line-items))
