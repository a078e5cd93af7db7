use Rattle.std.proofs.Common.{map, take}
use Rattle.rules_maps.specs.Nodes.{Dir}
use Rattle.rules_tcc.specs.Sends.{to}
use Rattle.spec_cache.specs.Home.{mark_of}
use Rattle.commit_engine.specs.Sent.{Sent, mark_at}
use Rattle.commit_engine.proofs.sending.send_marks.Given as goal

abbrev pub invariant-loop-line : goal.invariant-loop-line
invariant-loop-line l = record {
  sent : Sent l.fn.out l.out (to (Dir l.d.0) (map (mark_at l.tid.0) (map mark_of (take l.line-index l.marks)))) l.line-index;
}
