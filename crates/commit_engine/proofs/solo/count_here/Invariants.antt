use Rattle.std.proofs.Common.{◌≡◌, ◌≤◌, length, map, take}
use Rattle.spec_cache.specs.Home.{mark_of}
use Rattle.commit_engine.specs.Solo.{here}
use Rattle.commit_engine.proofs.solo.count_here.Given as goal

abbrev pub invariant-loop-line : goal.invariant-loop-line
invariant-loop-line l = record {
  counted : l.count ≡ length (here l.cfg l.d.0 (map mark_of (take l.line-index l.marks)));
  small : l.count ≤ l.line-index;
}
