use Rattle.std.proofs.Common.{◌≡◌, ◌≤◌, map, take, length, vec_len}
use Rattle.std.specs.Vec.{vec_capacity}
use Rattle.rules_maps.specs.Cache.{modified_mask}
use Rattle.spec_cache.specs.Held.{maps}
use Rattle.spec_cache.specs.Home.{mark_of}
use Rattle.spec_cache.proofs.frames.Frames.marks_by_home.Given as goal

abbrev pub invariant-loop-line : goal.invariant-loop-line
invariant-loop-line g l = record {
  made : map mark_of l.marks.items ≡ map (λ k. (k, modified_mask (maps (g.Self.Ways.held l.self)) k)) (take l.line-index l.line-items);
  count : vec_len l.marks ≡ l.line-index;
  room : length l.line-items ≤ vec_capacity l.marks;
}
