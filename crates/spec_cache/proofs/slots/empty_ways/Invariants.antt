use Rattle.std.proofs.Common.{◌≡◌, ◌≤◌, None, replicate, vec_len}
use Rattle.std.specs.Vec.{vec_capacity}
use Rattle.spec_cache.proofs.slots.empty_ways.Given as goal

abbrev pub invariant-loop : goal.invariant-loop
invariant-loop l = record {
  empty : l.ways.items ≡ replicate l.counter None;
  filled : vec_len l.ways ≡ l.counter;
  room : l.count ≤ vec_capacity l.ways;
}
