use Rattle.std.proofs.Common.{◌≡◌, ◌≤◌, replicate, vec_len}
use Rattle.std.specs.Vec.{vec_capacity}
use Rattle.spec_cache.proofs.slots.no_tags.Given as goal

abbrev pub invariant-loop : goal.invariant-loop
invariant-loop l = record {
  empty : l.tags.items ≡ replicate l.counter 4294967295;
  filled : vec_len l.tags ≡ l.counter;
  room : l.count ≤ vec_capacity l.tags;
}
