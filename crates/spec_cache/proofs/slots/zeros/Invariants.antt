use Rattle.std.proofs.Common.{◌≡◌, ◌≤◌, replicate, vec_len}
use Rattle.std.specs.Vec.{vec_capacity}
use Rattle.spec_cache.proofs.slots.zeros.Given as goal

abbrev pub invariant-loop : goal.invariant-loop
invariant-loop l = record {
  empty : l.numbers.items ≡ replicate l.counter 0;
  filled : vec_len l.numbers ≡ l.counter;
  room : l.count ≤ vec_capacity l.numbers;
}
