use Rattle.std.proofs.Common.{◌≡◌, ◌≤◌, false, replicate, vec_len}
use Rattle.std.specs.Vec.{vec_capacity}
use Rattle.spec_cache.proofs.places.no_flags.Given as goal

abbrev pub invariant-loop : goal.invariant-loop
invariant-loop l = record {
  unset : l.flags.items ≡ replicate l.counter false;
  filled : vec_len l.flags ≡ l.counter;
  room : l.size ≤ vec_capacity l.flags;
}
