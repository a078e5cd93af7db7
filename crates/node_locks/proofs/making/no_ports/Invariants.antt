use Rattle.std.specs.Prelude.{◌≡◌, [], replicate, vec_len, vec_capacity}
use Rattle.node_locks.proofs.making.no_ports.Given as goal

abbrev pub invariant-loop-i : goal.invariant-loop-i
invariant-loop-i l = record {
  none : l.rooms.items ≡ replicate l._i [];
  made : vec_len l.rooms ≡ l._i;
  room : vec_capacity l.rooms ≡ l.count;
}
