use Rattle.std.proofs.Common.{◌≡◌, Some, take}
use Rattle.rv_plain.specs.PlainState.{plain_of, serial_of}
use Rattle.rv_plain.specs.Serials.{tid_before}
use Rattle.rv_plain.proofs.plain.Plain.execute_orders.Given as goal

abbrev pub invariant-loop-i : goal.invariant-loop-i
invariant-loop-i l = record {
  executed : serial_of l.fn.self l.fn.before.0 (take l.i l.orders) ≡ Some (plain_of l.self, l.commits);
  last : l.last ≡ tid_before l.fn.before.0 l.orders l.i;
  loaded : l.self.loaded ≡ l.fn.self.loaded;
}
