-- What is sought is among those from number i on.
use Rattle.std.proofs.Common.{◌≡◌, drop}
use Rattle.std.specs.Prelude.{slice_get}
use Rattle.rules_maps.specs.Bridge.{node_of}
use Rattle.tcc_msg.specs.Plain.{sends_of}
use Rattle.net_core.proofs.enabling.unsent_at.Given as goal

abbrev pub invariant-loop-i : goal.invariant-loop-i
invariant-loop-i l =
    slice_get (sends_of (drop l.fn.placed l.out.list.items) (node_of l.fn.dst)) l.fn.k
    ≡ slice_get (sends_of (drop l.i l.out.list.items) (node_of l.fn.dst)) l.left
