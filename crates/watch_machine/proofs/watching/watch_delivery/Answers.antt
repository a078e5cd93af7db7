-- What isn't in flight isn't delivered, and nothing goes between two nodes that are no cores.
use Rattle.std.proofs.Common.{refl, sym}
use Rattle.rules_maps.specs.Bridge.{node_of}
use Rattle.net_core.specs.Answers.{Kept}
use Rattle.net_core.specs.Machine.{Machine}
use Rattle.net_core.proofs.Lemmas.{absent-refused}
use Rattle.watch_machine.proofs.Enabled.{no-core_refused}
use Rattle.watch_machine.proofs.watching.watch_delivery.Goals as goal

same : (m : Machine) → Kept m m
same m = record { history = refl; events = refl; code = refl }

pub returns-in_default : goal.returns-in_default
returns-in_default c = (
  same c.args.system.now,
  absent-refused c.args.system.now (node_of c.args.name.src) (node_of c.args.name.dst) c.args.name.seq (sym c.in_default.ensures),
)

pub returns-in_default-2 : goal.returns-in_default-2
returns-in_default-2 c = (
  same c.args.system.now,
  no-core_refused c.args.system.now c.args.name.src c.args.name.dst c.args.name.seq c.in_default-2.not-Core-0 c.in_default-2.not-Core-1,
)

pub returns-in_default-2-2 : goal.returns-in_default-2-2
returns-in_default-2-2 c = (
  same c.args.system.now,
  no-core_refused c.args.system.now c.args.name.src c.args.name.dst c.args.name.seq c.in_default-2.not-Core-0 c.in_default-2.not-Core-1,
)
