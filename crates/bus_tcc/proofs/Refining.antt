-- What the laws say of a machine's commits, and of its events.
use Rattle.std.specs.Prelude.{List, [], Some, ◌≡◌}
use Rattle.image_load.specs.Contents.{Contents, started}
use Rattle.rv_code.specs.Machine.{program}
use Rattle.tcc_base.specs.Settings.{IsAllowed}
use Rattle.rules_bus.specs.State.{BusEvent}
use Rattle.rules_bus.specs.Step.{BusHistory, bus_run}
use Rattle.rules_bus.specs.Useful.{BusIsDone, bus_useful}
use Rattle.theorem_bus.proofs.Lemmas.{bus_runs_give_the_plain_machine, bus_tids_count, riscv_bus_never_stuck}
use Rattle.theorem_bus.specs.Given.{BusSerial, bus_at_start}
use Rattle.theorem_bus.specs.Laws.{AreNumbered}
use Rattle.bus_tcc.specs.Machine.{BusMachine, bus_history_of}
use Rattle.bus_tcc.specs.Refined.{IsBusRefined}
use Rattle.bus_tcc.specs.Whole.{IsBusWhole}

-- these events lead there
abbrev Leads : Contents → List BusEvent → BusHistory → Type 0
Leads c es h = bus_run c.settings (program (started c)) (bus_at_start (started c)).world es ≡ Some h

serial-after : (c : Contents) (es : List BusEvent) (h : BusHistory) → IsAllowed c.settings → Leads c es h → BusSerial (started c) h
unfolding started
serial-after c es h k e = rw e at (bus_runs_give_the_plain_machine (started c) es k)

numbered-after : (c : Contents) (es : List BusEvent) (h : BusHistory) → IsAllowed c.settings → Leads c es h → AreNumbered 1 h.commits
unfolding started
numbered-after c es h k e = rw e at (bus_tids_count (started c) es k)

goes-on-after : (c : Contents) (es : List BusEvent) (h : BusHistory) → IsAllowed c.settings → Leads c es h
    → bus_useful c.settings (program (started c)) h.world ≡ [] → BusIsDone c.settings h.world
unfolding started
goes-on-after c es h k e = rw e at (riscv_bus_never_stuck (started c) es k)

pub refined : (m : BusMachine) → IsBusWhole m → IsBusRefined m
unfolding bus_history_of
refined m w = record {
  allowed = w.allowed;
  serial = serial-after m.code w.reached.taken (bus_history_of m) w.allowed w.reached.reaches;
  tids = numbered-after m.code w.reached.taken (bus_history_of m) w.allowed w.reached.reaches;
  goes_on = goes-on-after m.code w.reached.taken (bus_history_of m) w.allowed w.reached.reaches;
}
