-- What the laws say of a machine.
use Rattle.std.proofs.Common.{◌≡◌, ℕ, ◌<◌, length, Some, subst}
use Rattle.image_load.specs.Contents.{Contents, started}
use Rattle.rv_code.specs.Machine.{program}
use Rattle.std.specs.Prelude.{List}
use Rattle.tcc_base.specs.Settings.{IsAllowed}
use Rattle.rules_bus.specs.State.{BusEvent}
use Rattle.rules_bus.specs.Step.{BusHistory, bus_run}
use Rattle.theorem_bus.proofs.Lemmas.{riscv_bus_runs_are_bounded}
use Rattle.theorem_bus.specs.Bounds.{BusCoreInBounds, IsBusBounded}
use Rattle.theorem_bus.specs.Given.{bus_at_start}
use Rattle.machine_cores.specs.Bank.{cores_of}
use Rattle.bus_tcc.specs.Machine.{BusMachine, bus_history_of, bus_settings_of, bus_world_of}
use Rattle.bus_tcc.specs.Whole.{IsBusWhole}
use Rattle.bus_tcc.proofs.Events.{bank_in}

bounded-after : (c : Contents) (es : List BusEvent) (h : BusHistory) → IsAllowed c.settings
    → bus_run c.settings (program (started c)) (bus_at_start (started c)).world es ≡ Some h → IsBusBounded c.settings (length es) h
unfolding started
bounded-after c es h k e = rw e at (riscv_bus_runs_are_bounded (started c) es k)

pub bounded : (m : BusMachine) → IsBusWhole m → IsBusBounded (bus_settings_of m) m.events (bus_history_of m)
bounded m w = subst (λ n. IsBusBounded (bus_settings_of m) n (bus_history_of m)) w.reached.count
    (bounded-after m.code w.reached.taken (bus_history_of m) w.allowed w.reached.reaches)

pub core-bounded : (m : BusMachine) → IsBusWhole m → (c : ℕ) → c < (bus_settings_of m).cores
    → BusCoreInBounds (bus_settings_of m) m.events (cores_of (bank_in m) c)
unfolding bus_history_of bus_world_of
core-bounded m w c l = (bounded m w).cores c l
