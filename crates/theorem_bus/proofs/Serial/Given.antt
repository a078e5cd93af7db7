-- The same of the RISC-V programs that the machine runs: they suit, so what is committed is the plain machine, and no state is stuck.
use Rattle.std.specs.Prelude.{ℕ, ◌≡◌, ◌<◌, Bool, true, false, length, map, Option, Some, None, IfSome, nat_lt, if◌then◌else◌}
use Rattle.std.proofs.Common.{arith, refl, ap, sym, ◌∙◌}
use Rattle.std.proofs.lemmas.Bool.Decides.{nat_tests}
use Rattle.image_load.specs.Start.{Start, first_ram}
use Rattle.rv_code.specs.Machine.{program}
use Rattle.rv_plain.specs.Machine.{plain_start, start_core, core_at_start, no_core}
use Rattle.rules_riscv.specs.Starting.{local_at_start}
use Rattle.theorem_riscv.proofs.Lemmas.{riscv_programs_suit}
use Rattle.tcc_base.specs.Settings.{IsAllowed}
use Rattle.base_lemmas.proofs.Lemmas.{power-positive}
use Rattle.rules_program.specs.Cores.{printed, AgreeOn, with_others, and_others}
use Rattle.rules_program.specs.Orders.{order_of_commit}
use Rattle.rules_program.specs.Plain.{Plain}
use Rattle.rules_program.proofs.Lemmas.{consoles_are_printed, serial_takes_its_cores}
use Rattle.theorem_serial.specs.Commits.{plain_start as protocol_plain}
use Rattle.theorem_serial.specs.NotedBy.{is_core, AreByCores}
use Rattle.theorem_serial.specs.Shown.{shown_core}
use Rattle.rules_bus.specs.Step.{BusHistory, bus_run}
use Rattle.theorem_bus.specs.Given.{bus_at_start, bus_committed, BusSerial, BusRunsGiveThePlainMachine, BusTidsCount, RiscvBusNeverStuck}
use Rattle.theorem_bus.specs.Given.{RiscvBusPickedEndsDone}
use Rattle.theorem_bus.specs.Laws.{HasCaches, AreNumbered, BusIsSerial}
use Rattle.theorem_bus.proofs.Going.Live.{bus_never_stuck}
use Rattle.theorem_bus.proofs.Going.Picked.{bus_picked_ends_done}
use Rattle.theorem_bus.proofs.Serial.Commits.{Kept, is-serial, runs-kept, bus_runs_are_serial}

-- the machine of the theorem, where all numbers are cores
abbrev all_cores : Start → Plain
all_cores s = protocol_plain (local_at_start s) (first_ram s)

starts-agree : (s : Start) → AgreeOn (is_core s.settings) (all_cores s) (plain_start s)
unfolding plain_start protocol_plain
starts-agree s = record { ram = λ w. refl; cores = λ c e. rw e refl }

-- what the theorem says of the run
abbrev Serial : Start → BusHistory → Type 0
Serial s h = BusIsSerial s.settings (program s) (local_at_start s) (first_ram s) h

-- a core of the machine at the end
core-given : (s : Start) (h : BusHistory) (k : Serial s h) (c : ℕ) → c < s.settings.cores
    → k.plain.cores c ≡ shown_core c (h.world.cores c) h.commits
unfolding protocol_plain
core-given s h k c l = λ i. record { local = (k.cores c l).local i; ended = (k.cores c l).ended i; console = console i }
  where
    console : (k.plain.cores c).console ≡ printed c h.commits
    console = rw k.commits at (consoles_are_printed s.settings.base (program s) 0 (map order_of_commit h.commits) (all_cores s) c)

machine-given : (s : Start) (h : BusHistory) (k : Serial s h)
    → with_others (is_core s.settings) (plain_start s).cores k.plain ≡ bus_committed s h
unfolding bus_committed plain_start
machine-given s h k = λ i. record { ram = λ w. (sym (k.memory w)) i; cores = λ c. (core c) i }
  where
    core : (c : ℕ)
        → (if nat_lt c s.settings.cores then k.plain.cores c else core_at_start s c)
        ≡ (if nat_lt c s.settings.cores then shown_core c (h.world.cores c) h.commits else no_core)
    core c = go (nat_lt c s.settings.cores) refl
      where
        go : (b : Bool) → nat_lt c s.settings.cores ≡ b
            → (if b then k.plain.cores c else if b then start_core s.settings.cores c (s.entry c) else no_core)
            ≡ (if b then shown_core c (h.world.cores c) h.commits else no_core)
        go true e = core-given s h k c (grind (arith, nat_tests))
        go false e = refl

is-given : (s : Start) (h : BusHistory) → Serial s h → AreByCores s.settings h.commits → BusSerial s h
unfolding BusSerial
is-given s h k by =
    serial_takes_its_cores s.settings.base (program s) 0 (map order_of_commit h.commits) (is_core s.settings) (all_cores s) (plain_start s)
    by (starts-agree s)
    ∙ ap (and_others (is_core s.settings) (plain_start s).cores) k.commits
    ∙ ap (λ m. Some (m, h.commits)) (machine-given s h k)

pub bus_runs_give_the_plain_machine : BusRunsGiveThePlainMachine
bus_runs_give_the_plain_machine s es a = go (bus_run s.settings (program s) (bus_at_start s).world es)
    (runs-kept s.settings (program s) (local_at_start s) (first_ram s) es (riscv_programs_suit s a))
  where
    go : (o : Option BusHistory) → IfSome o (Kept s.settings (program s) (local_at_start s) (first_ram s) (length es))
        → IfSome o (BusSerial s)
    go None k = tt
    go (Some h) k = is-given s h (is-serial s.settings (program s) (local_at_start s) (first_ram s) (length es) h k) k.order.commits.by

pub bus_tids_count : BusTidsCount
bus_tids_count s es a = go (bus_run s.settings (program s) (bus_at_start s).world es)
    (bus_runs_are_serial s.settings (program s) (local_at_start s) (first_ram s) es (riscv_programs_suit s a))
  where
    go : (o : Option BusHistory) → IfSome o (Serial s) → IfSome o (λ h. AreNumbered 1 h.commits)
    go None k = tt
    go (Some h) k = k.tids

-- progress

has-caches : (s : Start) → IsAllowed s.settings → HasCaches s.settings
has-caches s k = let (cores, dirs, sets, ways, ram, base) = k in (power-positive s.settings.sets (sets.0), ways.0)

pub riscv_bus_never_stuck : RiscvBusNeverStuck
riscv_bus_never_stuck s es a = bus_never_stuck s.settings (program s) (local_at_start s) (first_ram s) es (has-caches s a)

pub riscv_bus_picked_ends_done : RiscvBusPickedEndsDone
riscv_bus_picked_ends_done s rs a l =
    bus_picked_ends_done s.settings (program s) (local_at_start s) (first_ram s) rs (has-caches s a) l
