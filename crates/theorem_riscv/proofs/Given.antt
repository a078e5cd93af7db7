-- What a run shows is the plain machine: the theorem tells RAM, checkpoints and ends, the commits tell the consoles, and cores that
-- don't exist have no part in it.
use Rattle.std.specs.Prelude.{ℕ, ◌≡◌, ◌<◌, Bool, true, false, map, Option, Some, None, IfSome, nat_lt, if◌then◌else◌}
use Rattle.std.proofs.Common.{arith, refl, ap, sym, ◌∙◌}
use Rattle.std.proofs.lemmas.Bool.Decides.{nat_tests}
use Rattle.image_load.specs.Start.{Start, first_ram}
use Rattle.rv_code.specs.Machine.{program}
use Rattle.rv_plain.specs.Machine.{plain_start, start_core, core_at_start, no_core}
use Rattle.rules_program.specs.Cores.{printed, AgreeOn, with_others, and_others}
use Rattle.rules_program.specs.Orders.{order_of_commit}
use Rattle.rules_program.specs.Plain.{Plain}
use Rattle.rules_program.proofs.Lemmas.{consoles_are_printed, serial_takes_its_cores}
use Rattle.rules_tcc.specs.Step.{History, run}
use Rattle.theorem_serial.specs.Theorem.{IsSerialExecution}
use Rattle.theorem_serial.specs.Commits.{plain_start as protocol_plain}
use Rattle.theorem_serial.specs.NotedBy.{is_core, AreByCores}
use Rattle.theorem_serial.specs.Shown.{shown_core}
use Rattle.theorem_serial.specs.Owners.{KeptOwners}
use Rattle.theorem_serial.proofs.Lemmas.{commits_are_by_cores, granted-once, run-owners}
use Rattle.theorem_riscv.specs.Given.{committed, IsSerial, RunsGiveThePlainMachine, grants_of, TidsOf, CommittedTidsWereGrantedOnce}
use Rattle.rules_riscv.specs.Starting.{local_at_start, world_at_start}
use Rattle.theorem_riscv.proofs.MachineRuns.{riscv_runs_are_serial}

-- the machine of the theorem, where all numbers are cores
abbrev all_cores : Start → Plain
all_cores s = protocol_plain (local_at_start s) (first_ram s)

starts-agree : (s : Start) → AgreeOn (is_core s.settings) (all_cores s) (plain_start s)
unfolding plain_start protocol_plain
starts-agree s = record { ram = λ w. refl; cores = λ c e. rw e refl }

-- a core of the machine at the end
core-given : (s : Start) (h : History) (k : IsSerialExecution s.settings (program s) (local_at_start s) (first_ram s) h) (c : ℕ)
    → c < s.settings.cores → k.plain.cores c ≡ shown_core c (h.world.cores c) h.commits
unfolding protocol_plain
core-given s h k c l = λ i. record { local = (k.cores c l).local i; ended = (k.cores c l).ended i; console = console i }
  where
    console : (k.plain.cores c).console ≡ printed c h.commits
    console = rw k.commits at (consoles_are_printed s.settings.base (program s) 0 (map order_of_commit h.commits) (all_cores s) c)

machine-given : (s : Start) (h : History) (k : IsSerialExecution s.settings (program s) (local_at_start s) (first_ram s) h)
    → with_others (is_core s.settings) (plain_start s).cores k.plain ≡ committed s h
unfolding committed plain_start
machine-given s h k = λ i. record { ram = λ w. (sym (k.memory w)) i; cores = λ c. (core c) i }
  where
    core : (c : ℕ)
        → (if nat_lt c s.settings.cores then k.plain.cores c else core_at_start s c)
        ≡ (if nat_lt c s.settings.cores then shown_core c (h.world.cores c) h.commits else no_core)
    core c = go (nat_lt c s.settings.cores) refl
      where
        go : (b : Bool) → nat_lt c s.settings.cores ≡ b
            → (if b then k.plain.cores c else if b then start_core s.settings.cores c (s.entry c) else no_core)
            ≡ (if b then shown_core c (h.world.cores c) h.commits else no_core)
        go true e = core-given s h k c (grind (arith, nat_tests))
        go false e = refl

is-given : (s : Start) (h : History) → IsSerialExecution s.settings (program s) (local_at_start s) (first_ram s) h
    → AreByCores s.settings h.commits → IsSerial s h
unfolding IsSerial
is-given s h k by =
    serial_takes_its_cores s.settings.base (program s) 0 (map order_of_commit h.commits) (is_core s.settings) (all_cores s) (plain_start s)
    by (starts-agree s)
    ∙ ap (and_others (is_core s.settings) (plain_start s).cores) k.commits
    ∙ ap (λ m. Some (m, h.commits)) (machine-given s h k)

pub runs_give_the_plain_machine : RunsGiveThePlainMachine
runs_give_the_plain_machine s es k =
    go (run s.settings (program s) (world_at_start s) es) (riscv_runs_are_serial s es k)
    (commits_are_by_cores s.settings (program s) (local_at_start s) (first_ram s) es)
  where
    go : (x : Option History) → IfSome x (IsSerialExecution s.settings (program s) (local_at_start s) (first_ram s))
        → IfSome x (λ h. AreByCores s.settings h.commits) → IfSome x (IsSerial s)
    go None a b = tt
    go (Some h) a b = is-given s h a b

pub committed_tids_were_granted_once : CommittedTidsWereGrantedOnce
committed_tids_were_granted_once s es =
    go (run s.settings (program s) (world_at_start s) es)
    (run-owners s.settings (program s) (local_at_start s) (first_ram s) es)
  where
    go : (x : Option History) → IfSome x (λ h. KeptOwners s.settings (grants_of s es) h.world h.commits)
        → IfSome x (λ h. TidsOf (grants_of s es) h.commits)
    go None k = tt
    go (Some h) k = record {
      numbered = k.numbered;
      to_one_core = λ t c d a b. granted-once 1 (grants_of s es) t c d k.numbered a b;
      granted = k.granted;
      rising = k.rising;
      once = λ t. omega (arith, k.once t);
    }
