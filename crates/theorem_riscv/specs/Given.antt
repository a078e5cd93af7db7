-- What a run of the protocol shows of what is committed, and that it is the plain machine, which executes the commits one after
-- another from the same start.
use Rattle.std.specs.Prelude.{ℕ, ◌≡◌, ◌≤◌, List, map, Contains, Some, nat_lt, if◌then◌else◌}
use Rattle.image_load.specs.Start.{Start, first_ram}
use Rattle.rv_code.specs.Machine.{program}
use Rattle.rv_plain.specs.Machine.{plain_start, no_core}
use Rattle.tcc_base.specs.Settings.{IsAllowed}
use Rattle.tcc_base.specs.declared.access.Commit.{Commit}
use Rattle.rules_maps.specs.Nodes.{Event}
use Rattle.rules_program.specs.Orders.{order_of_commit}
use Rattle.rules_program.specs.Plain.{Plain, serial}
use Rattle.rules_tcc.specs.Seen.{seen}
use Rattle.rules_tcc.specs.Step.{History}
use Rattle.theorem_serial.specs.Invariants.{first_state}
use Rattle.theorem_serial.specs.Owners.{Grant, grants_from, IsNumbered, IsRising, AreGranted, times}
use Rattle.theorem_serial.specs.Shown.{shown_core}
use Rattle.rules_riscv.specs.Starting.{local_at_start, AfterRun}

-- what is committed, as a plain machine: each word as it is seen, and of each core the checkpoint, whether and how it has halted,
-- and what its commits printed
unfoldable pub committed : Start → History → Plain
committed s h = record {
  ram = seen s.settings h.world;
  cores = λ c. if nat_lt c s.settings.cores then shown_core c (h.world.cores c) h.commits else no_core;
}

-- The commits are a serial execution from the start: their TIDs rise, each is a whole transaction with these loads, stores and
-- console bytes, and what is committed is the plain machine after them.
unfoldable pub IsSerial : Start → History → Type 0
IsSerial s h =
    serial s.settings.base (program s) 0 (map order_of_commit h.commits) (plain_start s) ≡ Some (committed s h, h.commits)

-- So it is after every run.
abbrev pub RunsGiveThePlainMachine : Type 0
RunsGiveThePlainMachine = (s : Start) (es : List Event) → IsAllowed s.settings → AfterRun s es (IsSerial s)

-- what was granted along a run, in order
abbrev pub grants_of : Start → List Event → List Grant
grants_of s es = grants_from s.settings (program s) es (first_state (local_at_start s) (first_ram s))

-- Granted TIDs are 1, 2, 3 and so on, each granted to one core; the commits' TIDs rise strictly, each is committed once, and by the
-- core that it was granted to.
pub record TidsOf (gs : List Grant) (commits : List Commit) : Type 0 where
  pub numbered : IsNumbered 1 gs
  pub to_one_core :
      (t c d : ℕ) → Contains gs (record { tid = t; core = c }) → Contains gs (record { tid = t; core = d }) → c ≡ d
  pub granted : AreGranted gs commits
  pub rising : IsRising 0 commits
  pub once : (t : ℕ) → times t commits ≤ 1

abbrev pub CommittedTidsWereGrantedOnce : Type 0
CommittedTidsWereGrantedOnce = (s : Start) (es : List Event) → AfterRun s es (λ h. TidsOf (grants_of s es) h.commits)
