-- What is claimed of schedules that follow a list.
use Rattle.std.specs.Prelude.{ℕ, ◌≡◌, ◌<◌, ◌≤◌, List, length, take, None, IsSome}
use Rattle.image_load.specs.Start.{Start}
use Rattle.rv_code.specs.Machine.{program}
use Rattle.rv_plain.specs.Machine.{plain_start}
use Rattle.rules_riscv.specs.Starting.{AfterRun, world_at_start}
use Rattle.tcc_base.specs.Settings.{IsAllowed}
use Rattle.rules_program.specs.Plain.{Order, serial}
use Rattle.rules_tcc.specs.Seen.{IsDone}
use Rattle.rules_tcc.specs.Step.{History, run}
use Rattle.run_follow.specs.Following.{Agree, followed_by, next_in}

-- such a schedule is a run of the rules
abbrev pub FollowedRuns : Type 0
FollowedRuns =
    (s : Start) (orders : List Order) (most : ℕ) → IsSome (run s.settings (program s) (world_at_start s) (followed_by s orders most))

-- it has so many events, or fewer where none may come at its end
abbrev pub FollowedEnds : Type 0
FollowedEnds =
    (s : Start) (orders : List Order) (most : ℕ) → (length (followed_by s orders most) ≤ most)
    × (length (followed_by s orders most) < most → AfterRun s (followed_by s orders most) (λ h. next_in s orders h ≡ None))

-- the commits are the first of the list's; all of them, where the run is done
pub record Keeps (s : Start) (orders : List Order) (h : History) : Type 0 where
  pub firsts : Agree h.commits (take (length h.commits) orders)
  pub all : IsDone s.settings h.world → Agree h.commits orders

-- So it is where the plain machine can execute the list from its start.
abbrev pub FollowedKeeps : Type 0
FollowedKeeps =
    (s : Start) (orders : List Order) (most : ℕ) → IsAllowed s.settings
    → IsSome (serial s.settings.base (program s) 0 orders (plain_start s)) → AfterRun s (followed_by s orders most) (Keeps s orders)

-- Such a run isn't stuck before the list's end: it has so many events, or has committed all of the list.
abbrev pub FollowedAll : Type 0
FollowedAll =
    (s : Start) (orders : List Order) (most : ℕ) → IsAllowed s.settings
    → IsSome (serial s.settings.base (program s) 0 orders (plain_start s)) → length (followed_by s orders most) < most
    → AfterRun s (followed_by s orders most) (λ h. Agree h.commits orders)
