-- Runs that are cut and go on: what is told of them, and of their checkpoints, is of whole runs of their seeds.
use Rattle.std.specs.Prelude.{ℕ, ◌≡◌, ◌+◌, ◌-◌, ◌^◌, Bool, true, List, Option, Some, length, min}
use Rattle.image_load.specs.Start.{Start}
use Rattle.net_core.specs.Machine.{start_of}
use Rattle.tcc_cli.specs.Commands.{head_of, start_from}
use Rattle.tcc_cli.specs.Comes.{Comes}
use Rattle.tcc_cli.specs.Long.{IsToldBy, steps_of, text_behind}
use Rattle.tcc_cli.specs.Looks.{LookedAt}
use Rattle.tcc_cli.specs.Runs.{picked_by}
use Rattle.tcc_words.specs.Fields.{count_limit}
use Rattle.tcc_words.specs.declared.command.Begin.{Begin}
use Rattle.tcc_words.specs.declared.command.Begin.TheVariants as begin
use Rattle.tcc_words.specs.declared.command.Command.TheVariants.{Long}
use Rattle.tcc_words.specs.declared.command.Machine.{Machine}
use Rattle.tcc_words.specs.declared.command.View.{View}
use Rattle.watch_run.specs.Runs.{IsRunOf, RunData}

-- these bytes tell the run, from this start, of so many steps of a seed
pub record IsCheckpointOf (s : Start) (seed steps : ℕ) (bytes : List ℕ) : Type 0 where
  pub run : RunData
  pub start : start_of run.machine ≡ s
  pub is : IsRunOf run.machine.cores.code steps run
  pub own : run.seed ≡ seed
  pub told : IsToldBy bytes run

-- a run begins after so many steps of a seed: after none, or after those of its checkpoint
abbrev pub BeginsAfter : Begin → Start → (files : List (List ℕ)) → (seed steps : ℕ) → Type 0
BeginsAfter (begin.Seed given) s files seed steps = (given ≡ seed) × (steps ≡ 0)
BeginsAfter (begin.Checkpoint name) s files seed steps = IsCheckpointOf s seed steps (head_of files)

-- and ends after those and so many more, where it has 2^40 events at most
abbrev pub steps_after : Start → (seed before more : ℕ) → ℕ
steps_after s seed before more = before + min more (count_limit - length (picked_by s seed before))

-- the steps that are asked for of the whole run: those that it took before, and more
abbrev pub asked_after : Start → (seed before more : ℕ) → ℕ
asked_after s seed before more = min (length (picked_by s seed before) + more) (2 ^ 64 - 1)

-- so many events of the whole run came before
abbrev pub events_before : Start → (seed before : ℕ) → ℕ
events_before s seed before = length (picked_by s seed before)

-- what is told is told of the run of so many steps of a seed, from some of its events on, and so is its checkpoint, where one was written
pub record IsOfWholeRun (s : Start) (seed steps asked first : ℕ) (view : View) (keep : Option (List ℕ)) (told : List ℕ → Option (List ℕ))
    (done : Bool) (text : List ℕ) : Type 0 where
  pub looked : LookedAt s (λ es. es ≡ picked_by s seed steps) (text_behind first view (Some (seed, asked)) s) done text
  pub left : (name bytes : List ℕ) → keep ≡ Some name → told name ≡ Some bytes → IsCheckpointOf s seed steps bytes

-- A run that goes on from a checkpoint comes to what the whole run of its seed comes to, and so does one that goes on from the checkpoint
-- that it leaves.
abbrev pub CutRunsAreWhole : Type 0
CutRunsAreWhole =
    (machine : Machine) (images : List (List ℕ)) (begin : Begin) (steps : ℕ) (view : View) (keep : Option (List ℕ))
    (files : List (List ℕ)) (told : List ℕ → Option (List ℕ)) (done : Bool) (text : List ℕ) (seed before : ℕ)
    → Comes (Long machine images begin steps view keep) files true told done text
    → BeginsAfter begin (start_from (Long machine images begin steps view keep) files) files seed before
    → IsOfWholeRun (start_from (Long machine images begin steps view keep) files) seed
    (steps_after (start_from (Long machine images begin steps view keep) files) seed before (steps_of view steps))
    (asked_after (start_from (Long machine images begin steps view keep) files) seed before steps)
    (events_before (start_from (Long machine images begin steps view keep) files) seed before) view keep told done text
