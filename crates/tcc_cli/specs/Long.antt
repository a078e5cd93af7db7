-- Long runs: they begin before their first event or go on from a checkpoint, and may be written down at their end.
use Rattle.std.specs.Prelude.{ℕ, ◌≡◌, ◌+◌, ◌-◌, ◌^◌, ◌≤◌, ◌⊎◌, Bool, List, [], ◌++◌, Option, Some, None, min, if◌then◌else◌}
use Rattle.image_load.specs.Contents.{Contents, started}
use Rattle.image_load.specs.Start.{Start}
use Rattle.checkpoint_run.specs.Runs.{run_text}
use Rattle.checkpoint_text.specs.Laws.{IsLaidOut}
use Rattle.tcc_cli.specs.Commands.{head_of}
use Rattle.tcc_cli.specs.Lines.{IsCut, IsWhole}
use Rattle.rules_maps.specs.Nodes.{Event}
use Rattle.rules_tcc.specs.Step.{History}
use Rattle.tcc_cli.specs.Looks.{LookedAt, view_text}
use Rattle.tcc_cli.specs.declared.refusal.Refusal.{Refusal}
use Rattle.tcc_cli.specs.declared.refusal.Refusal.TheVariants as why
use Rattle.tcc_words.specs.Fields.{count_limit}
use Rattle.tcc_words.specs.declared.command.Begin.{Begin}
use Rattle.tcc_words.specs.declared.command.Begin.TheVariants as begin
use Rattle.tcc_words.specs.declared.command.View.{View}
use Rattle.tcc_words.specs.declared.command.View.TheVariants.{Consoles, Count, Rows, State, Trace}
use Rattle.tcc_world.specs.Faults.{Rose}
use Rattle.tcc_world.specs.Page.{Written}
use Rattle.watch_count.specs.Csv.{names_row}
use Rattle.watch_run.specs.Consoles.{consoles_head, printed_from}
use Rattle.watch_run.specs.Runs.{IsRunOf, RunData, seed_events}
use Rattle.watch_run.specs.Tables.{open_rest, row_of}
use Rattle.watch_run.specs.Written.{IsPart, IsTraceBegun}

-- so many steps more are asked for: where the state or a trace is shown, no more than its events
abbrev pub steps_of : View → (steps : ℕ) → ℕ
steps_of (Trace from to states) steps = min steps to
steps_of (State events) steps = min steps events
steps_of _ steps = steps

-- and so many are taken at most: a run has 2^40 events at most
abbrev pub more_of : (steps : ℕ) → RunData → ℕ
more_of steps r = min steps (count_limit - r.machine.events)

-- the steps of the whole run: those that were taken before, and those that are asked for
abbrev pub all_steps : (steps : ℕ) → RunData → ℕ
all_steps steps r = min (r.drawn + steps) (2 ^ 64 - 1)

-- something is written of a run while it goes on: the rows of a table, or what its commits print
abbrev pub Grows : View → Type 0
Grows (Rows every) = Unit {0}
Grows (Consoles csv) = Unit {0}
Grows _ = ⊥

-- and rows stand at least one event apart
abbrev pub IsGrowing : View → Type 0
IsGrowing (Rows every) = 1 ≤ every
IsGrowing (Consoles csv) = Unit {0}
IsGrowing _ = ⊥

-- what that is, of a run's events from so many on
abbrev pub open_text : View → (seed : Option (ℕ × ℕ)) → (first : ℕ) → Start → List Event → List ℕ
open_text (Rows every) seed first s es = names_row ++ open_rest (record { every = every; seed = seed }) s es first
open_text (Consoles csv) seed first s es = consoles_head ++ printed_from first s es
open_text _ seed first s es = []

-- and what is told at its end
abbrev pub last_text : View → (seed : Option (ℕ × ℕ)) → Start → (done : Bool) → List Event → History → List ℕ
last_text (Rows every) seed s done es h = row_of (record { every = every; seed = seed }) s done es
last_text (Consoles csv) seed s done es h = view_text (Count csv) seed s done es h
last_text view seed s done es h = view_text view seed s done es h

-- what is told of a run from so many of its events on: a trace's first event is counted from the run's next one
abbrev pub text_behind : (first : ℕ) → View → (seed : Option (ℕ × ℕ)) → Start → (done : Bool) → List Event → History → List ℕ
text_behind first (Trace from to states) seed s done es h = view_text (Trace (first + from) to states) seed s done es h
text_behind first view seed s done es h = open_text view seed first s es ++ last_text view seed s done es h

-- a first part of what is written as it goes was written
abbrev pub begun_behind : (first : ℕ) → View → (seed : Option (ℕ × ℕ)) → Start → List Event → (before after : Option (List ℕ)) → Type 0
begun_behind first (Trace from to states) seed s es before after =
    IsTraceBegun s (record { from = first + from; states = states }) es before after
begun_behind first (Rows every) seed s es before after = IsPart (open_text (Rows every) seed first s es) before after
begun_behind first (Consoles csv) seed s es before after = IsPart (open_text (Consoles csv) seed first s es) before after
begun_behind first _ seed s es before after = ⊥

-- the text of this run, and of no other, is these bytes (`runs_go_on_from_texts`)
pub record IsToldBy (bytes : List ℕ) (r : RunData) : Type 0 where
  pub text : run_text r ≡ bytes
  pub laid_out : IsLaidOut r.machine

-- the run from which a command goes on: that of a seed before its first event, or the one whose text the first file is
abbrev pub IsTakenUp : Begin → Contents → (files : List (List ℕ)) → RunData → Type 0
IsTakenUp (begin.Seed seed) c files r = IsRunOf c 0 r × (r.seed ≡ seed) × (r.drawn ≡ 0)
IsTakenUp (begin.Checkpoint name) c files r = IsToldBy (head_of files) r

-- the file of this name holds a text of this run, and of no other, where the store makes known what it was given
pub record IsWrittenTo (name : List ℕ) (tells : Bool) (told : List ℕ → Option (List ℕ)) (r : RunData) : Type 0 where
  pub held : told name ≡ (if tells then Some (run_text r) else None)
  pub laid_out : IsLaidOut r.machine

-- there a run ends that went on: where it was that of n steps of its seed, as that of so many steps more
pub record EndsIn (name : List ℕ) (tells : Bool) (told : List ℕ → Option (List ℕ)) (c : Contents) (from : RunData) (more : ℕ)
    : Type 0 where
  pub ends : RunData
  pub seed : ends.seed ≡ from.seed
  pub went : (n : ℕ) → IsRunOf c n from → IsRunOf c (n + more) ends
  pub written : IsWrittenTo name tells told ends

-- it does where a checkpoint is asked for
abbrev pub IsLeftIn : (keep : Option (List ℕ)) → (tells : Bool) → (told : List ℕ → Option (List ℕ)) → Contents → (from : RunData)
    → (more : ℕ) → Type 0
IsLeftIn None tells told c from more = Unit {0}
IsLeftIn (Some name) tells told c from more = EndsIn name tells told c from more

-- A run went on, and was left so: what is told is told of all of it. Where it was that of n steps of its seed, that is the run of so many
-- steps more.
pub record RanOn (c : Contents) (from : RunData) (steps : ℕ) (view : View) (IsLeft : RunData → (more : ℕ) → Type 0) (done : Bool)
    (text : List ℕ) : Type 0 where
  pub left : IsLeft from (more_of (steps_of view steps) from)
  pub looked : (n : ℕ) → IsRunOf c n from
      → LookedAt (started c) (λ es. es ≡ seed_events c from.seed (n + more_of (steps_of view steps) from))
      (text_behind from.machine.events view (Some (from.seed, all_steps steps from)) (started c)) done text

-- such a run went on
pub record RanFrom (c : Contents) (IsFrom : RunData → Type 0) (steps : ℕ) (view : View) (IsLeft : RunData → (more : ℕ) → Type 0)
    (done : Bool) (text : List ℕ) : Type 0 where
  pub from : RunData
  pub is : IsFrom from
  pub code : from.machine.cores.code ≡ c
  pub on : RanOn c from steps view IsLeft done text

-- The run of a command that begins so, from this start.
pub record RanLong (s : Start) (begin : Begin) (files : List (List ℕ)) (steps : ℕ) (view : View)
    (IsLeft : Contents → RunData → (more : ℕ) → Type 0) (done : Bool) (text : List ℕ) : Type 0 where
  pub loaded : Contents
  pub start : started loaded ≡ s
  pub ran : RanFrom loaded (IsTakenUp begin loaded files) steps view (IsLeft loaded) done text

-- what is told of such a run as it goes was begun: of all of it
abbrev pub BeganOn : Contents → (from : RunData) → (steps : ℕ) → View → Written → Type 0
BeganOn c from steps view o = (n : ℕ) → IsRunOf c n from
    → begun_behind from.machine.events view (Some (from.seed, all_steps steps from)) (started c)
    (seed_events c from.seed (n + more_of (steps_of view steps) from)) o.before.bytes o.after.bytes

pub record BeganFrom (c : Contents) (IsFrom : RunData → Type 0) (steps : ℕ) (view : View) (o : Written) : Type 0 where
  pub from : RunData
  pub is : IsFrom from
  pub code : from.machine.cores.code ≡ c
  pub begun : BeganOn c from steps view o

pub record BeganLong (s : Start) (begin : Begin) (files : List (List ℕ)) (steps : ℕ) (view : View) (o : Written) : Type 0 where
  pub loaded : Contents
  pub start : started loaded ≡ s
  pub began : BeganFrom loaded (IsTakenUp begin loaded files) steps view o

-- What is told of such a run was written whole.
abbrev pub IsFurtherTold : Contents → (IsFrom : RunData → Type 0) → (steps : ℕ) → View → (IsLeft : RunData → (more : ℕ) → Type 0)
    → Written → Bool → Type 0
IsFurtherTold c IsFrom steps view IsLeft o done =
    (text : List ℕ) × RanFrom c IsFrom steps view IsLeft done text × IsWhole text o

-- A trace is of a run that isn't written down.
abbrev pub IsNotLeft : RunData → (more : ℕ) → Type 0
IsNotLeft r more = Unit {0}

-- Or it broke off: its checkpoint is refused, memory ran out, or the output failed.
abbrev pub IsFurtherStopped : Contents → (IsFrom : RunData → Type 0) → (steps : ℕ) → View → Written → Refusal → Type 0
IsFurtherStopped c IsFrom steps view o (why.Schedule line) = o.after.bytes ≡ o.before.bytes
IsFurtherStopped c IsFrom steps view o why.Memory = (o.after.bytes ≡ o.before.bytes) ⊎ BeganFrom c IsFrom steps view o
IsFurtherStopped c IsFrom steps view o why.Output =
    ((done : Bool) × (text : List ℕ) × RanFrom c IsFrom steps view IsNotLeft done text × IsCut text o)
    ⊎ (BeganFrom c IsFrom steps view o × Rose o.before.faults o.after.faults)
IsFurtherStopped c IsFrom steps view o _ = ⊥
