-- What each command comes to, and where its file is refused.
use Rattle.std.specs.Prelude.{ℕ, Bool, true, List, ◌≡◌, Option}
use Rattle.tcc_cli.specs.Commands.{head_of, start_from}
use Rattle.tcc_cli.specs.Following.{IsFollowed, RanFollowing}
use Rattle.tcc_cli.specs.Lists.{IsExecuted, IsListFault}
use Rattle.tcc_cli.specs.Long.{BeganLong, IsLeftIn, RanLong}
use Rattle.tcc_base.specs.Settings.{Settings}
use Rattle.tcc_world.specs.Page.{Written}
use Rattle.tcc_cli.specs.Looks.{ArePicked, AreFirst, IsBegun, IsFaultOfFirst, LookedAt, begun_of, most_of, seed_of, view_text}
use Rattle.tcc_cli.specs.BusLooks.{IsBusTraceBegun, LookedAtBus}
use Rattle.tcc_cli.specs.OnBus.{RanOnBus}
use Rattle.tcc_cli.specs.Outcomes.{IsTable, IsTableBegun}
use Rattle.tcc_cli.specs.Phased.{IsPhasePicked, RanInPhases}
use Rattle.tcc_cli.specs.Runs.{run_text, summary_text}
use Rattle.tcc_cli.specs.Schedules.{IsMade, IsPicked, IsRecorded, IsScheduleFault, IsScheduleOf, Ran, RecordsOne}
use Rattle.image_load.specs.Start.{Start}
use Rattle.rules_maps.specs.Nodes.{Event}
use Rattle.tcc_words.specs.declared.command.Command.{Command}
use Rattle.tcc_words.specs.declared.command.Command.TheVariants.{Run, Replay, Serial, Trial, Why, Phases, Bus, Look}
use Rattle.tcc_words.specs.declared.command.Command.TheVariants.{LookOnBus, Outcomes, Follow, Long}
use Rattle.tcc_words.specs.declared.command.Begin.TheVariants as begin
use Rattle.tcc_words.specs.declared.command.Source.{Source}
use Rattle.tcc_words.specs.declared.command.Source.TheVariants.{Seed, Schedule}
use Rattle.tcc_words.specs.declared.command.View.TheVariants.{Consoles, Rows, Trace}
use Rattle.text_why.specs.Text.{why_text}

-- the events of the run that is looked at, at most so many
abbrev pub AreLookedAt : Source → (most : ℕ) → Start → Settings → (files : List (List ℕ)) → List Event → Type 0
AreLookedAt (Seed steps seed) most s settings files es = ArePicked s seed steps most es
AreLookedAt (Schedule name) most s settings files es = AreFirst settings (head_of files) most es

-- what each command comes to, where its files have these bytes: the text that it prints, and what stands in the record then
abbrev pub Comes : Command → (files : List (List ℕ)) → (tells : Bool) → (told : List ℕ → Option (List ℕ)) → Bool → List ℕ → Type 0
Comes (Run machine images steps seed threads batch keep) files tells told done text =
    let s = start_from (Run machine images steps seed threads batch keep) files in
    Ran s (λ es. IsMade threads s seed steps es × IsRecorded keep tells told (record { config = machine.config; events = es }))
    (run_text s) done text
Comes (Replay machine schedule images) files tells told done text =
    let s = start_from (Replay machine schedule images) files in
    Ran s (λ es. IsScheduleOf machine.config es (head_of files)) (run_text s) done text
Comes (Serial machine list images) files tells told done text =
    (done ≡ true) × IsExecuted (start_from (Serial machine list images) files) (head_of files) text
Comes (Trial config work number steps seed) files tells told done text =
    let s = start_from (Trial config work number steps seed) files in
    Ran s (IsPicked s seed steps) (summary_text s work number) done text
Comes (Why machine schedule images) files tells told done text =
    let s = start_from (Why machine schedule images) files in
    Ran s (λ es. IsScheduleOf machine.config es (head_of files)) (why_text s) done text
Comes (Phases machine images steps seed keep) files tells told done text =
    let s = start_from (Phases machine images steps seed keep) files in
    RanInPhases s (λ es. IsPhasePicked s seed steps es × IsRecorded keep tells told (record { config = machine.config; events = es }))
    done text
Comes (Bus machine images steps seed) files tells told done text =
    RanOnBus (start_from (Bus machine images steps seed) files) seed steps done text
Comes (Look machine images source view) files tells told done text =
    let s = start_from (Look machine images source view) files in
    LookedAt s (AreLookedAt source (most_of view) s machine.config files) (view_text view (seed_of source) s) done text
Comes (LookOnBus machine images steps seed view) files tells told done text =
    LookedAtBus (start_from (LookOnBus machine images steps seed view) files) seed steps view done text
Comes (Outcomes machine images limits tell) files tells told done text =
    IsTable (start_from (Outcomes machine images limits tell) files) limits tell done text
Comes (Follow machine list images keep) files tells told done text =
    RanFollowing (start_from (Follow machine list images keep) files) (head_of files)
    (λ es. IsRecorded keep tells told (record { config = machine.config; events = es })) done text
Comes (Long machine images begin steps view keep) files tells told done text =
    RanLong (start_from (Long machine images begin steps view keep) files) begin files steps view (IsLeftIn keep tells told) done text

-- a first part of what a command prints was written while it went on: only traces, tables of totals, consoles and tables of outcomes are
-- written so
abbrev pub HasBegun : Command → (files : List (List ℕ)) → Written → Type 0
HasBegun (Look machine images source view) files o =
    let s = start_from (Look machine images source view) files in
    IsBegun (AreLookedAt source (most_of view) s machine.config files) (begun_of view (seed_of source) s) o
HasBegun (LookOnBus machine images steps seed (Trace from to states)) files o =
    IsBusTraceBegun (start_from (LookOnBus machine images steps seed (Trace from to states)) files) seed steps from to states o
HasBegun (Long machine images begin steps (Trace from to states) keep) files o =
    BeganLong (start_from (Long machine images begin steps (Trace from to states) keep) files) begin files steps (Trace from to states) o
HasBegun (Long machine images begin steps (Rows every) keep) files o =
    BeganLong (start_from (Long machine images begin steps (Rows every) keep) files) begin files steps (Rows every) o
HasBegun (Long machine images begin steps (Consoles csv) keep) files o =
    BeganLong (start_from (Long machine images begin steps (Consoles csv) keep) files) begin files steps (Consoles csv) o
HasBegun (Outcomes machine images limits tell) files o =
    IsTableBegun (start_from (Outcomes machine images limits tell) files) limits tell o
HasBegun _ files o = ⊥

-- the record holds, whole, a schedule that the command may run
abbrev pub HasRecorded : Command → (files : List (List ℕ)) → (tells : Bool) → (told : List ℕ → Option (List ℕ)) → Type 0
HasRecorded (Run machine images steps seed threads batch keep) files tells told =
    let s = start_from (Run machine images steps seed threads batch keep) files in
    RecordsOne (IsMade threads s seed steps) machine.config keep tells told
HasRecorded (Phases machine images steps seed keep) files tells told =
    RecordsOne (IsPhasePicked (start_from (Phases machine images steps seed keep) files) seed steps) machine.config keep tells told
HasRecorded (Follow machine list images keep) files tells told =
    RecordsOne (IsFollowed (start_from (Follow machine list images keep) files) (head_of files)) machine.config keep tells told
HasRecorded _ files tells told = ⊥

-- the line at which the file of a command is refused; of a checkpoint it may be any
abbrev pub IsFaultyLine : Command → (files : List (List ℕ)) → (line : ℕ) → Type 0
IsFaultyLine (Replay machine schedule images) files line =
    IsScheduleFault (start_from (Replay machine schedule images) files) machine.config (head_of files) line
IsFaultyLine (Serial machine list images) files line =
    IsListFault (start_from (Serial machine list images) files) (head_of files) line
IsFaultyLine (Why machine schedule images) files line =
    IsScheduleFault (start_from (Why machine schedule images) files) machine.config (head_of files) line
IsFaultyLine (Look machine images (Schedule name) view) files line =
    IsFaultOfFirst (start_from (Look machine images (Schedule name) view) files) machine.config (head_of files) (most_of view) line
IsFaultyLine (Follow machine list images keep) files line =
    IsListFault (start_from (Follow machine list images keep) files) (head_of files) line
IsFaultyLine (Long machine images (begin.Checkpoint name) steps view keep) files line = Unit {0}
IsFaultyLine _ files line = ⊥
