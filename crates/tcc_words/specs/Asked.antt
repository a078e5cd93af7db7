-- What the words of a command line ask for, and why they are refused.
use Rattle.std.specs.Prelude.{ℕ, ◌≡◌, ◌⊎◌, ◌≤◌, List, [], Option, Some, None, ◌↔◌, IsTrue, IsSome, MatchOption, option_map}
use Rattle.std.specs.Prelude.{slice_get, length, codes, unwrap_or}
use Rattle.clap.specs.Words.{Row, Text, first_of, matches_of}
use Rattle.clap.specs.Faults.{fault_of}
use Rattle.tcc_base.specs.Settings.{Settings}
use Rattle.tcc_words.specs.Numbers.{IsNumber}
use Rattle.tcc_words.specs.Grammar.{grammar, verb_word}
use Rattle.work_gen.specs.Names.{work_word}
use Rattle.tcc_words.specs.Fields.{AllowsIn, BreaksFirst, IsFlagged, IsSaid, images_of, order, tell_word}
use Rattle.run_outcomes.specs.declared.outcomes.Tell.{Tell}
use Rattle.work_gen.specs.declared.work.Work.{Work}
use Rattle.tcc_words.specs.declared.fields.Values.{Values}
use Rattle.tcc_words.specs.declared.command.Begin.{Begin}
use Rattle.tcc_words.specs.declared.command.Begin.TheVariants as begin
use Rattle.tcc_words.specs.declared.command.Command.{Command}
use Rattle.tcc_words.specs.declared.command.Command.TheVariants as command
use Rattle.tcc_words.specs.declared.command.Field.{Field}
use Rattle.tcc_words.specs.declared.command.Field.TheVariants.{Cores, Dirs, Sets, Ways, Ram, Base, Steps, Seed, From, To}
use Rattle.tcc_words.specs.declared.command.Field.TheVariants.{Events, States, Longest, Batch}
use Rattle.tcc_words.specs.declared.command.Machine.{Machine}
use Rattle.tcc_words.specs.declared.command.Source.{Source}
use Rattle.tcc_words.specs.declared.command.Source.TheVariants as source
use Rattle.tcc_words.specs.declared.command.Verb.{Verb}
use Rattle.tcc_words.specs.declared.command.Verb.TheVariants.{Run, Replay, Serial, Trial, Why, Phases, Bus, Trace, Count, State}
use Rattle.tcc_words.specs.declared.command.Verb.TheVariants.{Outcomes, Follow}
use Rattle.tcc_words.specs.declared.command.View.{View}
use Rattle.tcc_words.specs.declared.command.View.TheVariants as view
use Rattle.tcc_words.specs.declared.command.WordsFault.{WordsFault}
use Rattle.tcc_words.specs.declared.command.WordsFault.TheVariants as fault

-- a schedule stands with neither a number of events nor a seed nor the bus, and the bus without directories
pub record GoTogether (rows : List Row) : Type 0 where
  pub schedule : IsSome (first_of (codes "schedule") rows)
      → (first_of (codes "steps") rows ≡ None) × (first_of (codes "seed") rows ≡ None) × (IsFlagged (codes "bus") rows → ⊥)
  pub bus : IsFlagged (codes "bus") rows → first_of (codes "dirs") rows ≡ None

-- the run goes on from a checkpoint, is written down as one, or its consoles are told
abbrev pub IsLong : List Row → Type 0
IsLong rows =
    IsSome (first_of (codes "resume") rows) ⊎ IsSome (first_of (codes "checkpoint") rows) ⊎ IsFlagged (codes "consoles") rows

-- a checkpoint that is resumed stands without a seed, a long run with neither a schedule nor the bus, and its consoles without totals as
-- it goes
pub record MayBeLong (rows : List Row) : Type 0 where
  pub seed : IsSome (first_of (codes "resume") rows) → first_of (codes "seed") rows ≡ None
  pub plain : IsLong rows → (first_of (codes "schedule") rows ≡ None) × (IsFlagged (codes "bus") rows → ⊥)
  pub consoles : IsFlagged (codes "consoles") rows → first_of (codes "every") rows ≡ None

-- each place of the command has its word, and its options go together
abbrev pub HasPlaces : Verb → List Row → Type 0
HasPlaces Run rows = 1 ≤ length (images_of rows)
HasPlaces Replay rows = IsSome (first_of (codes "schedule") rows) × (1 ≤ length (images_of rows))
HasPlaces Serial rows = IsSome (first_of (codes "report") rows) × (1 ≤ length (images_of rows))
HasPlaces Trial rows = IsSome (first_of (codes "kind") rows) × IsSome (first_of (codes "number") rows)
HasPlaces Why rows = IsSome (first_of (codes "schedule") rows) × (1 ≤ length (images_of rows))
HasPlaces Phases rows = 1 ≤ length (images_of rows)
HasPlaces Bus rows = 1 ≤ length (images_of rows)
HasPlaces Trace rows = (1 ≤ length (images_of rows)) × GoTogether rows × MayBeLong rows
HasPlaces Count rows = (1 ≤ length (images_of rows)) × GoTogether rows × MayBeLong rows
HasPlaces State rows = (1 ≤ length (images_of rows)) × GoTogether rows × MayBeLong rows
HasPlaces Outcomes rows = 1 ≤ length (images_of rows)
HasPlaces Follow rows = IsSome (first_of (codes "report") rows) × (1 ≤ length (images_of rows))

-- the first word names a command, and clap takes the words after it; these are the options and places that it reads
pub record Stands (words : List Text) (verb : Verb) (rows : List Row) : Type 0 where
  pub first : slice_get words 0 ≡ Some (verb_word verb)
  pub taken : fault_of (grammar verb) words ≡ []
  pub read : matches_of (grammar verb) words ≡ rows
  pub places : HasPlaces verb rows

-- the settings of the machine that stand there
pub record HasSettings (rows : List Row) (s : Settings) : Type 0 where
  pub cores : IsSaid rows Cores s.cores
  pub dirs : IsSaid rows Dirs s.dirs
  pub sets : IsSaid rows Sets s.sets
  pub ways : IsSaid rows Ways s.ways
  pub ram : IsSaid rows Ram s.ram
  pub base : IsSaid rows Base s.base

-- the machine, and whether all images are raw
abbrev pub HasMachine : List Row → Machine → Type 0
HasMachine rows m = HasSettings rows m.config × (IsTrue m.raw ↔ IsFlagged (codes "raw") rows)

-- a number that must be given, and one that may be
abbrev pub IsGiven : List Row → Text → ℕ → Type 0
IsGiven rows name n = (text : Text) × (first_of name rows ≡ Some text) × IsNumber text n

abbrev pub MayBeGiven : List Row → Text → Option ℕ → Type 0
MayBeGiven rows name n = MatchOption n (first_of name rows ≡ None) (IsGiven rows name)

-- the kind of the workload
abbrev pub HasWork : List Row → Option Work → Type 0
HasWork rows work = first_of (codes "kind") rows ≡ option_map work_word work

-- what makes two outcomes different: consoles, where nothing is said
abbrev pub HasTell : List Row → Tell → Type 0
HasTell rows tell = unwrap_or (first_of (codes "tell") rows) (codes "consoles") ≡ tell_word tell

-- the run that is looked at
abbrev pub AsksSource : List Row → Source → Type 0
AsksSource rows (source.Seed steps seed) =
    (first_of (codes "schedule") rows ≡ None) × IsSaid rows Steps steps × IsSaid rows Seed seed
AsksSource rows (source.Schedule name) = first_of (codes "schedule") rows ≡ Some name

-- how a long run begins: from the checkpoint that is resumed, or by the seed
abbrev pub AsksBegin : List Row → Begin → Type 0
AsksBegin rows (begin.Seed seed) = (first_of (codes "resume") rows ≡ None) × IsSaid rows Seed seed
AsksBegin rows (begin.Checkpoint name) = first_of (codes "resume") rows ≡ Some name

-- a command that looks so
abbrev pub AsksLook : List Row → View → Command → Type 0
AsksLook rows v (command.Look machine images source view) =
    (IsFlagged (codes "bus") rows → ⊥) × (IsLong rows → ⊥) × HasMachine rows machine × (images ≡ images_of rows) × AsksSource rows source
    × (view ≡ v)
AsksLook rows v (command.LookOnBus machine images steps seed view) =
    IsFlagged (codes "bus") rows × HasMachine rows machine × (images ≡ images_of rows) × IsSaid rows Steps steps × IsSaid rows Seed seed
    × (view ≡ v)
AsksLook rows v (command.Long machine images begin steps view keep) =
    (IsFlagged (codes "bus") rows → ⊥) × IsLong rows × HasMachine rows machine × (images ≡ images_of rows) × AsksBegin rows begin
    × IsSaid rows Steps steps × (view ≡ v) × (keep ≡ first_of (codes "checkpoint") rows)
AsksLook rows v _ = ⊥

-- what is told of the run
abbrev pub AsksView : Verb → List Row → View → Type 0
AsksView Trace rows (view.Trace from to states) =
    IsSaid rows From from × IsSaid rows To to × (IsTrue states ↔ IsFlagged (codes "records") rows)
AsksView Count rows (view.Count csv) =
    (first_of (codes "every") rows ≡ None) × (IsFlagged (codes "consoles") rows → ⊥) × (IsTrue csv ↔ IsFlagged (codes "csv") rows)
AsksView Count rows (view.Rows every) = IsGiven rows (codes "every") every
AsksView Count rows (view.Consoles csv) = IsFlagged (codes "consoles") rows × (IsTrue csv ↔ IsFlagged (codes "csv") rows)
AsksView State rows (view.State events) = IsSaid rows Events events
AsksView _ rows v = ⊥

-- the command that is asked for
abbrev pub Asks : Verb → List Row → Command → Type 0
Asks Run rows (command.Run machine images steps seed threads batch keep) =
    HasMachine rows machine × (images ≡ images_of rows) × IsSaid rows Steps steps × IsSaid rows Seed seed
    × MayBeGiven rows (codes "threads") threads × IsSaid rows Batch batch × (keep ≡ first_of (codes "record") rows)
Asks Replay rows (command.Replay machine schedule images) =
    HasMachine rows machine × (first_of (codes "schedule") rows ≡ Some schedule) × (images ≡ images_of rows)
Asks Serial rows (command.Serial machine report images) =
    HasMachine rows machine × (first_of (codes "report") rows ≡ Some report) × (images ≡ images_of rows)
Asks Trial rows (command.Trial config work number steps seed) =
    HasSettings rows config × (first_of (codes "kind") rows ≡ Some (work_word work)) × IsGiven rows (codes "number") number
    × IsSaid rows Steps steps × IsSaid rows Seed seed
Asks Why rows (command.Why machine schedule images) =
    HasMachine rows machine × (first_of (codes "schedule") rows ≡ Some schedule) × (images ≡ images_of rows)
Asks Phases rows (command.Phases machine images steps seed keep) =
    HasMachine rows machine × (images ≡ images_of rows) × IsSaid rows Steps steps × IsSaid rows Seed seed
    × (keep ≡ first_of (codes "record") rows)
Asks Bus rows (command.Bus machine images steps seed) =
    HasMachine rows machine × (images ≡ images_of rows) × IsSaid rows Steps steps × IsSaid rows Seed seed
Asks Trace rows c = (v : View) × AsksLook rows v c × AsksView Trace rows v
Asks Count rows c = (v : View) × AsksLook rows v c × AsksView Count rows v
Asks State rows c = (v : View) × AsksLook rows v c × AsksView State rows v
Asks Outcomes rows (command.Outcomes machine images limits tell) =
    HasMachine rows machine × (images ≡ images_of rows) × IsSaid rows States limits.states × IsSaid rows Longest limits.longest
    × HasTell rows tell
Asks Follow rows (command.Follow machine report images keep) =
    HasMachine rows machine × (first_of (codes "report") rows ≡ Some report) × (images ≡ images_of rows)
    × (keep ≡ first_of (codes "record") rows)
Asks _ _ _ = ⊥

-- what stands in the fields
pub record HasValues (rows : List Row) (v : Values) : Type 0 where
  pub settings : HasSettings rows v.config
  pub steps : IsSaid rows Steps v.steps
  pub seed : IsSaid rows Seed v.seed
  pub from : IsSaid rows From v.from
  pub to : IsSaid rows To v.to
  pub events : IsSaid rows Events v.events
  pub every : MayBeGiven rows (codes "every") v.every
  pub states : IsSaid rows States v.states
  pub longest : IsSaid rows Longest v.longest
  pub tell : HasTell rows v.tell
  pub threads : MayBeGiven rows (codes "threads") v.threads
  pub batch : IsSaid rows Batch v.batch
  pub work : HasWork rows v.work
  pub number : MayBeGiven rows (codes "number") v.number

-- this field is the faulty one
abbrev pub IsFaulty : (IsAllowed : Field → Type 0) → Field → Field → Type 0
IsFaulty IsAllowed f field = (field ≡ f) × (IsAllowed f → ⊥)

-- the words ask for this command, and all that stands in its fields is allowed
pub record IsCommand (words : List Text) (c : Command) : Type 0 where
  pub verb : Verb
  pub rows : List Row
  pub stands : Stands words verb rows
  pub allowed : (field : Field) → AllowsIn verb rows field
  pub asks : Asks verb rows c

-- why words are refused: they don't stand as a command's words do, or the first field in which something stands that isn't allowed
abbrev pub IsRefused : List Text → WordsFault → Type 0
IsRefused words fault.Words = (verb : Verb) (rows : List Row) → Stands words verb rows → ⊥
IsRefused words (fault.Value field) =
    (verb : Verb) × (rows : List Row) × Stands words verb rows × BreaksFirst (AllowsIn verb rows) order field
IsRefused words fault.Memory = Unit {0}
