-- The fields of a command: their words, their defaults, and which values are allowed.
use Rattle.std.specs.Prelude.{ℕ, ◌≡◌, ◌⊎◌, ◌+◌, ◌^◌, ◌%◌, ◌≤◌, List, [], ◌∷◌, ◌++◌, Option, Some, None, IfSome, IsSome, IsTrue, length}
use Rattle.std.specs.Prelude.{codes, unwrap_or}
use Rattle.std.specs.Int.{is_power_of_two}
use Rattle.tcc_base.specs.Limits.{text_limit}
use Rattle.clap.specs.Words.{Row, Text, first_of, all_of}
use Rattle.work_gen.specs.declared.work.Work.{Work}
use Rattle.work_gen.specs.Names.{work_word}
use Rattle.tcc_words.specs.Numbers.{IsNumber}
use Rattle.tcc_words.specs.declared.command.Field.{Field}
use Rattle.tcc_words.specs.declared.command.Field.TheVariants.{Cores, Dirs, Sets, Ways, Ram, Base, Steps, Seed, From, To}
use Rattle.tcc_words.specs.declared.command.Field.TheVariants.{Events, Every, States, Longest, Tell, Threads, Batch, Images, Kind}
use Rattle.tcc_words.specs.declared.command.Field.TheVariants.{Number}
use Rattle.tcc_words.specs.declared.command.Verb.{Verb}
use Rattle.tcc_words.specs.declared.command.Verb.TheVariants.{Count}
use Rattle.run_outcomes.specs.declared.outcomes.Tell.{Tell as Told}
use Rattle.run_outcomes.specs.declared.outcomes.Tell.TheVariants.{Consoles, Memory, Everything}

-- the events of a run that is counted: as many as the machine with directories takes
abbrev pub count_limit : ℕ
count_limit = 2 ^ 40

-- the word of a field: of an option, what stands behind the two hyphens
abbrev pub field_word : Field → Text
field_word Cores = codes "cores"
field_word Dirs = codes "dirs"
field_word Sets = codes "sets"
field_word Ways = codes "ways"
field_word Ram = codes "ram"
field_word Base = codes "base"
field_word Steps = codes "steps"
field_word Seed = codes "seed"
field_word From = codes "from"
field_word To = codes "to"
field_word Events = codes "events"
field_word Every = codes "every"
field_word States = codes "states"
field_word Longest = codes "longest"
field_word Tell = codes "tell"
field_word Threads = codes "threads"
field_word Batch = codes "batch"
field_word Images = codes "images"
field_word Kind = codes "kind"
field_word Number = codes "number"

-- the number of a field that isn't given; the others have none
abbrev pub default_of : Field → ℕ
default_of Cores = 1
default_of Dirs = 1
default_of Sets = 16
default_of Ways = 2
default_of Ram = 65536
default_of Base = 0x80000000
default_of Steps = 1000000
default_of Seed = 0
default_of From = 0
default_of To = text_limit
default_of Events = text_limit
default_of States = 1000000
default_of Longest = 100000
default_of Batch = 1
default_of _ = 0

-- the number that a text writes, or the default where there is none
abbrev pub IsValue : ℕ → Option Text → ℕ → Type 0
IsValue default None n = n ≡ default
IsValue default (Some text) n = IsNumber text n

-- the number of a field, in what clap read
abbrev pub IsSaid : List Row → Field → ℕ → Type 0
IsSaid rows field n = IsValue (default_of field) (first_of (field_word field) rows) n

-- the words that say what makes two outcomes different
abbrev pub tell_word : Told → Text
tell_word Consoles = codes "consoles"
tell_word Memory = codes "memory"
tell_word Everything = codes "all"

-- the names of the images
abbrev pub images_of : List Row → List Text
images_of rows = unwrap_or (all_of (codes "image") rows) []

-- an option without a value stands there, which is kept under the name
abbrev pub IsFlagged : (name : Text) → List Row → Type 0
IsFlagged name rows = first_of name rows ≡ Some (codes "true")

-- what stands in this field is allowed, whichever the command
abbrev pub Allows : List Row → Field → Type 0
Allows rows Cores = (n : ℕ) × IsSaid rows Cores n × (1 ≤ n) × (n ≤ 64)
Allows rows Dirs = (n : ℕ) × IsSaid rows Dirs n × (1 ≤ n) × (n ≤ 64)
Allows rows Sets = (n : ℕ) × IsSaid rows Sets n × IsTrue (is_power_of_two n) × (n ≤ 1024)
Allows rows Ways = (n : ℕ) × IsSaid rows Ways n × (1 ≤ n) × (n ≤ 16)
Allows rows Ram = (n : ℕ) × IsSaid rows Ram n × (32 ≤ n) × (n ≤ 16777216) × (n % 32 ≡ 0)
Allows rows Base = (n ram : ℕ) × IsSaid rows Base n × IsSaid rows Ram ram × (n % 32 ≡ 0) × (n + ram ≤ 2 ^ 32)
Allows rows Steps = (n : ℕ) × IsSaid rows Steps n × (n ≤ count_limit)
Allows rows Seed = (n : ℕ) × IsSaid rows Seed n
Allows rows From = (n : ℕ) × IsSaid rows From n × (n ≤ text_limit)
Allows rows To = (n : ℕ) × IsSaid rows To n × (n ≤ text_limit)
Allows rows Events = (n : ℕ) × IsSaid rows Events n × (n ≤ text_limit)
Allows rows Every = IfSome (first_of (codes "every") rows)
    (λ text. ((n : ℕ) × IsNumber text n × (1 ≤ n) × (n ≤ count_limit)) × (IsFlagged (codes "bus") rows → ⊥))
Allows rows States = (n : ℕ) × IsSaid rows States n × (1 ≤ n) × (n ≤ text_limit)
Allows rows Longest = (n : ℕ) × IsSaid rows Longest n × (1 ≤ n) × (n ≤ text_limit)
Allows rows Tell = IfSome (first_of (codes "tell") rows) (λ text. (t : Told) × (text ≡ tell_word t))
Allows rows Threads = IfSome (first_of (codes "threads") rows)
    (λ text. ((n : ℕ) × IsNumber text n × (1 ≤ n) × (n ≤ 16)) × IsSome (first_of (codes "record") rows))
Allows rows Batch = IfSome (first_of (codes "batch") rows)
    (λ text. ((n : ℕ) × IsNumber text n × (1 ≤ n) × (n ≤ 1024)) × IsSome (first_of (codes "threads") rows))
Allows rows Images = length (images_of rows) ≤ 16
Allows rows Kind = IfSome (first_of (codes "kind") rows) (λ text. (work : Work) × (text ≡ work_word work))
Allows rows Number = IfSome (first_of (codes "number") rows) (λ text. (n : ℕ) × IsNumber text n × (1 ≤ n) × (n ≤ 2047))

-- so many events are few enough for this command: `count` takes more than a schedule's text has, but not on the bus
abbrev pub AreFew : Verb → List Row → (n : ℕ) → Type 0
AreFew Count rows n = (n ≤ count_limit) × (IsFlagged (codes "bus") rows → n ≤ text_limit)
AreFew _ rows n = n ≤ text_limit

-- what stands in this field is allowed in this command
abbrev pub AllowsIn : Verb → List Row → Field → Type 0
AllowsIn verb rows Steps = (n : ℕ) × IsSaid rows Steps n × AreFew verb rows n
AllowsIn verb rows field = Allows rows field

-- the order in which the fields are tested: those of the machine, and the others
abbrev pub machine_fields : List Field
machine_fields = Cores ∷ Dirs ∷ Sets ∷ Ways ∷ Ram ∷ Base ∷ []

abbrev pub order : List Field
order =
    machine_fields ++ Steps ∷ Seed ∷ From ∷ To ∷ Events ∷ Every ∷ States ∷ Longest ∷ Tell ∷ Threads ∷ Batch ∷ Images ∷ Kind ∷ Number ∷ []

-- the first of these fields in which something stands that isn't allowed
abbrev pub BreaksFirst : (IsAllowed : Field → Type 0) → List Field → Field → Type 0
BreaksFirst IsAllowed [] field = ⊥
BreaksFirst IsAllowed (f ∷ later) field = ((field ≡ f) × (IsAllowed f → ⊥)) ⊎ (IsAllowed f × BreaksFirst IsAllowed later field)
