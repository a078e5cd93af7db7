-- The words that each command takes, as the options and places that clap reads.
use Rattle.std.specs.Prelude.{◌≢◌, true, List, [], ◌∷◌, ◌++◌, Some, codes}
use Rattle.clap.specs.Words.{App, Rule, Text, new_rule}
use Rattle.clap.specs.Simple.{new_shape, on_top}
use Rattle.clap.specs.Kinds.{Kinds}
use Rattle.clap.specs.declared.builder.action.ArgAction.TheVariants.{Append, SetTrue}
use Rattle.tcc_words.specs.declared.command.WordsFault.{WordsFault}
use Rattle.tcc_words.specs.declared.command.WordsFault.TheVariants as fault
use Rattle.tcc_words.specs.declared.command.Verb.{Verb}
use Rattle.tcc_words.specs.declared.command.Verb.TheVariants.{Run, Replay, Serial, Trial, Why, Phases, Bus, Trace, Count, State}
use Rattle.tcc_words.specs.declared.command.Verb.TheVariants.{Outcomes, Follow}

-- the first word of a command
abbrev pub verb_word : Verb → Text
verb_word Run = codes "run"
verb_word Replay = codes "replay"
verb_word Serial = codes "serial"
verb_word Trial = codes "trial"
verb_word Why = codes "why"
verb_word Phases = codes "phases"
verb_word Bus = codes "bus"
verb_word Trace = codes "trace"
verb_word Count = codes "count"
verb_word State = codes "state"
verb_word Outcomes = codes "outcomes"
verb_word Follow = codes "follow"

-- an option with a value, `--name value` or `--name=value`, at most once
abbrev pub option : Text → Rule
option name = record (new_rule name) { long = Some name }

-- an option without a value, `--word`, at most once, which is kept under the name
abbrev pub flag : (name word : Text) → Rule
flag name word = record (new_rule name) { long = Some word; action = Some SetTrue }

-- a word that must stand there, and one or more
abbrev pub place : Text → Rule
place name = record (new_rule name) { required = true }

abbrev pub places : Text → Rule
places name = record (place name) { action = Some Append }

-- the options of the nodes, and those where there are no directories; of memory and images; and of the events
abbrev pub node_rules : List Rule
node_rules = option (codes "cores") ∷ option (codes "dirs") ∷ option (codes "sets") ∷ option (codes "ways") ∷ []

abbrev pub core_rules : List Rule
core_rules = option (codes "cores") ∷ option (codes "sets") ∷ option (codes "ways") ∷ []

abbrev pub memory_rules : List Rule
memory_rules = option (codes "ram") ∷ option (codes "base") ∷ flag (codes "raw") (codes "raw") ∷ []

abbrev pub machine_rules : List Rule
machine_rules = node_rules ++ memory_rules

abbrev pub event_rules : List Rule
event_rules = option (codes "steps") ∷ option (codes "seed") ∷ []

-- the option of the record and the images of a run, and the file and the images of what works on a file
abbrev pub record_rules : List Rule
record_rules = option (codes "record") ∷ places (codes "image") ∷ []

abbrev pub file_rules : Text → List Rule
file_rules file = machine_rules ++ place file ∷ places (codes "image") ∷ []

-- the machine, and the run that is looked at: by a seed, on the bus too, or by a schedule
abbrev pub source_rules : List Rule
source_rules = machine_rules ++ event_rules ++ option (codes "schedule") ∷ flag (codes "bus") (codes "bus") ∷ []

-- run [..] IMAGE...    replay [..] SCHEDULE IMAGE...    serial [..] REPORT IMAGE...    trial [..] KIND NUMBER
-- why [..] SCHEDULE IMAGE...    phases [..] IMAGE...    bus [..] IMAGE...
-- trace [..] IMAGE...    count [..] IMAGE...    state [..] IMAGE...    outcomes [..] IMAGE...    follow [..] LIST IMAGE...
abbrev pub rules : Verb → List Rule
rules Run = machine_rules ++ event_rules ++ option (codes "threads") ∷ option (codes "batch") ∷ record_rules
rules Replay = file_rules (codes "schedule")
rules Serial = file_rules (codes "report")
rules Trial = node_rules ++ event_rules ++ place (codes "kind") ∷ place (codes "number") ∷ []
rules Why = file_rules (codes "schedule")
rules Phases = machine_rules ++ event_rules ++ record_rules
rules Bus = core_rules ++ memory_rules ++ event_rules ++ places (codes "image") ∷ []
rules Trace =
    source_rules ++ option (codes "from") ∷ option (codes "to") ∷ flag (codes "records") (codes "states") ∷ option (codes "resume")
    ∷ places (codes "image") ∷ []
rules Count =
    source_rules ++ flag (codes "csv") (codes "csv") ∷ option (codes "every") ∷ flag (codes "consoles") (codes "consoles")
    ∷ option (codes "resume") ∷ option (codes "checkpoint") ∷ places (codes "image") ∷ []
rules State = source_rules ++ option (codes "events") ∷ option (codes "resume") ∷ places (codes "image") ∷ []
rules Outcomes =
    option (codes "cores") ∷ memory_rules ++ option (codes "states") ∷ option (codes "longest") ∷ option (codes "tell")
    ∷ places (codes "image") ∷ []
rules Follow = machine_rules ++ option (codes "record") ∷ place (codes "report") ∷ places (codes "image") ∷ []

-- a simple command of clap's, without help
abbrev pub plain : Text → List Rule → App
plain name its_rules = record { top = record (new_shape name) { rules = its_rules; disable_help_flag = true }; subs = [] }

-- the command; its first word stands where clap expects the program's name
unfoldable pub grammar : Verb → App
grammar verb = plain (verb_word verb) (rules verb)

-- clap's refusal of words for one of these kinds of error, and want of memory
abbrev pub IsRefusal : Kinds → WordsFault → Type 0
IsRefusal kinds fault.Words = kinds ≢ []
IsRefusal kinds (fault.Value field) = ⊥
IsRefusal kinds fault.Memory = Unit {0}

-- more rules, behind those that are there
abbrev pub with_rules : List Rule → App → App
with_rules more app = on_top (λ s. record s { rules = s.rules ++ more }) app
