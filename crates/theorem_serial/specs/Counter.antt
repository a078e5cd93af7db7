-- A program that suits, and a run of it on two cores: so what is said of all runs is said of some. Both cores count in the same word. The
-- first also stores in another line and its cache has one frame, so it goes on alone; what the second had read is stored meanwhile,
-- so it is violated, and counts anew.
use Rattle.std.specs.Prelude.{ℕ, ◌≡◌, ◌+◌, ◌*◌, ◌%◌, ◌^◌, List, [], ◌∷◌, ◌++◌, slice_index, slice_index_or, Option, Some, None, option_map}
use Rattle.std.specs.Prelude.{unwrap_or}
use Rattle.tcc_base.specs.declared.access.Commit.{Commit as Noted}
use Rattle.tcc_base.specs.declared.access.CoreEnd.TheVariants.{Halt}
use Rattle.tcc_base.specs.declared.access.Load.{Load}
use Rattle.tcc_base.specs.declared.access.Size.TheVariants.{Word}
use Rattle.tcc_base.specs.declared.access.Stored.{Stored}
use Rattle.rules_program.specs.Plain.{PlainCore, load_of, store_of}
use Rattle.rules_program.specs.Program.{Local, Need, Nothing, Loads, Stores, Prints, Ends, Halts, Program}
use Rattle.rules_maps.specs.Nodes.{Event}
use Rattle.rules_maps.specs.Shape.{Shape}
use Rattle.rules_tcc.specs.Rows.{e, x, d, c0, c1, d0, d1, v}
use Rattle.rules_tcc.specs.State.{Solo, start}
use Rattle.rules_tcc.specs.Step.{History, run}
use Rattle.rules_tcc.specs.Useful.{useful}
use Rattle.theorem_serial.specs.Theorem.{Suits}
use Rattle.theorem_serial.specs.Shown.{shown}

-- the program

-- two cores whose caches have one frame, two directories, four lines
abbrev pub two_cores : Shape
two_cores = record { cores = 2; dirs = 2; sets = 1; ways = 1; base = 0x80000000; ram = 128 }

-- the words, in lines 2 and 3
abbrev pub counter : ℕ
counter = 0x80000040

abbrev pub beside : ℕ
beside = 0x80000060

-- an instruction of a core with one register
pub data Inst : Type 0 where
  Passes : Inst
  Gets : Inst  -- loads the counter
  Counts : Inst  -- the register is one more
  Puts : Inst  -- stores it in the counter
  PutsBeside : Inst  -- and in the other word
  Says : Inst  -- prints a one
  Finishes : Inst
  Stops : (code : ℕ) → Inst

-- those of the first core, and from 8 on those of the second
abbrev pub code : List Inst
code =
    Passes ∷ Gets ∷ Counts ∷ Puts ∷ PutsBeside ∷ Finishes ∷ Passes ∷ Stops 0 ∷
    Passes ∷ Gets ∷ Counts ∷ Puts ∷ Passes ∷ Says ∷ Passes ∷ Stops 1 ∷ []

-- past the end it halts
abbrev pub at_pc : ℕ → Inst
at_pc pc = slice_index_or code pc (Stops 0)

abbrev pub register : Local → ℕ
register l = slice_index l.regs 0

abbrev pub inst_need : Inst → (value : ℕ) → Need
inst_need Passes y = Nothing
inst_need Gets y = Loads counter Word
inst_need Counts y = Nothing
inst_need Puts y = Stores counter Word (y % 2 ^ 32)
inst_need PutsBeside y = Stores beside Word (y % 2 ^ 32)
inst_need Says y = Prints 1
inst_need Finishes y = Ends
inst_need (Stops code) y = Halts code

abbrev pub value_after : Inst → (value : ℕ) → (given : Option ℕ) → ℕ
value_after Gets y given = unwrap_or given 0
value_after Counts y given = y + 1
value_after _ y given = y

abbrev pub local_of : (value pc : ℕ) → Local
local_of value pc = record { regs = value ∷ []; pc = pc; reserved = None }

unfoldable pub counting : Program
counting = record {
  need = λ l. inst_need (at_pc l.pc) (register l);
  after = λ l given. local_of (value_after (at_pc l.pc) (register l) given) (l.pc + 1);
}

abbrev pub entries : ℕ → Local
entries c = local_of 0 (8 * c)

abbrev pub no_ram : ℕ → ℕ
no_ram w = 0

-- it suits
abbrev pub CountingSuits : Type 0
CountingSuits = Suits two_cores counting no_ram

-- the schedule

-- both count, and the first overflows until it is alone
abbrev pub goes_alone : List Event
goes_alone =
    e 0 ∷ e 1 ∷ e 0 ∷ e 1 ∷ d c1 d0 0 ∷ d c0 d0 0 ∷ d d0 c0 0 ∷ e 0 ∷ e 0 ∷ e 0 ∷ e 0 ∷ d d0 c1 0 ∷ d c0 v 0 ∷ e 1 ∷
    d v c0 0 ∷ d c0 d1 0 ∷ d c0 d0 1 ∷ d d1 c0 0 ∷ d d0 c0 1 ∷ []

-- it commits, and halts in a further transaction; the second still has what it read
abbrev pub commits_alone : List Event
commits_alone =
    x 0 0 0 ∷ e 0 ∷ e 0 ∷ e 0 ∷ x 0 0 0 ∷ d c0 d0 2 ∷ d c0 d1 1 ∷ e 0 ∷ d c0 v 1 ∷ d c0 d0 3 ∷ d v c0 1 ∷ d c0 d1 2 ∷
    d c0 d1 4 ∷ d c0 d1 3 ∷ []

-- the invalidation comes to the second
abbrev pub is_violated : List Event
is_violated = d d0 c1 1 ∷ []

-- it counts anew, commits and halts, until nothing is left to be done
abbrev pub counts_anew : List Event
counts_anew =
    d c1 d0 1 ∷ e 1 ∷ d c0 d0 4 ∷ e 1 ∷ d c0 d0 5 ∷ d c1 d0 2 ∷ d d0 c1 2 ∷ e 0 ∷ e 1 ∷ e 1 ∷ e 1 ∷ e 1 ∷ e 1 ∷ e 1 ∷
    e 1 ∷ d c1 v 0 ∷ d v c1 0 ∷ d c1 d0 3 ∷ d c1 d1 0 ∷ d d0 c1 3 ∷ e 1 ∷ d c1 d0 4 ∷ d c1 d0 5 ∷ d d0 c0 2 ∷
    d c0 d0 6 ∷ x 1 0 0 ∷ d c1 d0 6 ∷ []

-- what holds after events

abbrev pub Ran : {A : Type 0} → (History → A) → List Event → A → Type 0
Ran f es y = option_map f (run two_cores counting (start entries no_ram) es) ≡ Some y

abbrev pub GoesAlone : Type 0
GoesAlone = Ran (λ h. (h.world.cores 0).phase) goes_alone (Solo 1)

abbrev pub loads_of_second : History → List Load
loads_of_second h = (h.world.cores 1).loads

abbrev pub HasRead : Type 0
HasRead = Ran loads_of_second (goes_alone ++ commits_alone) (load_of counter Word 0 ∷ [])

abbrev pub IsViolated : Type 0
IsViolated = Ran loads_of_second (goes_alone ++ commits_alone ++ is_violated) []

abbrev pub commit : (tid core n : ℕ) → List Load → List Stored → (console : List ℕ) → Noted
commit t c n loads stores console = record {
  tid = record { 0 = t };
  core = record { 0 = c };
  n = n;
  loads = loads;
  stores = stores;
  console = console;
}

abbrev pub whole_schedule : List Event
whole_schedule = goes_alone ++ commits_alone ++ is_violated ++ counts_anew

-- three commits: of the first core alone, its halt, and of the second after its violation
abbrev pub three_commits : List Noted
three_commits =
    commit 1 0 6 (load_of counter Word 0 ∷ []) (store_of counter Word 1 ∷ store_of beside Word 1 ∷ []) [] ∷
    commit 2 0 2 [] [] [] ∷
    commit 3 1 8 (load_of counter Word 1 ∷ []) (store_of counter Word 2 ∷ []) (1 ∷ []) ∷ []

abbrev pub halted_core : (value pc code : ℕ) → (console : List ℕ) → PlainCore
halted_core value pc code console = record { local = local_of value pc; ended = Halt code; console = console }

abbrev pub CountsOn : Type 0
CountsOn = Ran (shown two_cores no_ram) whole_schedule (record {
  commits = three_commits;
  cores = halted_core 1 7 0 [] ∷ halted_core 2 15 1 (1 ∷ []) ∷ [];
  words = (16, 2) ∷ (24, 1) ∷ [];
})

-- no event is useful then
abbrev pub NothingIsLeft : Type 0
NothingIsLeft = Ran (λ h. useful two_cores counting h.world) whole_schedule []
