-- The text of a report: which lines stand in it, and in what order.
use Rattle.std.specs.Prelude.{ℕ, List, [], ◌∷◌, ◌++◌, ◌+◌, ◌*◌, ◌==◌, if◌then◌else◌, Bool, codes}
use Rattle.std.specs.List.{flat_map, range_with_len}
use Rattle.tcc_base.specs.declared.access.Commit.{Commit}
use Rattle.rules_program.specs.Registers.{register}
use Rattle.report_text.specs.Shown.{ShownCore, Shown}
use Rattle.report_text.specs.Lines.{newline, end_line, events_line, commit_line, load_line, core_line, pc_line, reg_line, console_line}
use Rattle.report_text.specs.Lines.{mem_line}

-- a commit, then its loads in order
unfoldable pub commit_text : Commit → List ℕ
commit_text c = commit_line c ++ flat_map load_line c.loads

-- a register, where it isn't 0
unfoldable pub register_text : (regs : List ℕ) → (r : ℕ) → List ℕ
register_text regs r = (if register regs r == 0 then [] else reg_line r (register regs r))

-- x1 to x31
unfoldable pub registers_text : (regs : List ℕ) → List ℕ
registers_text regs = flat_map (register_text regs) (range_with_len 1 31)

-- only where there are bytes
unfoldable pub console_text : (console : List ℕ) → List ℕ
console_text [] = []
console_text (byte ∷ bytes) = console_line (byte ∷ bytes)

unfoldable pub core_text : (core : ℕ) → ShownCore → List ℕ
core_text core c = core_line core c.ended ++ pc_line c.pc ++ registers_text c.regs ++ console_text c.console

-- the cores from this number on
unfoldable pub cores_text : (core : ℕ) → List ShownCore → List ℕ
cores_text core [] = []
cores_text core (c ∷ cs) = core_text core c ++ cores_text (core + 1) cs

-- a word of RAM, where it differs from what was loaded
unfoldable pub word_text : (base : ℕ) → (ram loaded : ℕ → ℕ) → (word : ℕ) → List ℕ
word_text base ram loaded word = (if ram word == loaded word then [] else mem_line (base + 4 * word) (ram word))

unfoldable pub ram_text : (base count : ℕ) → (ram loaded : ℕ → ℕ) → List ℕ
ram_text base count ram loaded = flat_map (word_text base ram loaded) (range_with_len 0 count)

-- what every report shows: the commits, the cores as they ended, and the words that changed
unfoldable pub body_text : Shown → List ℕ
body_text s = flat_map commit_text s.commits ++ cores_text 0 s.cores ++ ram_text s.base s.count s.ram s.loaded

-- how a run ended: whether it is done, how many events it took, and the state that it committed
unfoldable pub ended_text : (done : Bool) → (events : ℕ) → Shown → List ℕ
ended_text done events s = end_line done ++ events_line events ++ body_text s

-- the report of a run
unfoldable pub report_text : (done : Bool) → (events : ℕ) → Shown → List ℕ
report_text done events s = codes "tcc-report 1" ++ newline ++ ended_text done events s

-- the report of a run of the machine with one bus
unfoldable pub bus_text : (done : Bool) → (events : ℕ) → Shown → List ℕ
bus_text done events s = codes "tcc-bus 1" ++ newline ++ ended_text done events s

-- the report of a serial execution
unfoldable pub serial_text : Shown → List ℕ
serial_text s = codes "tcc-serial 1" ++ newline ++ body_text s
