-- What commits print, told as they come: a line for each that printed something.
use Rattle.std.specs.Prelude.{ℕ, zero, suc, ◌≡◌, List, [], ◌∷◌, ◌++◌, Option, Some, None, codes, length}
use Rattle.std.specs.Fmt.{decimal}
use Rattle.std.specs.List.{flat_map}
use Rattle.base_digits.specs.Digits.{hex}
use Rattle.image_load.specs.Start.{Start}
use Rattle.report_text.specs.Lines.{newline}
use Rattle.rules_maps.specs.Nodes.{Event}
use Rattle.rules_maps.specs.Shape.{Shape}
use Rattle.rules_program.specs.Program.{Program}
use Rattle.rules_riscv.specs.Starting.{world_at_start}
use Rattle.rules_tcc.specs.State.{World}
use Rattle.rules_tcc.specs.Step.{Stepped, step}
use Rattle.rv_code.specs.Machine.{program}
use Rattle.tcc_base.specs.declared.access.Commit.{Commit}

-- the commit that a step noted, and those behind it
abbrev pub noted_then : Option Commit → List Commit → List Commit
noted_then None cs = cs
noted_then (Some c) cs = c ∷ cs

abbrev pub if_noted : (later : World → List Commit) → Option Stepped → List Commit
if_noted later None = []
if_noted later (Some o) = noted_then o.noted (later o.world)

-- the commits that these events note, in the order in which they do
unfoldable pub noted_of : Shape → Program → List Event → World → List Commit
noted_of sh p [] w = []
noted_of sh p (e ∷ es) w = if_noted (noted_of sh p es) (step sh p w e)

abbrev pub if_stepped : (later : World → List Commit) → Option Stepped → List Commit
if_stepped later None = []
if_stepped later (Some o) = later o.world

-- those that the events from number `first` on note
unfoldable pub noted_from : Shape → Program → (first : ℕ) → List Event → World → List Commit
noted_from sh p zero es w = noted_of sh p es w
noted_from sh p (suc first) [] w = []
noted_from sh p (suc first) (e ∷ es) w = if_stepped (noted_from sh p first es) (step sh p w e)

-- the line of a commit; one that printed nothing has none
abbrev pub printed_text : (tid core : ℕ) → (console : List ℕ) → List ℕ
printed_text t c [] = []
printed_text t c (byte ∷ bytes) =
    codes "printed " ++ decimal t ++ codes " " ++ decimal c ++ codes " " ++ flat_map (hex 2) (byte ∷ bytes) ++ newline

unfoldable pub printed_line : Commit → List ℕ
printed_line c = printed_text c.tid.0 c.core.0 c.console

abbrev pub noted_text : Option Commit → List ℕ
noted_text None = []
noted_text (Some c) = printed_line c

-- the lines of the commits that a run's events from number `first` on note
unfoldable pub printed_from : (first : ℕ) → Start → List Event → List ℕ
printed_from first s es = flat_map printed_line (noted_from s.settings (program s) first es (world_at_start s))

-- the line with which consoles begin
abbrev pub consoles_head : List ℕ
consoles_head = codes "tcc-consoles 1" ++ newline

-- what is written of the first events and then of the others is what is written of all
abbrev pub ConsolesJoin : Type 0
ConsolesJoin = (s : Start) (firsts more : List Event)
    → printed_from 0 s firsts ++ printed_from (length firsts) s (firsts ++ more) ≡ printed_from 0 s (firsts ++ more)
