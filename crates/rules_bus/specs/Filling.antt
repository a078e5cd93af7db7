-- Schedules that are worked by hand, on what is filled from memory. In each the line's word 1 is read while a packet that has it is still
-- to be taken: a core that had filled the line finds the old word, 101, and one that hadn't finds memory's new one, 9.
use Rattle.std.specs.Prelude.{ℕ, List, [], ◌∷◌}
use Rattle.rules_program.specs.Program.{Ends, Need}
use Rattle.rules_tcc.specs.Needs.{Codes, add, lb, lw, sb, sw}
use Rattle.rules_tcc.specs.Told.{machine}
use Rattle.rules_bus.specs.State.{BusEvent}
use Rattle.rules_bus.specs.Told.{Finds, e}

-- a core stores word 0, does this and reads word 1
abbrev pub then_read : Need → Codes
then_read n = (sw 0 5 ∷ n ∷ lw 1 ∷ Ends ∷ []) ∷ (sw 1 9 ∷ Ends ∷ []) ∷ []

-- the other core commits in between
abbrev pub in_between : List BusEvent
in_between = e 0 ∷ e 0 ∷ e 1 ∷ e 1 ∷ e 1 ∷ e 0 ∷ []

abbrev pub then_finds : Need → List ℕ → Type 0
then_finds n xs = Finds (machine 2 1 1 1 256) (then_read n) in_between 0 xs

-- what reads a word of a line fills the line, also where the word is valid since it was stored; what stores a whole word doesn't
abbrev pub ValidWordsFill : Type 0
ValidWordsFill =
    then_finds (lw 0) (101 ∷ 5 ∷ [])
    × then_finds (lb 0 0) (101 ∷ 5 ∷ [])
    × then_finds (sb 0 1 7) (101 ∷ [])
    × then_finds (add 0 1) (101 ∷ 5 ∷ [])
    × then_finds (sw 0 6) (9 ∷ [])
