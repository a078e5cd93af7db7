-- A schedule up to its end: three cores that change a word, print, halt and trap.
use Rattle.std.specs.Prelude.{List, [], ◌∷◌}
use Rattle.rules_program.specs.Program.{Prints, Halts, Traps}
use Rattle.rules_program.specs.Plain.{Halted as HaltedWith, Trapped as TrappedWith}
use Rattle.rules_maps.specs.Nodes.{Event}
use Rattle.rules_tcc.specs.State.{Halted}
use Rattle.rules_tcc.specs.Rows.{e, x, d, c0, c1, d0, d1, v}
use Rattle.rules_tcc.specs.Needs.{lw, sb, sh, add}
use Rattle.rules_tcc.specs.Told.{Told, machine, Tells}
use Rattle.rules_tcc.specs.Names.{c2, noted_commit, stands, got, wrote, wrote_byte, wrote_half}

-- two cores add to one word, the third stores a part; one is violated, owners are asked, and all halt
abbrev pub whole_run_events : List Event
whole_run_events =
    e 0 ∷ e 2 ∷ e 1 ∷ d c0 d0 0 ∷ d c2 d1 0 ∷ d d1 c2 0 ∷ e 2 ∷ d c1 d0 0 ∷ e 2 ∷ e 2 ∷ d c2 v 0 ∷ d d0 c1 0 ∷ e 1 ∷ e 1 ∷
    e 1 ∷ d d0 c0 0 ∷ d v c2 0 ∷ e 0 ∷ e 0 ∷ e 0 ∷ e 0 ∷ d c2 d0 0 ∷ d c2 d1 1 ∷ d c0 v 0 ∷ d c1 v 0 ∷ d v c1 0 ∷ d c1 d1 0 ∷
    d v c0 0 ∷ d c0 d1 0 ∷ d c0 d0 1 ∷ d d1 c2 1 ∷ e 2 ∷ x 2 1 0 ∷ d c2 d1 2 ∷ d c2 d1 3 ∷ d c2 d1 4 ∷ d d0 c0 1 ∷ d c0 d0 2 ∷
    e 0 ∷ d c0 d0 3 ∷ d d0 c1 1 ∷ d c1 d0 2 ∷ d c1 d0 3 ∷ d c1 d0 1 ∷ d d0 c1 2 ∷ e 1 ∷ d c1 d0 4 ∷ d d0 c0 2 ∷ d c0 d0 4 ∷
    d c1 d0 4 ∷ d d0 c1 3 ∷ e 1 ∷ e 1 ∷ e 1 ∷ d c1 v 1 ∷ d v c1 1 ∷ d c1 d1 1 ∷ d c1 d0 5 ∷ d d0 c1 4 ∷ e 1 ∷ x 1 0 0 ∷
    d c1 d0 6 ∷ d c1 d0 7 ∷ d c1 d0 8 ∷ d d0 c0 3 ∷ d c0 d0 5 ∷ []

abbrev pub whole_run : Told
whole_run = record {
  commits =
      noted_commit 1 2 3 (got 8 108 ∷ []) (wrote_half 8 2 9 ∷ []) [] ∷
      noted_commit 2 0 4 (got 0 100 ∷ []) (wrote 0 105 ∷ wrote_byte 1 2 7 ∷ []) (65 ∷ []) ∷
      noted_commit 4 1 3 (got 0 105 ∷ []) (wrote 0 111 ∷ []) (66 ∷ []) ∷ [];
  cores =
      stands 3 (100 ∷ []) Halted (HaltedWith 3) [] ∷ stands 18 (105 ∷ []) Halted (HaltedWith 4) [] ∷
      stands 34 (108 ∷ []) Halted (TrappedWith 3) [] ∷ [];
  words = (0, 111) ∷ (1, 458853) ∷ (8, 589932) ∷ [];
  useful = [];
}

abbrev pub WholeRun : Type 0
WholeRun =
    Tells (machine 3 2 2 2 512)
    ((add 0 5 ∷ sb 1 2 7 ∷ Prints 65 ∷ Halts 3 ∷ []) ∷
    (add 0 6 ∷ Prints 66 ∷ Halts 4 ∷ []) ∷
    (lw 8 ∷ sh 8 2 9 ∷ Traps 3 ∷ []) ∷
    [])
    whole_run_events whole_run

abbrev pub WholeAre : Type 0
WholeAre = WholeRun
