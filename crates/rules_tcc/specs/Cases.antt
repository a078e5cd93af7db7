-- Schedules of which each ends otherwise by a rule that is nearly the same: each names the rule that it shows.
use Rattle.std.specs.Prelude.{List, [], ◌∷◌}
use Rattle.rules_program.specs.Program.{Ends}
use Rattle.rules_program.specs.Plain.{Goes}
use Rattle.rules_maps.specs.Nodes.{Event}
use Rattle.rules_tcc.specs.State.{Running}
use Rattle.rules_tcc.specs.Rows.{e, x, d, c0, c1, d0, d1, v}
use Rattle.rules_tcc.specs.Needs.{lw, sw, sb}
use Rattle.rules_tcc.specs.Told.{Told, machine, Tells}
use Rattle.rules_tcc.specs.Names.{noted_commit, stands, got, wrote}

-- a load request waits for the core's own last commit there, and the line that it is for isn't evicted
abbrev pub own_commit_first_events : List Event
own_commit_first_events =
    e 0 ∷ e 0 ∷ d c0 v 0 ∷ d v c0 0 ∷ d c0 d0 0 ∷ d d0 c0 0 ∷ e 0 ∷ e 0 ∷ []

abbrev pub own_commit_first : Told
own_commit_first = record {
  commits = noted_commit 1 0 2 [] (wrote 0 4 ∷ []) [] ∷ [];
  cores = stands 2 [] Running Goes [] ∷ stands 16 [] Running Goes [] ∷ [];
  words = (0, 4) ∷ [];
  useful = e 1 ∷ d c0 d0 1 ∷ [];
}

abbrev pub OwnCommitFirst : Type 0
OwnCommitFirst =
    Tells (machine 2 1 1 1 256)
    ((sw 0 4 ∷ Ends ∷ lw 1 ∷ []) ∷ [] ∷ [])
    own_commit_first_events own_commit_first

-- an acknowledgement says what is valid after the roll back: the stored word isn't, and the sharer leaves
abbrev pub keeps_nothing_events : List Event
keeps_nothing_events =
    e 1 ∷ e 1 ∷ e 1 ∷ e 0 ∷ e 1 ∷ e 1 ∷ e 1 ∷ e 1 ∷ e 1 ∷ e 1 ∷ d c0 d0 0 ∷ d c1 v 0 ∷ d v c1 0 ∷ d d0 c0 0 ∷ d c1 d0 0 ∷ e 0 ∷
    d d0 c1 0 ∷ e 0 ∷ e 1 ∷ d c1 d0 1 ∷ e 1 ∷ e 1 ∷ d c1 v 1 ∷ d v c1 1 ∷ d c1 d0 2 ∷ d d0 c0 1 ∷ d c1 d0 3 ∷ d c0 d0 1 ∷
    d c1 d0 4 ∷ d d0 c1 1 ∷ e 1 ∷ d c1 d0 5 ∷ d c1 d0 6 ∷ []

abbrev pub keeps_nothing : Told
keeps_nothing = record {
  commits =
      noted_commit 1 1 9 []
      (wrote 0 20 ∷ wrote 1 21 ∷ wrote 2 22 ∷ wrote 3 23 ∷ wrote 4 24 ∷ wrote 5 25 ∷ wrote 6 26 ∷ wrote 7 27 ∷ []) [] ∷
      noted_commit 2 1 2 [] (wrote 0 3 ∷ []) [] ∷ [];
  cores = stands 0 [] Running Goes [] ∷ stands 27 [] Running Goes [] ∷ [];
  words = (0, 3) ∷ (1, 21) ∷ (2, 22) ∷ (3, 23) ∷ (4, 24) ∷ (5, 25) ∷ (6, 26) ∷ (7, 27) ∷ [];
  useful = e 0 ∷ e 1 ∷ x 1 0 0 ∷ [];
}

abbrev pub KeepsNothing : Type 0
KeepsNothing =
    Tells (machine 2 1 1 1 256)
    ((lw 0 ∷ sw 1 5 ∷ []) ∷
    (sw 0 20 ∷ sw 1 21 ∷ sw 2 22 ∷ sw 3 23 ∷ sw 4 24 ∷ sw 5 25 ∷ sw 6 26 ∷ sw 7 27 ∷ Ends ∷ sw 0 3 ∷ Ends ∷ []) ∷
    [])
    keeps_nothing_events keeps_nothing

-- a violated core gives up its TID before it acknowledges; a part of a word was stored, which reads it
abbrev pub abort_goes_first_events : List Event
abort_goes_first_events =
    e 0 ∷ e 1 ∷ e 1 ∷ d c1 v 0 ∷ d c0 d0 0 ∷ d d0 c0 0 ∷ e 0 ∷ e 0 ∷ e 0 ∷ d v c1 0 ∷ d c1 d0 0 ∷ d c0 v 0 ∷ d d0 c1 0 ∷
    d c1 d0 1 ∷ d v c0 0 ∷ e 1 ∷ d c1 d0 2 ∷ d d0 c0 1 ∷ d c0 d0 2 ∷ []

abbrev pub abort_goes_first : Told
abort_goes_first = record {
  commits = noted_commit 1 1 2 [] (wrote 0 9 ∷ []) [] ∷ [];
  cores = stands 0 [] Running Goes [] ∷ stands 18 [] Running Goes [] ∷ [];
  words = (0, 9) ∷ [];
  useful = e 0 ∷ e 1 ∷ x 1 0 0 ∷ d c0 d0 3 ∷ [];
}

abbrev pub AbortGoesFirst : Type 0
AbortGoesFirst =
    Tells (machine 2 1 1 2 256)
    ((sb 0 1 7 ∷ sw 8 3 ∷ []) ∷ (sw 0 9 ∷ Ends ∷ []) ∷ [])
    abort_goes_first_events abort_goes_first

-- a core that commits alone sends its marks before the spilled words, and loads these anew
abbrev pub spilled_words_leave_events : List Event
spilled_words_leave_events =
    e 0 ∷ e 0 ∷ d c0 v 0 ∷ d v c0 0 ∷ d c0 d0 0 ∷ d d0 c0 0 ∷ x 0 0 0 ∷ e 0 ∷ x 0 0 0 ∷ e 0 ∷ d c0 d0 1 ∷ d d0 c0 1 ∷ e 0 ∷
    e 0 ∷ e 0 ∷ []

abbrev pub spilled_words_leave : Told
spilled_words_leave = record {
  commits = noted_commit 1 0 4 (got 1 101 ∷ []) (wrote 0 5 ∷ wrote 8 6 ∷ []) [] ∷ [];
  cores = stands 4 (101 ∷ []) Running Goes [] ∷ stands 16 [] Running Goes [] ∷ [];
  words = (0, 5) ∷ (8, 6) ∷ [];
  useful = e 1 ∷ d c0 d0 2 ∷ d c0 d0 3 ∷ [];
}

abbrev pub SpilledWordsLeave : Type 0
SpilledWordsLeave =
    Tells (machine 2 1 1 1 256)
    ((sw 0 5 ∷ sw 8 6 ∷ lw 1 ∷ Ends ∷ lw 0 ∷ []) ∷ [] ∷ [])
    spilled_words_leave_events spilled_words_leave

-- the served TID is given up: its marks are cleared, and who loads there need not wait
abbrev pub abort_clears_marks_events : List Event
abort_clears_marks_events =
    e 0 ∷ e 0 ∷ d c0 d1 0 ∷ d d1 c0 0 ∷ e 0 ∷ e 0 ∷ e 1 ∷ e 1 ∷ d c1 v 0 ∷ d v c1 0 ∷ d c1 d0 0 ∷ d c1 d1 0 ∷ d c0 v 0 ∷
    d v c0 0 ∷ d c0 d0 0 ∷ d d0 c0 0 ∷ d c0 d0 1 ∷ d d1 c1 0 ∷ d c1 d1 1 ∷ e 1 ∷ d c1 d1 2 ∷ d d1 c0 1 ∷ d c0 d0 2 ∷ e 1 ∷ []

abbrev pub abort_clears_marks : Told
abort_clears_marks = record {
  commits = noted_commit 1 1 2 [] (wrote 8 4 ∷ []) [] ∷ [];
  cores = stands 0 [] Running Goes [] ∷ stands 18 [] Running Goes [] ∷ [];
  words = (8, 4) ∷ [];
  useful = e 0 ∷ x 1 0 0 ∷ d c0 d1 1 ∷ d c0 d1 3 ∷ d c1 d0 1 ∷ [];
}

abbrev pub AbortClearsMarks : Type 0
AbortClearsMarks =
    Tells (machine 2 2 1 2 256)
    ((sw 0 3 ∷ lw 8 ∷ []) ∷ (sw 8 4 ∷ Ends ∷ lw 0 ∷ []) ∷ [])
    abort_clears_marks_events abort_clears_marks

-- a commit makes another core the owner of a line that was asked for: the new owner can be asked
abbrev pub owner_asked_anew_events : List Event
owner_asked_anew_events =
    e 0 ∷ e 0 ∷ d c0 v 0 ∷ d v c0 0 ∷ e 1 ∷ d c0 d0 0 ∷ d d0 c0 0 ∷ e 0 ∷ x 0 0 0 ∷ e 0 ∷ e 1 ∷ d c0 d0 1 ∷ d c0 d0 2 ∷
    d c0 d0 4 ∷ e 1 ∷ e 1 ∷ e 1 ∷ e 1 ∷ e 1 ∷ e 1 ∷ e 1 ∷ d c1 v 0 ∷ d v c1 0 ∷ d c1 d0 0 ∷ d d0 c1 0 ∷ d c1 d0 1 ∷ e 1 ∷
    d c1 d0 2 ∷ d d0 c0 2 ∷ d c0 d0 5 ∷ []

abbrev pub owner_asked_anew : Told
owner_asked_anew = record {
  commits =
      noted_commit 1 0 2 [] (wrote 0 3 ∷ []) [] ∷
      noted_commit 2 1 9 []
      (wrote 0 20 ∷ wrote 1 21 ∷ wrote 2 22 ∷ wrote 3 23 ∷ wrote 4 24 ∷ wrote 5 25 ∷ wrote 6 26 ∷ wrote 7 27 ∷ []) [] ∷
      [];
  cores = stands 2 [] Running Goes [] ∷ stands 25 [] Running Goes [] ∷ [];
  words = (0, 20) ∷ (1, 21) ∷ (2, 22) ∷ (3, 23) ∷ (4, 24) ∷ (5, 25) ∷ (6, 26) ∷ (7, 27) ∷ [];
  useful = e 1 ∷ x 1 0 0 ∷ d c0 d0 3 ∷ d c0 d0 4 ∷ d d0 c0 1 ∷ [];
}

abbrev pub OwnerAskedAnew : Type 0
OwnerAskedAnew =
    Tells (machine 2 1 1 1 256)
    ((sw 0 3 ∷ Ends ∷ lw 0 ∷ []) ∷
    (sw 0 20 ∷ sw 1 21 ∷ sw 2 22 ∷ sw 3 23 ∷ sw 4 24 ∷ sw 5 25 ∷ sw 6 26 ∷ sw 7 27 ∷ Ends ∷ []) ∷
    [])
    owner_asked_anew_events owner_asked_anew

abbrev pub CasesAre : Type 0
CasesAre = OwnCommitFirst × KeepsNothing × AbortGoesFirst × SpilledWordsLeave × AbortClearsMarks × OwnerAskedAnew
