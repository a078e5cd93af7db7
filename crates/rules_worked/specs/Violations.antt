-- Schedules that show which words are marked read, who is violated, and what that leaves.
use Rattle.std.specs.Prelude.{List, [], ◌∷◌}
use Rattle.rules_program.specs.Program.{Prints, Ends}
use Rattle.rules_program.specs.Plain.{Goes, Trapped as TrappedWith}
use Rattle.rules_maps.specs.Nodes.{Event}
use Rattle.rules_tcc.specs.State.{Running, Ready, Halted}
use Rattle.rules_tcc.specs.Rows.{e, x, d, c0, c1, d0, d1, v}
use Rattle.rules_tcc.specs.Needs.{lw, lb, sw}
use Rattle.rules_tcc.specs.Told.{Told, machine, Tells}
use Rattle.rules_tcc.specs.Names.{noted_commit, stands, got_byte, wrote}

-- a load of a word that the attempt stored marks nothing
abbrev pub stored_word_unread_events : List Event
stored_word_unread_events =
    e 0 ∷ e 0 ∷ []

abbrev pub stored_word_unread : Told
stored_word_unread = record {
  commits = [];
  cores = stands 0 [] Running Goes [] ∷ stands 16 [] Running Goes [] ∷ [];
  words = [];
  useful = e 0 ∷ e 1 ∷ [];
}

abbrev pub StoredWordUnread : Type 0
StoredWordUnread =
    Tells (machine 2 1 1 1 256)
    ((sw 0 7 ∷ lb 0 0 ∷ []) ∷ [] ∷ [])
    stored_word_unread_events stored_word_unread

-- a commit of another word of the line violates nobody
abbrev pub another_word_events : List Event
another_word_events =
    e 0 ∷ e 1 ∷ e 1 ∷ d c1 v 0 ∷ d c0 d0 0 ∷ d d0 c0 0 ∷ e 0 ∷ d v c1 0 ∷ d c1 d0 0 ∷ d d0 c1 0 ∷ d c1 d0 1 ∷ e 1 ∷ d c1 d0 2 ∷
    d d0 c0 1 ∷ []

abbrev pub another_word : Told
another_word = record {
  commits = noted_commit 1 1 2 [] (wrote 1 6 ∷ []) [] ∷ [];
  cores = stands 0 [] Running Goes (0 ∷ []) ∷ stands 18 [] Running Goes [] ∷ [];
  words = (1, 6) ∷ [];
  useful = e 0 ∷ e 1 ∷ x 1 0 0 ∷ d c0 d0 1 ∷ [];
}

abbrev pub AnotherWord : Type 0
AnotherWord =
    Tells (machine 2 1 1 1 256)
    ((lw 0 ∷ []) ∷ (sw 1 6 ∷ Ends ∷ []) ∷ [])
    another_word_events another_word

-- a core that is ready is ahead of a larger TID: it isn't violated
abbrev pub ready_stays_events : List Event
ready_stays_events =
    e 0 ∷ d c0 d0 0 ∷ e 1 ∷ d d0 c0 0 ∷ e 0 ∷ e 0 ∷ e 0 ∷ d c0 v 0 ∷ e 1 ∷ d c1 v 0 ∷ d v c1 0 ∷ d v c0 0 ∷ d c0 d0 1 ∷
    d c0 d0 2 ∷ d d0 c0 1 ∷ d c1 d0 0 ∷ d d0 c1 0 ∷ e 1 ∷ d c1 d0 1 ∷ d c1 d0 2 ∷ d c0 d1 0 ∷ d d1 c0 0 ∷ d d0 c0 2 ∷ []

abbrev pub ready_stays : Told
ready_stays = record {
  commits = noted_commit 2 1 2 [] (wrote 0 3 ∷ []) [] ∷ [];
  cores = stands 0 [] (Ready 1) (TrappedWith 1) (0 ∷ []) ∷ stands 18 [] Running Goes [] ∷ [];
  words = (0, 3) ∷ [];
  useful = e 0 ∷ e 1 ∷ x 1 0 0 ∷ d c0 d0 3 ∷ d c0 d1 1 ∷ d c1 d1 0 ∷ [];
}

abbrev pub ReadyStays : Type 0
ReadyStays =
    Tells (machine 2 2 1 2 256)
    ((lw 0 ∷ sw 8 4 ∷ []) ∷ (sw 0 3 ∷ Ends ∷ []) ∷ [])
    ready_stays_events ready_stays

-- a core that was violated before its TID came gives it up everywhere, and runs on
abbrev pub doomed_runs_on_events : List Event
doomed_runs_on_events =
    e 1 ∷ e 1 ∷ d c1 v 0 ∷ e 0 ∷ d v c1 0 ∷ d c0 d0 0 ∷ d d0 c0 0 ∷ d c1 d0 0 ∷ e 0 ∷ d d0 c1 0 ∷ e 0 ∷ e 1 ∷ d c1 d0 1 ∷
    d c1 d0 2 ∷ e 0 ∷ d d0 c0 1 ∷ d c0 v 0 ∷ d v c0 0 ∷ []

abbrev pub doomed_runs_on : Told
doomed_runs_on = record {
  commits = noted_commit 1 1 2 [] (wrote 0 6 ∷ []) [] ∷ [];
  cores = stands 0 [] Running Goes [] ∷ stands 18 [] Running Goes [] ∷ [];
  words = (0, 6) ∷ [];
  useful = e 0 ∷ e 1 ∷ x 1 0 0 ∷ d c0 d0 1 ∷ d c0 d0 2 ∷ [];
}

abbrev pub DoomedRunsOn : Type 0
DoomedRunsOn =
    Tells (machine 2 1 1 1 256)
    ((lw 0 ∷ Prints 68 ∷ []) ∷ (sw 0 6 ∷ Ends ∷ []) ∷ [])
    doomed_runs_on_events doomed_runs_on

-- a commit prints its own bytes alone
abbrev pub own_bytes_events : List Event
own_bytes_events =
    e 0 ∷ e 0 ∷ d c0 d0 0 ∷ d d0 c0 0 ∷ e 0 ∷ e 0 ∷ e 0 ∷ d c0 v 0 ∷ d v c0 0 ∷ d c0 d0 2 ∷ d d0 c0 1 ∷ e 0 ∷ e 0 ∷ d c0 v 1 ∷
    d v c0 1 ∷ e 0 ∷ []

abbrev pub own_bytes : Told
own_bytes = record {
  commits = noted_commit 1 0 4 (got_byte 0 3 0 ∷ []) [] (69 ∷ 70 ∷ []) ∷ noted_commit 2 0 1 [] [] [] ∷ [];
  cores = stands 4 (0 ∷ []) Halted (TrappedWith 1) [] ∷ stands 16 [] Running Goes [] ∷ [];
  words = [];
  useful = e 1 ∷ d c0 d0 1 ∷ d c0 d0 3 ∷ [];
}

abbrev pub OwnBytes : Type 0
OwnBytes =
    Tells (machine 2 1 1 1 256)
    ((Prints 69 ∷ lb 0 3 ∷ Prints 70 ∷ Ends ∷ []) ∷ [] ∷ [])
    own_bytes_events own_bytes

abbrev pub ViolationsAre : Type 0
ViolationsAre = StoredWordUnread × AnotherWord × ReadyStays × DoomedRunsOn × OwnBytes
