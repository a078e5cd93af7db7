-- Schedules that show the rules of frames: fills, room and evictions.
use Rattle.std.specs.Prelude.{List, [], ◌∷◌}
use Rattle.rules_program.specs.Program.{Ends}
use Rattle.rules_program.specs.Plain.{Goes}
use Rattle.rules_maps.specs.Nodes.{Event}
use Rattle.rules_tcc.specs.State.{Running}
use Rattle.rules_tcc.specs.Rows.{e, x, d, c0, c1, d0, d1, v}
use Rattle.rules_tcc.specs.Needs.{lw, sw}
use Rattle.rules_tcc.specs.Told.{Told, machine, Tells}
use Rattle.rules_tcc.specs.Names.{noted_commit, stands, got, wrote}

-- an invalidation comes before the fill, which leaves no word
abbrev pub stale_fill_events : List Event
stale_fill_events =
    e 1 ∷ e 1 ∷ d c1 v 0 ∷ e 0 ∷ d c0 d0 0 ∷ d v c1 0 ∷ d c1 d0 0 ∷ d d0 c1 0 ∷ d c1 d0 1 ∷ e 1 ∷ d c1 d0 2 ∷ d d0 c0 1 ∷
    d d0 c0 0 ∷ e 0 ∷ []

abbrev pub stale_fill : Told
stale_fill = record {
  commits = noted_commit 1 1 2 [] (wrote 0 4 ∷ []) [] ∷ [];
  cores = stands 0 [] Running Goes [] ∷ stands 18 [] Running Goes [] ∷ [];
  words = (0, 4) ∷ [];
  useful = e 1 ∷ x 1 0 0 ∷ d c0 d0 1 ∷ [];
}

abbrev pub StaleFill : Type 0
StaleFill =
    Tells (machine 2 1 1 1 256)
    ((lw 0 ∷ []) ∷ (sw 0 4 ∷ Ends ∷ []) ∷ [])
    stale_fill_events stale_fill

-- a core that is rolled back still awaits its line
abbrev pub still_awaits_events : List Event
still_awaits_events =
    e 0 ∷ e 1 ∷ e 1 ∷ d c1 v 0 ∷ d v c1 0 ∷ d c0 d0 0 ∷ d c1 d0 0 ∷ d d0 c0 0 ∷ e 0 ∷ e 0 ∷ d d0 c1 0 ∷ e 1 ∷ d c1 d0 1 ∷
    d c1 d0 2 ∷ d d0 c0 1 ∷ []

abbrev pub still_awaits : Told
still_awaits = record {
  commits = noted_commit 1 1 2 [] (wrote 0 4 ∷ []) [] ∷ [];
  cores = stands 0 [] Running Goes [] ∷ stands 18 [] Running Goes [] ∷ [];
  words = (0, 4) ∷ [];
  useful = e 1 ∷ x 1 0 0 ∷ d c0 d0 1 ∷ d c0 d1 0 ∷ d c1 d1 0 ∷ [];
}

abbrev pub StillAwaits : Type 0
StillAwaits =
    Tells (machine 2 2 1 2 256)
    ((lw 0 ∷ lw 8 ∷ []) ∷ (sw 0 4 ∷ Ends ∷ []) ∷ [])
    still_awaits_events still_awaits

-- an invalidation leaves the stored word, and so does the fill that comes after it
abbrev pub stored_word_stays_events : List Event
stored_word_stays_events =
    e 1 ∷ e 1 ∷ e 0 ∷ e 0 ∷ d c0 d0 0 ∷ d c1 v 0 ∷ d v c1 0 ∷ d c1 d0 0 ∷ d d0 c1 0 ∷ d c1 d0 1 ∷ e 1 ∷ d c1 d0 2 ∷ x 1 0 0 ∷
    d d0 c0 1 ∷ d c0 d0 1 ∷ d d0 c0 0 ∷ d c1 d0 3 ∷ e 0 ∷ d c0 d0 2 ∷ d d0 c0 2 ∷ e 0 ∷ e 0 ∷ d c0 v 0 ∷ d v c0 0 ∷ d c0 d0 3 ∷
    d d0 c0 3 ∷ e 0 ∷ []

abbrev pub stored_word_stays : Told
stored_word_stays = record {
  commits = noted_commit 1 1 2 [] (wrote 0 7 ∷ []) [] ∷ noted_commit 2 0 3 (got 1 101 ∷ []) (wrote 0 4 ∷ []) [] ∷ [];
  cores = stands 3 (101 ∷ []) Running Goes [] ∷ stands 18 [] Running Goes [] ∷ [];
  words = (0, 4) ∷ [];
  useful = e 0 ∷ e 1 ∷ x 0 0 0 ∷ d c0 d0 4 ∷ [];
}

abbrev pub StoredWordStays : Type 0
StoredWordStays =
    Tells (machine 2 1 1 1 256)
    ((sw 0 4 ∷ lw 1 ∷ Ends ∷ []) ∷ (sw 0 7 ∷ Ends ∷ []) ∷ [])
    stored_word_stays_events stored_word_stays

-- to empty a frame without stored words is useful where its core waits for room
abbrev pub room_is_useful_events : List Event
room_is_useful_events =
    e 0 ∷ e 0 ∷ d c0 v 0 ∷ d v c0 0 ∷ d c0 d0 0 ∷ d d0 c0 0 ∷ e 0 ∷ x 0 0 0 ∷ e 0 ∷ d c0 d0 1 ∷ d c0 d0 2 ∷ d c0 d0 4 ∷
    d d0 c0 1 ∷ e 0 ∷ e 0 ∷ d c0 v 1 ∷ d v c0 1 ∷ d c0 d0 6 ∷ d d0 c0 2 ∷ e 0 ∷ []

abbrev pub room_is_useful : Told
room_is_useful = record {
  commits = noted_commit 1 0 2 [] (wrote 0 4 ∷ []) [] ∷ noted_commit 2 0 2 (got 8 108 ∷ []) [] [] ∷ [];
  cores = stands 4 (108 ∷ []) Running Goes [] ∷ stands 16 [] Running Goes [] ∷ [];
  words = (0, 4) ∷ [];
  useful = e 1 ∷ x 0 0 0 ∷ d c0 d0 3 ∷ d c0 d0 5 ∷ [];
}

abbrev pub RoomIsUseful : Type 0
RoomIsUseful =
    Tells (machine 2 1 1 1 256)
    ((sw 0 4 ∷ Ends ∷ lw 8 ∷ Ends ∷ lw 16 ∷ []) ∷ [] ∷ [])
    room_is_useful_events room_is_useful

-- a core with one unmarked frame in a full set waits for room
abbrev pub room_before_overflow_events : List Event
room_before_overflow_events =
    e 0 ∷ e 0 ∷ d c0 d0 0 ∷ d d0 c0 0 ∷ e 0 ∷ e 0 ∷ d c0 v 0 ∷ d v c0 0 ∷ d c0 d0 1 ∷ d d0 c0 1 ∷ e 0 ∷ x 0 0 0 ∷ e 0 ∷ []

abbrev pub room_before_overflow : Told
room_before_overflow = record {
  commits = noted_commit 1 0 3 (got 8 108 ∷ []) (wrote 0 4 ∷ []) [] ∷ [];
  cores = stands 3 (108 ∷ []) Running Goes [] ∷ stands 16 [] Running Goes [] ∷ [];
  words = (0, 4) ∷ [];
  useful = e 1 ∷ x 0 0 1 ∷ d c0 d0 2 ∷ [];
}

abbrev pub RoomBeforeOverflow : Type 0
RoomBeforeOverflow =
    Tells (machine 2 1 1 2 256)
    ((sw 0 4 ∷ lw 8 ∷ Ends ∷ sw 16 5 ∷ sw 24 5 ∷ []) ∷ [] ∷ [])
    room_before_overflow_events room_before_overflow

-- a line that was invalidated while it is awaited stays stale, though another line is invalidated after it
abbrev pub stays_stale_events : List Event
stays_stale_events =
    e 0 ∷ d c0 d0 0 ∷ d d0 c0 0 ∷ e 0 ∷ e 0 ∷ d c0 d0 1 ∷ e 1 ∷ e 1 ∷ e 1 ∷ d c1 v 0 ∷ d v c1 0 ∷ d c1 d0 0 ∷ d d0 c1 0 ∷
    d c1 d0 1 ∷ d c1 d0 2 ∷ e 1 ∷ d c1 d0 3 ∷ d d0 c0 2 ∷ d d0 c0 3 ∷ d d0 c0 1 ∷ e 0 ∷ []

abbrev pub stays_stale : Told
stays_stale = record {
  commits = noted_commit 1 1 3 [] (wrote 0 4 ∷ wrote 9 5 ∷ []) [] ∷ [];
  cores = stands 0 [] Running Goes (8 ∷ []) ∷ stands 19 [] Running Goes [] ∷ [];
  words = (0, 4) ∷ (9, 5) ∷ [];
  useful = e 1 ∷ x 1 0 0 ∷ x 1 0 1 ∷ d c0 d0 2 ∷ d c0 d0 3 ∷ [];
}

abbrev pub StaysStale : Type 0
StaysStale =
    Tells (machine 2 1 1 2 256)
    ((lw 8 ∷ lw 0 ∷ []) ∷ (sw 0 4 ∷ sw 9 5 ∷ Ends ∷ []) ∷ [])
    stays_stale_events stays_stale

-- an invalidated word is dirty no more: to empty its frame is of no use
abbrev pub invalidated_is_clean_events : List Event
invalidated_is_clean_events =
    e 0 ∷ e 0 ∷ d c0 v 0 ∷ d v c0 0 ∷ d c0 d0 0 ∷ d d0 c0 0 ∷ e 0 ∷ d c0 d0 1 ∷ d c0 d0 2 ∷ e 1 ∷ e 1 ∷ e 1 ∷ e 1 ∷ e 1 ∷ e 1 ∷
    e 1 ∷ e 1 ∷ e 1 ∷ d c1 v 0 ∷ d v c1 0 ∷ d c1 d0 0 ∷ d d0 c1 0 ∷ d c1 d0 1 ∷ e 1 ∷ d c1 d0 2 ∷ d d0 c0 1 ∷ []

abbrev pub invalidated_is_clean : Told
invalidated_is_clean = record {
  commits =
      noted_commit 1 0 2 [] (wrote 0 4 ∷ []) [] ∷
      noted_commit 2 1 9 []
      (wrote 0 20 ∷ wrote 1 21 ∷ wrote 2 22 ∷ wrote 3 23 ∷ wrote 4 24 ∷ wrote 5 25 ∷ wrote 6 26 ∷ wrote 7 27 ∷ []) [] ∷
      [];
  cores = stands 2 [] Running Goes [] ∷ stands 25 [] Running Goes [] ∷ [];
  words = (0, 20) ∷ (1, 21) ∷ (2, 22) ∷ (3, 23) ∷ (4, 24) ∷ (5, 25) ∷ (6, 26) ∷ (7, 27) ∷ [];
  useful = e 0 ∷ e 1 ∷ x 1 0 0 ∷ d c0 d0 3 ∷ [];
}

abbrev pub InvalidatedIsClean : Type 0
InvalidatedIsClean =
    Tells (machine 2 1 1 1 256)
    ((sw 0 4 ∷ Ends ∷ []) ∷
    (sw 0 20 ∷ sw 1 21 ∷ sw 2 22 ∷ sw 3 23 ∷ sw 4 24 ∷ sw 5 25 ∷ sw 6 26 ∷ sw 7 27 ∷ Ends ∷ []) ∷
    [])
    invalidated_is_clean_events invalidated_is_clean

abbrev pub CachesAre : Type 0
CachesAre = StaleFill × StillAwaits × StoredWordStays × RoomIsUseful × RoomBeforeOverflow × StaysStale × InvalidatedIsClean
