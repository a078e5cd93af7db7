-- Schedules that show the rules of a core that goes on alone.
use Rattle.std.specs.Prelude.{List, [], ◌∷◌, Some}
use Rattle.rules_program.specs.Program.{Halts}
use Rattle.rules_program.specs.Plain.{Goes, Halted as HaltedWith}
use Rattle.rules_maps.specs.Nodes.{Event}
use Rattle.rules_tcc.specs.State.{Running, Overflowing, Solo, Halted}
use Rattle.rules_tcc.specs.Rows.{e, x, d, c0, d0, d1, v}
use Rattle.rules_tcc.specs.Needs.{lw, sw, sb, add}
use Rattle.rules_tcc.specs.Told.{Told, machine, Tells}
use Rattle.rules_tcc.specs.Names.{noted_commit, stands, got, wrote}

-- a core that overflows waits for the replies of all directories, also where it used nothing
abbrev pub all_reply_events : List Event
all_reply_events =
    e 0 ∷ d c0 d0 0 ∷ d d0 c0 0 ∷ e 0 ∷ e 0 ∷ d c0 v 0 ∷ d v c0 0 ∷ d c0 d0 1 ∷ d d0 c0 1 ∷ []

abbrev pub all_reply : Told
all_reply = record {
  commits = [];
  cores = stands 0 [] (Overflowing (Some 1)) Goes (0 ∷ []) ∷ stands 16 [] Running Goes [] ∷ [];
  words = [];
  useful = e 1 ∷ d c0 d1 0 ∷ [];
}

abbrev pub AllReply : Type 0
AllReply =
    Tells (machine 2 2 1 1 256)
    ((lw 0 ∷ sw 8 5 ∷ []) ∷ [] ∷ [])
    all_reply_events all_reply

-- a core that is alone has no read marks
abbrev pub unmarked_alone_events : List Event
unmarked_alone_events =
    e 0 ∷ d c0 d0 0 ∷ d d0 c0 0 ∷ e 0 ∷ e 0 ∷ d c0 v 0 ∷ d v c0 0 ∷ d c0 d0 1 ∷ d c0 d1 0 ∷ d d0 c0 1 ∷ d d1 c0 0 ∷ []

abbrev pub unmarked_alone : Told
unmarked_alone = record {
  commits = [];
  cores = stands 0 [] (Solo 1) Goes [] ∷ stands 16 [] Running Goes [] ∷ [];
  words = [];
  useful = e 1 ∷ x 0 0 0 ∷ [];
}

abbrev pub UnmarkedAlone : Type 0
UnmarkedAlone =
    Tells (machine 2 2 1 1 256)
    ((lw 0 ∷ sw 8 5 ∷ []) ∷ [] ∷ [])
    unmarked_alone_events unmarked_alone

-- a word that is spilled and valid is loaded as it was spilled
abbrev pub spilled_word_loaded_events : List Event
spilled_word_loaded_events =
    e 0 ∷ e 0 ∷ d c0 v 0 ∷ d v c0 0 ∷ d c0 d0 0 ∷ d d0 c0 0 ∷ x 0 0 0 ∷ e 0 ∷ x 0 0 0 ∷ e 0 ∷ d c0 d0 1 ∷ d d0 c0 1 ∷ e 0 ∷
    e 0 ∷ e 0 ∷ []

abbrev pub spilled_word_loaded : Told
spilled_word_loaded = record {
  commits = noted_commit 1 0 5 (got 1 101 ∷ got 0 5 ∷ []) (wrote 0 5 ∷ wrote 8 6 ∷ []) [] ∷ [];
  cores = stands 4 (5 ∷ 101 ∷ []) Halted (HaltedWith 1) [] ∷ stands 16 [] Running Goes [] ∷ [];
  words = (0, 5) ∷ (8, 6) ∷ [];
  useful = e 1 ∷ d c0 d0 2 ∷ d c0 d0 3 ∷ [];
}

abbrev pub SpilledWordLoaded : Type 0
SpilledWordLoaded =
    Tells (machine 2 1 1 1 256)
    ((sw 0 5 ∷ sw 8 6 ∷ lw 1 ∷ lw 0 ∷ Halts 1 ∷ []) ∷ [] ∷ [])
    spilled_word_loaded_events spilled_word_loaded

-- a word that is spilled and valid is changed in the buffer
abbrev pub spilled_word_changed_events : List Event
spilled_word_changed_events =
    e 0 ∷ e 0 ∷ d c0 v 0 ∷ d v c0 0 ∷ d c0 d0 0 ∷ d d0 c0 0 ∷ x 0 0 0 ∷ e 0 ∷ x 0 0 0 ∷ e 0 ∷ d c0 d0 1 ∷ d d0 c0 1 ∷ e 0 ∷
    e 0 ∷ e 0 ∷ []

abbrev pub spilled_word_changed : Told
spilled_word_changed = record {
  commits = noted_commit 1 0 5 (got 1 101 ∷ got 0 5 ∷ []) (wrote 0 5 ∷ wrote 8 6 ∷ wrote 0 9 ∷ []) [] ∷ [];
  cores = stands 4 (5 ∷ 101 ∷ []) Halted (HaltedWith 1) [] ∷ stands 16 [] Running Goes [] ∷ [];
  words = (0, 9) ∷ (8, 6) ∷ [];
  useful = e 1 ∷ d c0 d0 2 ∷ d c0 d0 3 ∷ [];
}

abbrev pub SpilledWordChanged : Type 0
SpilledWordChanged =
    Tells (machine 2 1 1 1 256)
    ((sw 0 5 ∷ sw 8 6 ∷ lw 1 ∷ add 0 4 ∷ Halts 1 ∷ []) ∷ [] ∷ [])
    spilled_word_changed_events spilled_word_changed

-- a part of a valid word is stored in the buffer where its line has spilled words
abbrev pub part_in_buffer_events : List Event
part_in_buffer_events =
    e 0 ∷ e 0 ∷ d c0 v 0 ∷ d v c0 0 ∷ d c0 d0 0 ∷ d d0 c0 0 ∷ x 0 0 0 ∷ e 0 ∷ x 0 0 0 ∷ e 0 ∷ d c0 d0 1 ∷ d d0 c0 1 ∷ e 0 ∷
    e 0 ∷ []

abbrev pub part_in_buffer : Told
part_in_buffer = record {
  commits = [];
  cores = stands 0 [] (Solo 1) Goes [] ∷ stands 16 [] Running Goes [] ∷ [];
  words = [];
  useful = e 0 ∷ e 1 ∷ [];
}

abbrev pub PartInBuffer : Type 0
PartInBuffer =
    Tells (machine 2 1 1 1 256)
    ((sw 0 5 ∷ sw 8 6 ∷ lw 1 ∷ sb 2 1 9 ∷ []) ∷ [] ∷ [])
    part_in_buffer_events part_in_buffer

-- a word is stored in the buffer where its line has spilled words
abbrev pub word_in_buffer_events : List Event
word_in_buffer_events =
    e 0 ∷ e 0 ∷ d c0 v 0 ∷ d v c0 0 ∷ d c0 d0 0 ∷ d d0 c0 0 ∷ x 0 0 0 ∷ e 0 ∷ x 0 0 0 ∷ e 0 ∷ d c0 d0 1 ∷ d d0 c0 1 ∷ e 0 ∷
    e 0 ∷ []

abbrev pub word_in_buffer : Told
word_in_buffer = record {
  commits = [];
  cores = stands 0 [] (Solo 1) Goes [] ∷ stands 16 [] Running Goes [] ∷ [];
  words = [];
  useful = e 0 ∷ e 1 ∷ [];
}

abbrev pub WordInBuffer : Type 0
WordInBuffer =
    Tells (machine 2 1 1 1 256)
    ((sw 0 5 ∷ sw 8 6 ∷ lw 1 ∷ sw 2 9 ∷ []) ∷ [] ∷ [])
    word_in_buffer_events word_in_buffer

abbrev pub AloneAre : Type 0
AloneAre = AllReply × UnmarkedAlone × SpilledWordLoaded × SpilledWordChanged × PartInBuffer × WordInBuffer
