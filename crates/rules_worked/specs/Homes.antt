-- Schedules that show the rules of directories: turns, marks, and words that come home.
use Rattle.std.specs.Prelude.{List, [], ◌∷◌}
use Rattle.rules_program.specs.Program.{Ends, Halts}
use Rattle.rules_program.specs.Plain.{Goes, Halted as HaltedWith, Trapped as TrappedWith}
use Rattle.rules_maps.specs.Nodes.{Event}
use Rattle.rules_tcc.specs.State.{Running, Probing, Ready, Halted}
use Rattle.rules_tcc.specs.Rows.{e, x, d, c0, c1, d0, d1, v}
use Rattle.rules_tcc.specs.Needs.{lw, sw}
use Rattle.rules_tcc.specs.Told.{Told, machine, Tells}
use Rattle.rules_tcc.specs.Names.{c2, d2, noted_commit, stands, wrote}

-- words of an earlier commit come late from the core that owns the line by a later one: they are dropped
abbrev pub lower_tag_dropped_events : List Event
lower_tag_dropped_events =
    e 1 ∷ e 0 ∷ e 0 ∷ d c1 d0 0 ∷ d d0 c1 0 ∷ e 1 ∷ e 1 ∷ d c1 v 0 ∷ d v c1 0 ∷ d c0 v 0 ∷ d v c0 0 ∷ d c1 d0 1 ∷ d c0 d0 0 ∷
    d d0 c0 0 ∷ e 0 ∷ e 0 ∷ e 0 ∷ e 0 ∷ e 0 ∷ e 0 ∷ e 0 ∷ d c0 d0 1 ∷ e 0 ∷ e 0 ∷ e 0 ∷ d c0 v 1 ∷ d v c0 1 ∷ d c0 d0 2 ∷
    d d0 c1 1 ∷ d c1 d0 3 ∷ d c0 d0 4 ∷ d d0 c0 1 ∷ e 0 ∷ d c0 d0 5 ∷ d c0 d0 6 ∷ d c0 d0 3 ∷ x 0 0 0 ∷ d c0 d0 7 ∷ []

abbrev pub lower_tag_dropped : Told
lower_tag_dropped = record {
  commits =
      noted_commit 2 0 2 [] (wrote 0 3 ∷ []) [] ∷
      noted_commit 3 0 9 []
      (wrote 0 20 ∷ wrote 1 21 ∷ wrote 2 22 ∷ wrote 3 23 ∷ wrote 4 24 ∷ wrote 5 25 ∷ wrote 6 26 ∷ wrote 7 27 ∷ []) [] ∷
      [];
  cores = stands 11 [] Running Goes [] ∷ stands 16 [] (Probing 1) (TrappedWith 1) (0 ∷ []) ∷ [];
  words = (0, 20) ∷ (1, 21) ∷ (2, 22) ∷ (3, 23) ∷ (4, 24) ∷ (5, 25) ∷ (6, 26) ∷ (7, 27) ∷ [];
  useful = e 0 ∷ d c1 d0 2 ∷ d d0 c1 2 ∷ [];
}

abbrev pub LowerTagDropped : Type 0
LowerTagDropped =
    Tells (machine 2 1 1 1 256)
    ((sw 0 3 ∷ Ends ∷ sw 0 20 ∷ sw 1 21 ∷ sw 2 22 ∷ sw 3 23 ∷ sw 4 24 ∷ sw 5 25 ∷ sw 6 26 ∷ sw 7 27 ∷ Ends ∷ []) ∷
    (lw 0 ∷ []) ∷
    [])
    lower_tag_dropped_events lower_tag_dropped

-- dirty words go home before their line is stored to, and are seen on their way
abbrev pub flush_before_store_events : List Event
flush_before_store_events =
    e 0 ∷ e 0 ∷ d c0 v 0 ∷ d v c0 0 ∷ d c0 d0 0 ∷ d d0 c0 0 ∷ e 0 ∷ e 0 ∷ d c0 d0 1 ∷ d c0 d0 2 ∷ []

abbrev pub flush_before_store : Told
flush_before_store = record {
  commits = noted_commit 1 0 2 [] (wrote 0 4 ∷ []) [] ∷ [];
  cores = stands 2 [] Running Goes [] ∷ stands 16 [] Running Goes [] ∷ [];
  words = (0, 4) ∷ [];
  useful = e 0 ∷ e 1 ∷ d c0 d0 3 ∷ [];
}

abbrev pub FlushBeforeStore : Type 0
FlushBeforeStore =
    Tells (machine 2 1 1 1 256)
    ((sw 0 4 ∷ Ends ∷ sw 1 5 ∷ []) ∷ [] ∷ [])
    flush_before_store_events flush_before_store

-- words of an earlier commit are on their way, and those of the last one have come home: these are seen
abbrev pub lower_tag_unseen_events : List Event
lower_tag_unseen_events =
    e 0 ∷ e 0 ∷ d c0 v 0 ∷ d v c0 0 ∷ d c0 d0 0 ∷ d d0 c0 0 ∷ d c0 d0 1 ∷ e 0 ∷ e 0 ∷ e 0 ∷ e 0 ∷ e 0 ∷ e 0 ∷ e 0 ∷ e 0 ∷ e 0 ∷
    e 0 ∷ d c0 v 1 ∷ d v c0 1 ∷ d c0 d0 2 ∷ d c0 d0 4 ∷ d d0 c0 1 ∷ e 0 ∷ d c0 d0 5 ∷ x 0 0 0 ∷ d c0 d0 6 ∷ d c0 d0 7 ∷ []

abbrev pub lower_tag_unseen : Told
lower_tag_unseen = record {
  commits =
      noted_commit 1 0 2 [] (wrote 0 3 ∷ []) [] ∷
      noted_commit 2 0 9 []
      (wrote 0 20 ∷ wrote 1 21 ∷ wrote 2 22 ∷ wrote 3 23 ∷ wrote 4 24 ∷ wrote 5 25 ∷ wrote 6 26 ∷ wrote 7 27 ∷ []) [] ∷
      [];
  cores = stands 11 [] Running Goes [] ∷ stands 16 [] Running Goes [] ∷ [];
  words = (0, 20) ∷ (1, 21) ∷ (2, 22) ∷ (3, 23) ∷ (4, 24) ∷ (5, 25) ∷ (6, 26) ∷ (7, 27) ∷ [];
  useful = e 0 ∷ e 1 ∷ d c0 d0 3 ∷ [];
}

abbrev pub LowerTagUnseen : Type 0
LowerTagUnseen =
    Tells (machine 2 1 1 1 256)
    ((sw 0 3 ∷ Ends ∷ sw 0 20 ∷ sw 1 21 ∷ sw 2 22 ∷ sw 3 23 ∷ sw 4 24 ∷ sw 5 25 ∷ sw 6 26 ∷ sw 7 27 ∷ Ends ∷ []) ∷ [] ∷ [])
    lower_tag_unseen_events lower_tag_unseen

-- a mark of a part of a line that is owned asks the owner, and stays
abbrev pub part_asks_owner_events : List Event
part_asks_owner_events =
    e 0 ∷ e 0 ∷ d c0 v 0 ∷ d v c0 0 ∷ e 1 ∷ e 1 ∷ d c1 v 0 ∷ d v c1 0 ∷ d c0 d0 0 ∷ d d0 c0 0 ∷ d c0 d0 1 ∷ e 0 ∷ d c0 d0 2 ∷
    d c1 d0 0 ∷ d d0 c1 0 ∷ d c1 d0 1 ∷ []

abbrev pub part_asks_owner : Told
part_asks_owner = record {
  commits = noted_commit 1 0 2 [] (wrote 0 4 ∷ []) [] ∷ [];
  cores = stands 2 [] Running Goes [] ∷ stands 16 [] (Ready 2) (TrappedWith 1) [] ∷ [];
  words = (0, 4) ∷ [];
  useful = e 0 ∷ e 1 ∷ x 0 0 0 ∷ d d0 c0 1 ∷ [];
}

abbrev pub PartAsksOwner : Type 0
PartAsksOwner =
    Tells (machine 2 1 1 1 256)
    ((sw 0 4 ∷ Ends ∷ []) ∷ (sw 1 5 ∷ []) ∷ [])
    part_asks_owner_events part_asks_owner

-- a mark that its abort has overtaken is dropped
abbrev pub late_mark_dropped_events : List Event
late_mark_dropped_events =
    e 0 ∷ e 1 ∷ e 0 ∷ e 1 ∷ d c1 v 0 ∷ d v c1 0 ∷ d c1 d0 0 ∷ d c0 d1 0 ∷ d d1 c0 0 ∷ e 0 ∷ e 0 ∷ d c0 v 0 ∷ d v c0 0 ∷
    d c1 d1 0 ∷ d c0 d0 0 ∷ d d1 c1 0 ∷ d c1 d1 1 ∷ e 1 ∷ d c1 d1 2 ∷ d d0 c0 0 ∷ d d1 c0 1 ∷ d c0 d0 2 ∷ []

abbrev pub late_mark_dropped : Told
late_mark_dropped = record {
  commits = noted_commit 1 1 2 [] (wrote 8 4 ∷ []) [] ∷ [];
  cores = stands 0 [] Running Goes [] ∷ stands 18 [] Running Goes [] ∷ [];
  words = (8, 4) ∷ [];
  useful = e 0 ∷ e 1 ∷ x 1 0 0 ∷ d c0 d0 1 ∷ d c0 d1 1 ∷ d c0 d1 3 ∷ [];
}

abbrev pub LateMarkDropped : Type 0
LateMarkDropped =
    Tells (machine 2 2 1 2 256)
    ((sw 0 3 ∷ lw 8 ∷ []) ∷ (sw 8 4 ∷ Ends ∷ []) ∷ [])
    late_mark_dropped_events late_mark_dropped

-- TIDs that were given up ahead of their turn are passed
abbrev pub skips_are_passed_events : List Event
skips_are_passed_events =
    e 0 ∷ e 0 ∷ d c0 v 0 ∷ d v c0 0 ∷ e 1 ∷ e 1 ∷ d c0 d0 0 ∷ d d0 c0 0 ∷ e 0 ∷ e 0 ∷ d c0 v 1 ∷ d v c0 1 ∷ d c1 v 0 ∷
    d v c1 0 ∷ d c0 d1 1 ∷ d c0 d1 0 ∷ []

abbrev pub skips_are_passed : Told
skips_are_passed = record {
  commits = noted_commit 1 0 2 [] (wrote 0 5 ∷ []) [] ∷ [];
  cores =
      stands 2 [] (Ready 2) (TrappedWith 1) [] ∷ stands 16 [] (Probing 3) (TrappedWith 1) [] ∷ stands 32 [] Running Goes [] ∷ [];
  words = (0, 5) ∷ [];
  useful = e 0 ∷ e 2 ∷ x 0 0 0 ∷ d c0 d0 1 ∷ d c0 d0 3 ∷ d c1 d0 0 ∷ d c1 d1 0 ∷ [];
}

abbrev pub SkipsArePassed : Type 0
SkipsArePassed =
    Tells (machine 3 2 1 1 256)
    ((sw 0 5 ∷ Ends ∷ []) ∷ (sw 8 5 ∷ []) ∷ [] ∷ [])
    skips_are_passed_events skips_are_passed

-- three cores: the larger TID commits first, and stands behind the smaller one
abbrev pub larger_first_events : List Event
larger_first_events =
    e 2 ∷ e 2 ∷ d c2 v 0 ∷ d v c2 0 ∷ d c2 d1 0 ∷ e 1 ∷ e 1 ∷ d c1 v 0 ∷ d v c1 0 ∷ d c1 d1 0 ∷ d d1 c1 0 ∷ d c2 d2 0 ∷ e 1 ∷
    d d2 c2 0 ∷ e 2 ∷ []

abbrev pub larger_first : Told
larger_first = record {
  commits = noted_commit 1 2 2 [] (wrote 16 8 ∷ []) [] ∷ noted_commit 2 1 2 [] (wrote 8 7 ∷ []) [] ∷ [];
  cores = stands 0 [] Running Goes [] ∷ stands 18 [] Running Goes [] ∷ stands 33 [] Halted (HaltedWith 5) [] ∷ [];
  words = (8, 7) ∷ (16, 8) ∷ [];
  useful = e 0 ∷ e 1 ∷ x 1 0 0 ∷ x 2 0 0 ∷ d c1 d0 0 ∷ d c1 d1 1 ∷ d c1 d2 0 ∷ d c2 d0 0 ∷ d c2 d2 1 ∷ [];
}

abbrev pub LargerFirst : Type 0
LargerFirst =
    Tells (machine 3 3 1 1 256)
    ([] ∷ (sw 8 7 ∷ Ends ∷ []) ∷ (sw 16 8 ∷ Halts 5 ∷ []) ∷ [])
    larger_first_events larger_first

-- a core that only read at a directory skips there before it probes
abbrev pub skip_before_probe_events : List Event
skip_before_probe_events =
    e 0 ∷ d c0 d1 0 ∷ d d1 c0 0 ∷ e 0 ∷ e 0 ∷ e 0 ∷ d c0 v 0 ∷ d v c0 0 ∷ d c0 d1 1 ∷ []

abbrev pub skip_before_probe : Told
skip_before_probe = record {
  commits = [];
  cores = stands 0 [] (Probing 1) (TrappedWith 1) (8 ∷ []) ∷ stands 16 [] Running Goes [] ∷ [];
  words = [];
  useful = e 1 ∷ d c0 d0 0 ∷ d c0 d1 2 ∷ [];
}

abbrev pub SkipBeforeProbe : Type 0
SkipBeforeProbe =
    Tells (machine 2 2 1 2 256)
    ((lw 8 ∷ sw 0 4 ∷ []) ∷ [] ∷ [])
    skip_before_probe_events skip_before_probe

abbrev pub HomesAre : Type 0
HomesAre = LowerTagDropped × FlushBeforeStore × LowerTagUnseen × PartAsksOwner × LateMarkDropped × SkipsArePassed × LargerFirst
    × SkipBeforeProbe
