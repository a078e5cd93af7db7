-- Schedules that are worked by hand: each names the rule that it shows.
use Rattle.std.specs.Prelude.{List, [], ◌∷◌, ◌++◌}
use Rattle.rules_program.specs.Plain.{Goes, Ended}
use Rattle.rules_program.specs.Program.{Ends}
use Rattle.rules_tcc.specs.Names.{noted_commit, stands, got, wrote}
use Rattle.rules_tcc.specs.Needs.{Codes, lw, sw}
use Rattle.rules_tcc.specs.State.{Running, AwaitTid, Solo}
use Rattle.rules_tcc.specs.Told.{machine}
use Rattle.rules_bus.specs.State.{BusEvent}
use Rattle.rules_bus.specs.Told.{BusTold, BusTells, e, x, t}

-- a core that had read a word of the packet begins anew, loads the word again from memory, and commits after it
abbrev pub reader_code : Codes
reader_code = (lw 0 ∷ sw 1 5 ∷ Ends ∷ []) ∷ (sw 0 9 ∷ Ends ∷ []) ∷ []

abbrev pub reader_events : List BusEvent
reader_events = e 0 ∷ e 1 ∷ e 1 ∷ e 1 ∷ t 0 ∷ []

abbrev pub reader_begins_anew : BusTold
reader_begins_anew = record {
  commits = noted_commit 1 1 2 [] (wrote 0 9 ∷ []) [] ∷ [];
  cores = stands 0 [] Running Goes [] ∷ stands 18 [] Running Goes [] ∷ [];
  words = (0, 9) ∷ [];
  left = [];
  useful = e 0 ∷ e 1 ∷ [];
}

abbrev pub reader_commits : BusTold
reader_commits = record {
  commits = noted_commit 1 1 2 [] (wrote 0 9 ∷ []) [] ∷ noted_commit 2 0 3 (got 0 9 ∷ []) (wrote 1 5 ∷ []) [] ∷ [];
  cores = stands 3 (9 ∷ []) Running Goes [] ∷ stands 18 [] Running Goes [] ∷ [];
  words = (0, 9) ∷ (1, 5) ∷ [];
  left = 1 ∷ [];
  useful = e 0 ∷ e 1 ∷ t 1 ∷ [];
}

abbrev pub ReaderBeginsAnew : Type 0
ReaderBeginsAnew =
    BusTells (machine 2 1 1 2 256) reader_code reader_events reader_begins_anew
    × BusTells (machine 2 1 1 2 256) reader_code (reader_events ++ e 0 ∷ e 0 ∷ e 0 ∷ e 0 ∷ []) reader_commits

-- two cores take a packet: one has read another word of the line and goes on, and commits once the other has taken it too
abbrev pub packet_code : Codes
packet_code = (lw 1 ∷ Ends ∷ []) ∷ (lw 0 ∷ Ends ∷ []) ∷ (sw 0 9 ∷ Ends ∷ []) ∷ []

abbrev pub packet_events : List BusEvent
packet_events = e 0 ∷ e 0 ∷ e 1 ∷ e 2 ∷ e 2 ∷ e 2 ∷ t 0 ∷ []

abbrev pub one_has_taken : BusTold
one_has_taken = record {
  commits = noted_commit 1 2 2 [] (wrote 0 9 ∷ []) [] ∷ [];
  cores = stands 0 [] AwaitTid Ended (1 ∷ []) ∷ stands 16 [] Running Goes (0 ∷ []) ∷ stands 34 [] Running Goes [] ∷ [];
  words = (0, 9) ∷ [];
  left = 1 ∷ [];
  useful = e 1 ∷ e 2 ∷ t 1 ∷ [];
}

abbrev pub both_have_taken : BusTold
both_have_taken = record {
  commits = noted_commit 1 2 2 [] (wrote 0 9 ∷ []) [] ∷ [];
  cores = stands 0 [] AwaitTid Ended (1 ∷ []) ∷ stands 16 [] Running Goes [] ∷ stands 34 [] Running Goes [] ∷ [];
  words = (0, 9) ∷ [];
  left = [];
  useful = e 0 ∷ e 1 ∷ e 2 ∷ [];
}

abbrev pub TwoTakeIt : Type 0
TwoTakeIt =
    BusTells (machine 3 1 1 2 256) packet_code packet_events one_has_taken
    × BusTells (machine 3 1 1 2 256) packet_code (packet_events ++ t 1 ∷ []) both_have_taken

-- a core that finds its set full of stored lines takes the bus: no other commits, and it waits for room until a way is emptied
abbrev pub alone_code : Codes
alone_code = (sw 0 5 ∷ sw 8 6 ∷ lw 0 ∷ Ends ∷ []) ∷ (sw 16 7 ∷ Ends ∷ []) ∷ []

abbrev pub alone_events : List BusEvent
alone_events = e 0 ∷ e 0 ∷ e 1 ∷ e 1 ∷ []

abbrev pub takes_the_bus : BusTold
takes_the_bus = record {
  commits = [];
  cores = stands 0 [] (Solo 1) Goes [] ∷ stands 16 [] AwaitTid Ended [] ∷ [];
  words = [];
  left = [];
  useful = x 0 0 0 ∷ [];
}

-- the word that it spilled is read from there, and goes to memory and into the packet with the others
abbrev pub reads_what_it_spilled : BusTold
reads_what_it_spilled = record {
  commits = noted_commit 1 0 4 (got 0 5 ∷ []) (wrote 0 5 ∷ wrote 8 6 ∷ []) [] ∷ [];
  cores = stands 4 (5 ∷ []) Running Goes [] ∷ stands 16 [] AwaitTid Ended [] ∷ [];
  words = (0, 5) ∷ (8, 6) ∷ [];
  left = 1 ∷ [];
  useful = e 0 ∷ t 1 ∷ [];
}

abbrev pub AloneOnTheBus : Type 0
AloneOnTheBus =
    BusTells (machine 2 1 1 1 256) alone_code alone_events takes_the_bus
    × BusTells (machine 2 1 1 1 256) alone_code (alone_events ++ x 0 0 0 ∷ e 0 ∷ e 0 ∷ e 0 ∷ []) reads_what_it_spilled

-- while a packet is to be taken no core goes alone; once it is taken the core does, and its read marks are gone
abbrev pub late_code : Codes
late_code = (lw 0 ∷ lw 8 ∷ Ends ∷ []) ∷ (sw 16 7 ∷ Ends ∷ []) ∷ []

abbrev pub late_events : List BusEvent
late_events = e 0 ∷ e 1 ∷ e 1 ∷ e 1 ∷ []

abbrev pub waits_for_the_packet : BusTold
waits_for_the_packet = record {
  commits = noted_commit 1 1 2 [] (wrote 16 7 ∷ []) [] ∷ [];
  cores = stands 0 [] Running Goes (0 ∷ []) ∷ stands 18 [] Running Goes [] ∷ [];
  words = (16, 7) ∷ [];
  left = 0 ∷ [];
  useful = e 1 ∷ t 0 ∷ [];
}

abbrev pub alone_after_it : BusTold
alone_after_it = record {
  commits = noted_commit 1 1 2 [] (wrote 16 7 ∷ []) [] ∷ [];
  cores = stands 0 [] (Solo 2) Goes [] ∷ stands 18 [] Running Goes [] ∷ [];
  words = (16, 7) ∷ [];
  left = [];
  useful = e 1 ∷ x 0 0 0 ∷ [];
}

abbrev pub AloneAfterThePacket : Type 0
AloneAfterThePacket =
    BusTells (machine 2 1 1 1 256) late_code late_events waits_for_the_packet
    × BusTells (machine 2 1 1 1 256) late_code (late_events ++ t 0 ∷ e 0 ∷ []) alone_after_it

-- a commit of a transaction that wrote nothing sends no packet
abbrev pub reads_only : BusTold
reads_only = record {
  commits = noted_commit 1 0 2 (got 0 100 ∷ []) [] [] ∷ [];
  cores = stands 2 (100 ∷ []) Running Goes [] ∷ stands 16 [] Running Goes [] ∷ [];
  words = [];
  left = [];
  useful = e 0 ∷ e 1 ∷ [];
}

abbrev pub NothingToTake : Type 0
NothingToTake = BusTells (machine 2 1 1 1 256) ((lw 0 ∷ Ends ∷ []) ∷ []) (e 0 ∷ e 0 ∷ e 0 ∷ []) reads_only

-- a core that waited for the bus begins anew too, and runs
abbrev pub runs_anew : BusTold
runs_anew = record {
  commits = noted_commit 1 1 2 [] (wrote 0 9 ∷ []) [] ∷ [];
  cores = stands 0 [] Running Goes [] ∷ stands 18 [] Running Goes [] ∷ [];
  words = (0, 9) ∷ [];
  left = [];
  useful = e 0 ∷ e 1 ∷ [];
}

abbrev pub WaitingBeginsAnew : Type 0
WaitingBeginsAnew =
    BusTells (machine 2 1 1 1 256) ((lw 0 ∷ Ends ∷ []) ∷ (sw 0 9 ∷ Ends ∷ []) ∷ [])
    (e 0 ∷ e 0 ∷ e 1 ∷ e 1 ∷ e 1 ∷ t 0 ∷ []) runs_anew
