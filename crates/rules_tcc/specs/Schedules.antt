-- The schedules that were worked by hand, each with what must be reported at its end. In a schedule e 0 is Exec of core 0,
-- x 0 4 0 empties way 0 of set 4 of core 0, and d c0 v 0 delivers message 0 from core 0 to the vendor.
use Rattle.std.specs.Prelude.{ℕ, ◌≡◌, List, [], ◌∷◌, ◌++◌, Some, None}
use Rattle.rules_maps.specs.Nodes.{Event}
use Rattle.rules_tcc.specs.Rows.{ReportedCommit, ReportedCore, Report, Pairs, e, x, d, c0, c1, d0, d1, v, replayed, stores_first}
use Rattle.rules_tcc.specs.Rows.{stores_second, stores_both, two_cores, small_machine, copies_word, loads_then_stores, breaks_at_zero}
use Rattle.rules_tcc.specs.Rows.{stores_base, stores_line}

-- a core that has committed nothing; one that stored and is at the third word behind its entry; others by pc and registers
abbrev pub base : ℕ
base = 0x80000000

abbrev pub told_commit : (tid core n : ℕ) → Pairs → ReportedCommit
told_commit tid core n loads = record { tid = tid; core = core; n = n; loads = loads }

abbrev pub told_state : (pc : ℕ) → Pairs → ReportedCore
told_state pc regs = record { pc = pc; regs = regs }

abbrev pub reports : (commits : List ReportedCommit) → (first second : ReportedCore) → (words : Pairs) → Report
reports commits first second words = record { commits = commits; first = first; second = second; words = words }

-- two TIDs at two directories: the larger one commits while the smaller one is on its way
abbrev pub two_tids : List Event
two_tids =
    e 0 ∷ e 0 ∷ e 0 ∷ d c0 v 0 ∷ e 1 ∷ e 1 ∷ e 1 ∷ d c1 v 0 ∷ d v c1 0 ∷ d v c0 0 ∷ d c0 d1 0 ∷ d c1 d1 0 ∷
    d d1 c1 0 ∷ e 1 ∷ []

abbrev pub TwoTids : Type 0
TwoTids = replayed (two_cores 2) stores_first stores_second two_tids ≡ Some
    (reports (told_commit 2 1 3 [] ∷ []) (told_state 0x80000000 ((11, 2) ∷ [])) (told_state 0x8000002c ((6, base) ∷ (10, 1) ∷ (11, 2) ∷ []))
    ((24, 2) ∷ []))

-- the smaller one commits after it, and stands before it in the list
abbrev pub two_tids_more : List Event
two_tids_more =
    d c0 d0 0 ∷ d d0 c0 0 ∷ e 0 ∷ []

abbrev pub TwoTidsMore : Type 0
TwoTidsMore = replayed (two_cores 2) stores_first stores_second (two_tids ++ two_tids_more) ≡ Some
    (reports (told_commit 1 0 3 [] ∷ told_commit 2 1 3 [] ∷ []) (told_state 0x8000000c ((6, base) ∷ (11, 2) ∷ []))
    (told_state 0x8000002c ((6, base) ∷ (10, 1) ∷ (11, 2) ∷ [])) ((16, 2) ∷ (24, 2) ∷ []))

-- a reader that must wait: its probe at the directory where it read waits for the smaller TID
abbrev pub reader_begins : List Event
reader_begins =
    e 1 ∷ e 1 ∷ d c1 d1 0 ∷ d d1 c1 0 ∷ e 1 ∷ e 1 ∷ e 0 ∷ e 0 ∷ e 0 ∷ d c0 v 0 ∷ e 1 ∷ d c1 v 0 ∷ d v c0 0 ∷
    d c0 d0 0 ∷ d v c1 0 ∷ d c1 d0 0 ∷ d d0 c1 0 ∷ d c1 d1 1 ∷ []

-- the last two are an Abort and the Mark that it overtook, which is dropped
abbrev pub reader_goes_on : List Event
reader_goes_on =
    d c0 d1 0 ∷ d d1 c0 0 ∷ e 0 ∷ d c0 d1 1 ∷ d c0 d1 2 ∷ d d1 c1 1 ∷ d c1 d1 3 ∷ d c1 d0 2 ∷ d c1 d0 1 ∷ []

abbrev pub ReaderWaits : Type 0
ReaderWaits = replayed (two_cores 2) stores_second copies_word (reader_begins ++ reader_goes_on) ≡ Some
    (reports (told_commit 1 0 3 [] ∷ []) (told_state 0x8000000c ((6, base) ∷ (11, 2) ∷ [])) (told_state 0x80000020 ((10, 1) ∷ (11, 2) ∷ []))
    ((24, 2) ∷ []))

-- the probe comes too early: it is not enabled
abbrev pub ProbeWaits : Type 0
ProbeWaits = replayed (two_cores 2) stores_second copies_word (reader_begins ++ d c1 d1 2 ∷ []) ≡ None

-- a larger TID commits over what a smaller one read
abbrev pub over_a_read : List Event
over_a_read =
    e 0 ∷ e 0 ∷ d c0 d1 0 ∷ d d1 c0 0 ∷ e 0 ∷ e 0 ∷ e 0 ∷ d c0 v 0 ∷ d v c0 0 ∷ d c0 d1 1 ∷ d c0 d1 2 ∷ e 1 ∷
    e 1 ∷ e 1 ∷ d c1 v 0 ∷ d v c1 0 ∷ d c1 d1 0 ∷ d d1 c1 0 ∷ e 1 ∷ d c1 d1 1 ∷ d c1 d1 2 ∷ d d1 c0 2 ∷
    d c0 d0 0 ∷ d d0 c0 0 ∷ d d1 c0 1 ∷ e 0 ∷ []

abbrev pub OverARead : Type 0
OverARead = replayed (two_cores 2) loads_then_stores stores_second over_a_read ≡ Some
    (reports (told_commit 1 0 4 ((0x80000060, 0) ∷ []) ∷ told_commit 2 1 3 [] ∷ []) (told_state 0x80000010 ((6, base) ∷ (11, 2) ∷ []))
    (told_state 0x8000002c ((6, base) ∷ (10, 1) ∷ (11, 2) ∷ [])) ((16, 2) ∷ (24, 2) ∷ []))

-- a violation between the request for a TID and its grant, of an attempt that ran into a breakpoint
abbrev pub doomed_attempt : List Event
doomed_attempt =
    e 1 ∷ e 1 ∷ d c1 d1 0 ∷ d d1 c1 0 ∷ e 1 ∷ e 1 ∷ e 1 ∷ e 0 ∷ e 0 ∷ e 0 ∷ d c0 v 0 ∷ d v c0 0 ∷ d c0 d1 0 ∷
    d d1 c0 0 ∷ e 0 ∷ d c0 d1 1 ∷ d c0 d1 2 ∷ d d1 c1 1 ∷ d c1 v 0 ∷ d v c1 0 ∷ []

abbrev pub DoomedAttempt : Type 0
DoomedAttempt = replayed (two_cores 2) stores_second breaks_at_zero doomed_attempt ≡ Some
    (reports (told_commit 1 0 3 [] ∷ []) (told_state 0x8000000c ((6, base) ∷ (11, 2) ∷ [])) (told_state 0x80000020 ((10, 1) ∷ (11, 2) ∷ []))
    ((24, 2) ∷ []))

-- an invalidation comes before the fill; message 2 from core 1 is delivered twice: the first time the owner is asked
abbrev pub before_the_fill : List Event
before_the_fill =
    e 1 ∷ e 1 ∷ d c1 d1 0 ∷ e 0 ∷ e 0 ∷ e 0 ∷ d c0 v 0 ∷ d v c0 0 ∷ d c0 d1 0 ∷ d d1 c0 0 ∷ e 0 ∷ d c0 d1 1 ∷
    d c0 d1 2 ∷ d d1 c1 1 ∷ d c1 d1 1 ∷ d d1 c1 0 ∷ e 1 ∷ d c1 d1 2 ∷ d d1 c0 1 ∷ d c0 d1 3 ∷ d c1 d1 2 ∷
    d d1 c1 2 ∷ e 1 ∷ e 1 ∷ e 1 ∷ d c1 v 0 ∷ d v c1 0 ∷ d c0 d0 0 ∷ d c1 d0 0 ∷ d d0 c1 0 ∷ d c1 d1 4 ∷
    d d1 c1 3 ∷ e 1 ∷ []

abbrev pub BeforeTheFill : Type 0
BeforeTheFill = replayed (two_cores 2) stores_second copies_word before_the_fill ≡ Some
    (reports (told_commit 1 0 3 [] ∷ told_commit 2 1 4 ((0x80000060, 2) ∷ []) ∷ []) (told_state 0x8000000c ((6, base) ∷ (11, 2) ∷ []))
    (told_state 0x80000030 ((5, 2) ∷ (6, base) ∷ (10, 1) ∷ (11, 2) ∷ [])) ((16, 2) ∷ (24, 2) ∷ []))

-- a whole line is stored over a dirty owner, whose write-back comes too late and is dropped
abbrev pub over_a_dirty_owner : List Event
over_a_dirty_owner =
    e 0 ∷ e 0 ∷ e 0 ∷ d c0 v 0 ∷ d v c0 0 ∷ d c0 d0 0 ∷ d d0 c0 0 ∷ e 0 ∷ d c0 d0 1 ∷ d c0 d0 2 ∷ x 0 4 0 ∷
    e 1 ∷ e 1 ∷ e 1 ∷ e 1 ∷ e 1 ∷ e 1 ∷ e 1 ∷ e 1 ∷ e 1 ∷ e 1 ∷ d c1 v 0 ∷ d v c1 0 ∷ d c1 d0 0 ∷ d d0 c1 0 ∷
    e 1 ∷ d c1 d0 1 ∷ d c1 d0 2 ∷ d c0 d0 3 ∷ d d0 c0 1 ∷ x 1 4 0 ∷ d c1 d0 3 ∷ []

abbrev pub OverADirtyOwner : Type 0
OverADirtyOwner = replayed (two_cores 1) stores_base stores_line over_a_dirty_owner ≡ Some
    (reports (told_commit 1 0 3 [] ∷ told_commit 2 1 10 [] ∷ []) (told_state 0x8000000c ((6, base) ∷ (11, 2) ∷ []))
    (told_state 0x80000048 ((6, base) ∷ (10, 1) ∷ (11, 2) ∷ []))
    ((32, 2) ∷ (33, 2) ∷ (34, 2) ∷ (35, 2) ∷ (36, 2) ∷ (37, 2) ∷ (38, 2) ∷ (39, 2) ∷ []))

-- a write-back that comes before its own commit waits
abbrev pub early_write_back : List Event
early_write_back =
    e 0 ∷ e 0 ∷ e 0 ∷ d c0 v 0 ∷ d v c0 0 ∷ d c0 d0 0 ∷ d d0 c0 0 ∷ e 0 ∷ d c0 d0 1 ∷ x 0 4 0 ∷ []

abbrev pub WriteBackWaits : Type 0
WriteBackWaits = (replayed (two_cores 1) stores_base stores_line early_write_back ≡ None → ⊥)
    × (replayed (two_cores 1) stores_base stores_line (early_write_back ++ d c0 d0 3 ∷ []) ≡ None)

-- a core whose only frame is marked goes on alone, spills it, and commits what was spilled with the rest; the other core,
-- which read one of the words, is violated
abbrev pub alone_after_overflow : List Event
alone_after_overflow =
    e 1 ∷ e 0 ∷ e 0 ∷ e 1 ∷ e 0 ∷ d c0 v 0 ∷ d v c0 0 ∷ d c1 d1 0 ∷ d d1 c1 0 ∷ d c0 d0 0 ∷ d d0 c0 0 ∷ e 1 ∷ d c0 d1 0 ∷ d d1 c0 0 ∷ x 0 0
    0 ∷ e 0 ∷ e 0 ∷ d c0 d1 1 ∷ d c0 d1 2 ∷ d c0 d0 1 ∷ d d1 c1 1 ∷ d c0 d0 2 ∷ d c0 d0 3 ∷ d c1 d1 1 ∷ []

abbrev pub AloneAfterOverflow : Type 0
AloneAfterOverflow = replayed small_machine stores_both copies_word alone_after_overflow ≡ Some
    (reports (told_commit 1 0 4 [] ∷ []) (told_state 0x80000010 ((6, base) ∷ (11, 2) ∷ [])) (told_state 0x80000020 ((10, 1) ∷ (11, 2) ∷ []))
    ((16, 2) ∷ (24, 2) ∷ []))
