-- The facts of each event of five schedules. The first four are worked schedules of rules_tcc, and their facts were told by a second
-- implementation; the last is one core's transaction that changes a word, prints and halts.
use Rattle.std.specs.Prelude.{◌≡◌, true, false, List, [], ◌∷◌, Option, Some, None}
use Rattle.tcc_base.specs.declared.access.Size.TheVariants.{Word}
use Rattle.rules_program.specs.Program.{Program, Prints, Halts}
use Rattle.rules_program.specs.Ram.{flat}
use Rattle.rules_maps.specs.Nodes.{Event, TidReq, TidGrant, LoadReq, Fill, Skip, Probe, ProbeReply, Mark, Commit}
use Rattle.rules_maps.specs.Nodes.{WriteBack, Flush, DataReq, Inv, InvAck}
use Rattle.rules_maps.specs.Shape.{Shape}
use Rattle.rules_tcc.specs.State.{Running, AwaitTid, DoomedTid, Probing, Ready, Overflowing, Solo, Halted, start}
use Rattle.rules_tcc.specs.Step.{History, next_history}
use Rattle.rules_tcc.specs.Needs.{Codes, needs, entry, add}
use Rattle.rules_tcc.specs.Told.{machine, first_words}
use Rattle.rules_tcc.specs.Rows.{Image, e, d, c0, c1, d0, d1, v, two_cores, small_machine, both_words, both_code, entries}
use Rattle.rules_tcc.specs.Rows.{stores_second, breaks_at_zero, copies_word, stores_base, stores_line, stores_both}
use Rattle.rules_tcc.specs.Schedules.{doomed_attempt, before_the_fill, over_a_dirty_owner, alone_after_overflow}
use Rattle.rules_tcc.specs.Small.{small}
use Rattle.watch.specs.Facts.{Fact, Did, Missed, Overflowed, Evicted, Took, Dropped, AskedOwner, Violated, GaveUp, Committed, CameTo}
use Rattle.watch.specs.Facts.{Serves, Sent}
use Rattle.watch.specs.Facts.{Plainly, Loaded, Stored, Changed, Printed, Ended, HaltedWith, TrappedWith}
use Rattle.watch.specs.Happened.{happened}

-- the facts of these events one after another, up to the first that isn't enabled
abbrev pub or_end : (History → List (List Fact)) → Option History → List (List Fact)
or_end f None = []
or_end f (Some h) = f h

unfoldable pub facts_from : Shape → Program → List Event → History → List (List Fact)
facts_from sh p [] h = []
facts_from sh p (e ∷ es) h = happened sh p h e ∷ or_end (facts_from sh p es) (next_history sh p h e)

unfoldable pub facts_along : Shape → Image → Image → List Event → List (List Fact)
facts_along sh a b es =
    facts_from sh (small (both_code a b)) es (record { world = start entries (flat (both_words a b)); commits = [] })

unfoldable pub facts_of_codes : Shape → Codes → List Event → List (List Fact)
facts_of_codes sh codes es = facts_from sh (needs codes) es (record { world = start entry first_words; commits = [] })

abbrev pub doomed_attempt_facts : List (List Fact)
doomed_attempt_facts =
    (Did 1 0x80000020 Plainly ∷ []) ∷  -- e 1
    (Missed 1 0x80000024 0x80000060 3 ∷ Sent c1 d1 0 (LoadReq 3 0) ∷ []) ∷  -- e 1
    (Took (LoadReq 3 0) ∷ Sent d1 c1 0 (Fill 3 (0 ∷ 0 ∷ 0 ∷ 0 ∷ 0 ∷ 0 ∷ 0 ∷ 0 ∷ [])) ∷ []) ∷  -- d c1 d1 0
    (Took (Fill 3 (0 ∷ 0 ∷ 0 ∷ 0 ∷ 0 ∷ 0 ∷ 0 ∷ 0 ∷ [])) ∷ []) ∷  -- d d1 c1 0
    (Did 1 0x80000024 (Loaded 0x80000060 Word 0) ∷ []) ∷  -- e 1
    (Did 1 0x80000028 Plainly ∷ []) ∷  -- e 1
    (Did 1 0x8000002c (TrappedWith 3) ∷ CameTo 1 AwaitTid ∷ Sent c1 v 0 TidReq ∷ []) ∷  -- e 1
    (Did 0 0x80000000 Plainly ∷ []) ∷  -- e 0
    (Did 0 0x80000004 (Stored 0x80000060 Word 2) ∷ []) ∷  -- e 0
    (Did 0 0x80000008 Ended ∷ CameTo 0 AwaitTid ∷ Sent c0 v 0 TidReq ∷ []) ∷  -- e 0
    (Took TidReq ∷ Sent v c0 0 (TidGrant 1) ∷ []) ∷  -- d c0 v 0
    (Took (TidGrant 1) ∷ CameTo 0 (Probing 1) ∷ Sent c0 d0 0 (Skip 1) ∷ Sent c0 d1 0 (Probe 1) ∷ []) ∷  -- d v c0 0
    (Took (Probe 1) ∷ Sent d1 c0 0 (ProbeReply 1 1) ∷ []) ∷  -- d c0 d1 0
    (Took (ProbeReply 1 1) ∷ CameTo 0 (Ready 1) ∷ Sent c0 d1 1 (Mark 3 1 1) ∷ []) ∷  -- d d1 c0 0
    (Committed 1 0 3 ∷ CameTo 0 Running ∷ Sent c0 d1 2 (Commit 1 1) ∷ []) ∷  -- e 0
    (Took (Mark 3 1 1) ∷ []) ∷  -- d c0 d1 1
    (Took (Commit 1 1) ∷ Sent d1 c1 1 (Inv 3 1 1) ∷ []) ∷  -- d c0 d1 2
    (Took (Inv 3 1 1) ∷ Violated 1 0 1 3 1 4 AwaitTid ∷ CameTo 1 DoomedTid ∷ Sent c1 d1 1 (InvAck 3 true) ∷ []) ∷  -- d d1 c1 1
    (Took TidReq ∷ Sent v c1 0 (TidGrant 2) ∷ []) ∷  -- d c1 v 0
    (Took (TidGrant 2) ∷ GaveUp 2 1 ∷ CameTo 1 Running ∷ Sent c1 d0 0 (Skip 2) ∷ Sent c1 d1 2 (Skip 2) ∷ []) ∷  -- d v c1 0
    []

abbrev pub DoomedAttemptFacts : Type 0
DoomedAttemptFacts = facts_along (two_cores 2) stores_second breaks_at_zero doomed_attempt ≡ doomed_attempt_facts

abbrev pub before_the_fill_facts : List (List Fact)
before_the_fill_facts =
    (Did 1 0x80000020 Plainly ∷ []) ∷  -- e 1
    (Missed 1 0x80000024 0x80000060 3 ∷ Sent c1 d1 0 (LoadReq 3 0) ∷ []) ∷  -- e 1
    (Took (LoadReq 3 0) ∷ Sent d1 c1 0 (Fill 3 (0 ∷ 0 ∷ 0 ∷ 0 ∷ 0 ∷ 0 ∷ 0 ∷ 0 ∷ [])) ∷ []) ∷  -- d c1 d1 0
    (Did 0 0x80000000 Plainly ∷ []) ∷  -- e 0
    (Did 0 0x80000004 (Stored 0x80000060 Word 2) ∷ []) ∷  -- e 0
    (Did 0 0x80000008 Ended ∷ CameTo 0 AwaitTid ∷ Sent c0 v 0 TidReq ∷ []) ∷  -- e 0
    (Took TidReq ∷ Sent v c0 0 (TidGrant 1) ∷ []) ∷  -- d c0 v 0
    (Took (TidGrant 1) ∷ CameTo 0 (Probing 1) ∷ Sent c0 d0 0 (Skip 1) ∷ Sent c0 d1 0 (Probe 1) ∷ []) ∷  -- d v c0 0
    (Took (Probe 1) ∷ Sent d1 c0 0 (ProbeReply 1 1) ∷ []) ∷  -- d c0 d1 0
    (Took (ProbeReply 1 1) ∷ CameTo 0 (Ready 1) ∷ Sent c0 d1 1 (Mark 3 1 1) ∷ []) ∷  -- d d1 c0 0
    (Committed 1 0 3 ∷ CameTo 0 Running ∷ Sent c0 d1 2 (Commit 1 1) ∷ []) ∷  -- e 0
    (Took (Mark 3 1 1) ∷ []) ∷  -- d c0 d1 1
    (Took (Commit 1 1) ∷ Sent d1 c1 1 (Inv 3 1 1) ∷ []) ∷  -- d c0 d1 2
    (Took (Inv 3 1 1) ∷ Sent c1 d1 1 (InvAck 3 false) ∷ []) ∷  -- d d1 c1 1
    (Took (InvAck 3 false) ∷ Serves 1 2 ∷ []) ∷  -- d c1 d1 1
    (Took (Fill 3 (0 ∷ 0 ∷ 0 ∷ 0 ∷ 0 ∷ 0 ∷ 0 ∷ 0 ∷ [])) ∷ []) ∷  -- d d1 c1 0
    (Missed 1 0x80000024 0x80000060 3 ∷ Sent c1 d1 2 (LoadReq 3 0) ∷ []) ∷  -- e 1
    (AskedOwner (LoadReq 3 0) ∷ Sent d1 c0 1 (DataReq 3) ∷ []) ∷  -- d c1 d1 2
    (Took (DataReq 3) ∷ Sent c0 d1 3 (Flush 3 1 (2 ∷ 0 ∷ 0 ∷ 0 ∷ 0 ∷ 0 ∷ 0 ∷ 0 ∷ []) 1) ∷ []) ∷  -- d d1 c0 1
    (Took (Flush 3 1 (2 ∷ 0 ∷ 0 ∷ 0 ∷ 0 ∷ 0 ∷ 0 ∷ 0 ∷ []) 1) ∷ []) ∷  -- d c0 d1 3
    (Took (LoadReq 3 0) ∷ Sent d1 c1 2 (Fill 3 (2 ∷ 0 ∷ 0 ∷ 0 ∷ 0 ∷ 0 ∷ 0 ∷ 0 ∷ [])) ∷ []) ∷  -- d c1 d1 2
    (Took (Fill 3 (2 ∷ 0 ∷ 0 ∷ 0 ∷ 0 ∷ 0 ∷ 0 ∷ 0 ∷ [])) ∷ []) ∷  -- d d1 c1 2
    (Did 1 0x80000024 (Loaded 0x80000060 Word 2) ∷ []) ∷  -- e 1
    (Did 1 0x80000028 (Stored 0x80000040 Word 2) ∷ []) ∷  -- e 1
    (Did 1 0x8000002c Ended ∷ CameTo 1 AwaitTid ∷ Sent c1 v 0 TidReq ∷ []) ∷  -- e 1
    (Took TidReq ∷ Sent v c1 0 (TidGrant 2) ∷ []) ∷  -- d c1 v 0
    (Took (TidGrant 2) ∷ CameTo 1 (Probing 2) ∷ Sent c1 d0 0 (Probe 2) ∷ Sent c1 d1 3 (Skip 2) ∷ Sent c1 d1 4 (Probe 2) ∷ []) ∷
    (Took (Skip 1) ∷ Serves 0 2 ∷ []) ∷  -- d c0 d0 0
    (Took (Probe 2) ∷ Sent d0 c1 0 (ProbeReply 2 2) ∷ []) ∷  -- d c1 d0 0
    (Took (ProbeReply 2 2) ∷ Sent c1 d0 1 (Mark 2 1 2) ∷ []) ∷  -- d d0 c1 0
    (Took (Probe 2) ∷ Sent d1 c1 3 (ProbeReply 2 2) ∷ []) ∷  -- d c1 d1 4
    (Took (ProbeReply 2 2) ∷ CameTo 1 (Ready 2) ∷ []) ∷  -- d d1 c1 3
    (Committed 2 1 4 ∷ CameTo 1 Running ∷ Sent c1 d0 2 (Commit 2 1) ∷ []) ∷  -- e 1
    []

abbrev pub BeforeTheFillFacts : Type 0
BeforeTheFillFacts = facts_along (two_cores 2) stores_second copies_word before_the_fill ≡ before_the_fill_facts

abbrev pub over_a_dirty_owner_facts : List (List Fact)
over_a_dirty_owner_facts =
    (Did 0 0x80000000 Plainly ∷ []) ∷  -- e 0
    (Did 0 0x80000004 (Stored 0x80000080 Word 0x80000000) ∷ []) ∷  -- e 0
    (Did 0 0x80000008 Ended ∷ CameTo 0 AwaitTid ∷ Sent c0 v 0 TidReq ∷ []) ∷  -- e 0
    (Took TidReq ∷ Sent v c0 0 (TidGrant 1) ∷ []) ∷  -- d c0 v 0
    (Took (TidGrant 1) ∷ CameTo 0 (Probing 1) ∷ Sent c0 d0 0 (Probe 1) ∷ []) ∷  -- d v c0 0
    (Took (Probe 1) ∷ Sent d0 c0 0 (ProbeReply 1 1) ∷ []) ∷  -- d c0 d0 0
    (Took (ProbeReply 1 1) ∷ CameTo 0 (Ready 1) ∷ Sent c0 d0 1 (Mark 4 1 1) ∷ []) ∷  -- d d0 c0 0
    (Committed 1 0 3 ∷ CameTo 0 Running ∷ Sent c0 d0 2 (Commit 1 1) ∷ []) ∷  -- e 0
    (Took (Mark 4 1 1) ∷ []) ∷  -- d c0 d0 1
    (Took (Commit 1 1) ∷ Serves 0 2 ∷ []) ∷  -- d c0 d0 2
    (Evicted 0 4 1 0 ∷ Sent c0 d0 3 (WriteBack 4 1 (0x80000000 ∷ 0 ∷ 0 ∷ 0 ∷ 0 ∷ 0 ∷ 0 ∷ 0 ∷ []) 1) ∷ []) ∷  -- x 0 4 0
    (Did 1 0x80000020 Plainly ∷ []) ∷  -- e 1
    (Did 1 0x80000024 (Stored 0x80000080 Word 2) ∷ []) ∷  -- e 1
    (Did 1 0x80000028 (Stored 0x80000084 Word 2) ∷ []) ∷  -- e 1
    (Did 1 0x8000002c (Stored 0x80000088 Word 2) ∷ []) ∷  -- e 1
    (Did 1 0x80000030 (Stored 0x8000008c Word 2) ∷ []) ∷  -- e 1
    (Did 1 0x80000034 (Stored 0x80000090 Word 2) ∷ []) ∷  -- e 1
    (Did 1 0x80000038 (Stored 0x80000094 Word 2) ∷ []) ∷  -- e 1
    (Did 1 0x8000003c (Stored 0x80000098 Word 2) ∷ []) ∷  -- e 1
    (Did 1 0x80000040 (Stored 0x8000009c Word 2) ∷ []) ∷  -- e 1
    (Did 1 0x80000044 Ended ∷ CameTo 1 AwaitTid ∷ Sent c1 v 0 TidReq ∷ []) ∷  -- e 1
    (Took TidReq ∷ Sent v c1 0 (TidGrant 2) ∷ []) ∷  -- d c1 v 0
    (Took (TidGrant 2) ∷ CameTo 1 (Probing 2) ∷ Sent c1 d0 0 (Probe 2) ∷ []) ∷  -- d v c1 0
    (Took (Probe 2) ∷ Sent d0 c1 0 (ProbeReply 2 2) ∷ []) ∷  -- d c1 d0 0
    (Took (ProbeReply 2 2) ∷ CameTo 1 (Ready 2) ∷ Sent c1 d0 1 (Mark 4 255 2) ∷ []) ∷  -- d d0 c1 0
    (Committed 2 1 10 ∷ CameTo 1 Running ∷ Sent c1 d0 2 (Commit 2 1) ∷ []) ∷  -- e 1
    (Took (Mark 4 255 2) ∷ []) ∷  -- d c1 d0 1
    (Took (Commit 2 1) ∷ Sent d0 c0 1 (Inv 4 255 2) ∷ []) ∷  -- d c1 d0 2
    (Dropped (WriteBack 4 1 (2147483648 ∷ 0 ∷ 0 ∷ 0 ∷ 0 ∷ 0 ∷ 0 ∷ 0 ∷ []) 1) ∷ []) ∷  -- d c0 d0 3
    (Took (Inv 4 255 2) ∷ Sent c0 d0 4 (InvAck 4 false) ∷ []) ∷  -- d d0 c0 1
    (Evicted 1 4 255 0 ∷ Sent c1 d0 3 (WriteBack 4 255 (2 ∷ 2 ∷ 2 ∷ 2 ∷ 2 ∷ 2 ∷ 2 ∷ 2 ∷ []) 2) ∷ []) ∷  -- x 1 4 0
    (Took (WriteBack 4 255 (2 ∷ 2 ∷ 2 ∷ 2 ∷ 2 ∷ 2 ∷ 2 ∷ 2 ∷ []) 2) ∷ []) ∷  -- d c1 d0 3
    []

abbrev pub OverADirtyOwnerFacts : Type 0
OverADirtyOwnerFacts = facts_along (two_cores 1) stores_base stores_line over_a_dirty_owner ≡ over_a_dirty_owner_facts

abbrev pub alone_after_overflow_facts : List (List Fact)
alone_after_overflow_facts =
    (Did 1 0x80000020 Plainly ∷ []) ∷  -- e 1
    (Did 0 0x80000000 Plainly ∷ []) ∷  -- e 0
    (Did 0 0x80000004 (Stored 0x80000040 Word 2) ∷ []) ∷  -- e 0
    (Missed 1 0x80000024 0x80000060 3 ∷ Sent c1 d1 0 (LoadReq 3 0) ∷ []) ∷  -- e 1
    (Overflowed 0 0x80000008 0x80000060 3 ∷ CameTo 0 (Overflowing None) ∷ Sent c0 v 0 TidReq ∷ []) ∷  -- e 0
    (Took TidReq ∷ Sent v c0 0 (TidGrant 1) ∷ []) ∷  -- d c0 v 0
    (Took (TidGrant 1) ∷ CameTo 0 (Overflowing (Some 1)) ∷ Sent c0 d0 0 (Probe 1) ∷ Sent c0 d1 0 (Probe 1) ∷ []) ∷  -- d v c0 0
    (Took (LoadReq 3 0) ∷ Sent d1 c1 0 (Fill 3 (0 ∷ 0 ∷ 0 ∷ 0 ∷ 0 ∷ 0 ∷ 0 ∷ 0 ∷ [])) ∷ []) ∷  -- d c1 d1 0
    (Took (Fill 3 (0 ∷ 0 ∷ 0 ∷ 0 ∷ 0 ∷ 0 ∷ 0 ∷ 0 ∷ [])) ∷ []) ∷  -- d d1 c1 0
    (Took (Probe 1) ∷ Sent d0 c0 0 (ProbeReply 1 1) ∷ []) ∷  -- d c0 d0 0
    (Took (ProbeReply 1 1) ∷ []) ∷  -- d d0 c0 0
    (Did 1 0x80000024 (Loaded 0x80000060 Word 0) ∷ []) ∷  -- e 1
    (Took (Probe 1) ∷ Sent d1 c0 0 (ProbeReply 1 1) ∷ []) ∷  -- d c0 d1 0
    (Took (ProbeReply 1 1) ∷ CameTo 0 (Solo 1) ∷ []) ∷  -- d d1 c0 0
    (Evicted 0 2 0 1 ∷ []) ∷  -- x 0 0 0
    (Did 0 0x80000008 (Stored 0x80000060 Word 2) ∷ []) ∷  -- e 0
    (Did 0 0x8000000c Ended ∷
    Committed 1 0 4 ∷
    CameTo 0 Running ∷
    Sent c0 d0 1 (Mark 2 1 1) ∷
    Sent c0 d0 2 (Commit 1 1) ∷
    Sent c0 d0 3 (WriteBack 2 1 (2 ∷ 0 ∷ 0 ∷ 0 ∷ 0 ∷ 0 ∷ 0 ∷ 0 ∷ []) 1) ∷
    Sent c0 d1 1 (Mark 3 1 1) ∷
    Sent c0 d1 2 (Commit 1 1) ∷ []) ∷  -- e 0
    (Took (Mark 3 1 1) ∷ []) ∷  -- d c0 d1 1
    (Took (Commit 1 1) ∷ Sent d1 c1 1 (Inv 3 1 1) ∷ []) ∷  -- d c0 d1 2
    (Took (Mark 2 1 1) ∷ []) ∷  -- d c0 d0 1
    (Took (Inv 3 1 1) ∷ Violated 1 0 1 3 1 2 Running ∷ Sent c1 d1 1 (InvAck 3 true) ∷ []) ∷  -- d d1 c1 1
    (Took (Commit 1 1) ∷ Serves 0 2 ∷ []) ∷  -- d c0 d0 2
    (Took (WriteBack 2 1 (2 ∷ 0 ∷ 0 ∷ 0 ∷ 0 ∷ 0 ∷ 0 ∷ 0 ∷ []) 1) ∷ []) ∷  -- d c0 d0 3
    (Took (InvAck 3 true) ∷ Serves 1 2 ∷ []) ∷  -- d c1 d1 1
    []

abbrev pub AloneAfterOverflowFacts : Type 0
AloneAfterOverflowFacts = facts_along small_machine stores_both copies_word alone_after_overflow ≡ alone_after_overflow_facts

-- one core adds 5 to word 0, puts an A on the console, and halts with 3; the last event is its commit
abbrev pub changes_and_halts : List Event
changes_and_halts =
    e 0 ∷ d c0 d0 0 ∷ d d0 c0 0 ∷ e 0 ∷ e 0 ∷ e 0 ∷ d c0 v 0 ∷ d v c0 0 ∷ d c0 d0 1 ∷ d d0 c0 1 ∷ e 0 ∷ []

abbrev pub changes_and_halts_facts : List (List Fact)
changes_and_halts_facts =
    (Missed 0 0 4096 0 ∷ Sent c0 d0 0 (LoadReq 0 0) ∷ []) ∷
    (Took (LoadReq 0 0) ∷ Sent d0 c0 0 (Fill 0 (100 ∷ 101 ∷ 102 ∷ 103 ∷ 104 ∷ 105 ∷ 106 ∷ 107 ∷ [])) ∷ []) ∷
    (Took (Fill 0 (100 ∷ 101 ∷ 102 ∷ 103 ∷ 104 ∷ 105 ∷ 106 ∷ 107 ∷ [])) ∷ []) ∷
    (Did 0 0 (Changed 4096 Word 100 105) ∷ []) ∷
    (Did 0 1 (Printed 65) ∷ []) ∷
    (Did 0 2 (HaltedWith 3) ∷ CameTo 0 AwaitTid ∷ Sent c0 v 0 TidReq ∷ []) ∷
    (Took TidReq ∷ Sent v c0 0 (TidGrant 1) ∷ []) ∷
    (Took (TidGrant 1) ∷ CameTo 0 (Probing 1) ∷ Sent c0 d0 1 (Probe 1) ∷ []) ∷
    (Took (Probe 1) ∷ Sent d0 c0 1 (ProbeReply 1 1) ∷ []) ∷
    (Took (ProbeReply 1 1) ∷ CameTo 0 (Ready 1) ∷ Sent c0 d0 2 (Mark 0 1 1) ∷ []) ∷
    (Committed 1 0 3 ∷ CameTo 0 Halted ∷ Sent c0 d0 3 (Commit 1 1) ∷ []) ∷
    []

abbrev pub ChangesAndHaltsFacts : Type 0
ChangesAndHaltsFacts =
    facts_of_codes (machine 1 1 1 1 256) ((add 0 5 ∷ Prints 65 ∷ Halts 3 ∷ []) ∷ []) changes_and_halts ≡ changes_and_halts_facts
