-- Lines of traces that a second implementation wrote, each with the fact that it shows, and a text of some events.
use Rattle.std.specs.Prelude.{◌≡◌, ℕ, true, false, List, [], ◌∷◌, ◌++◌, Some, None, map, codes}
use Rattle.tcc_base.specs.declared.access.Size.TheVariants.{Byte, Half, Word}
use Rattle.rules_program.specs.Ram.{flat}
use Rattle.rules_maps.specs.Nodes.{Core, TidReq, TidGrant, LoadReq, Fill, Skip, Probe, ProbeReply, Mark, Commit, Abort}
use Rattle.rules_maps.specs.Nodes.{WriteBack, Flush, DataReq, Inv, InvAck}
use Rattle.rules_tcc.specs.State.{Running, AwaitTid, DoomedTid, Probing, Ready, Overflowing, Solo, Halted, start}
use Rattle.rules_tcc.specs.Rows.{c0, d0, d1, v, two_cores, both_words, both_code, entries, stores_second, breaks_at_zero}
use Rattle.rules_tcc.specs.Schedules.{doomed_attempt}
use Rattle.rules_tcc.specs.Small.{small}
use Rattle.schedule_text.specs.Grammar.{newline}
use Rattle.watch.specs.Facts.{Fact, Did, Missed, Overflowed, Evicted, Took, Dropped, AskedOwner, Violated, GaveUp, Committed, CameTo}
use Rattle.watch.specs.Facts.{Serves, Sent}
use Rattle.watch.specs.Facts.{Plainly, Loaded, Stored, Changed, Printed, Ended, HaltedWith, TrappedWith}
use Rattle.watch_trace.specs.Lines.{fact_line}
use Rattle.watch_trace.specs.Text.{text_from, head_text, tail_text}

-- a fact, and its line without the line feed
pub record Row : Type 0 where
  pub fact : Fact
  pub line : List ℕ

abbrev pub row : Fact → List ℕ → Row
row f line = record { fact = f; line = line }

-- instructions that were finished
abbrev pub finished_rows : List Row
finished_rows =
    row (Did 3 0x80000000 Plainly) (codes " did 3 80000000 local") ∷
    row (Did 0 0x80000004 (Loaded 0x80000008 Half 0x1123)) (codes " did 0 80000004 load 80000008 2 00001123") ∷
    row (Did 3 0x8000010c (Loaded 0x8000cfd4 Byte 0x30)) (codes " did 3 8000010c load 8000cfd4 1 00000030") ∷
    row (Did 3 0x80000084 (Loaded 0x80000300 Word 0)) (codes " did 3 80000084 load 80000300 4 00000000") ∷
    row (Did 3 0x800000e8 (Stored 0x8000cfd4 Byte 0x30)) (codes " did 3 800000e8 store 8000cfd4 1 00000030") ∷
    row (Did 3 0x80000070 (Changed 0x8000030c Word 0 1)) (codes " did 3 80000070 change 8000030c 4 00000000 00000001") ∷
    row (Did 3 0x80000104 (Printed 32)) (codes " did 3 80000104 console 20") ∷
    row (Did 3 0x800002c0 Ended) (codes " did 3 800002c0 end") ∷
    row (Did 2 0x8000001c (HaltedWith 6201)) (codes " did 2 8000001c halt 6201") ∷
    row (Did 0 0x80000010 (TrappedWith 3)) (codes " did 0 80000010 trap 3") ∷
    []

-- instructions that were not, and attempts that were undone
abbrev pub undone_rows : List Row
undone_rows =
    row (Missed 3 0x80000070 0x8000030c 24) (codes " miss 3 80000070 8000030c line 24") ∷
    row (Overflowed 3 0x80000070 0x8000030c 24) (codes " overflow 3 80000070 8000030c line 24") ∷
    row (Evicted 3 1663 0 248) (codes " emptied 3 line 1663 dirty 0 modified 248") ∷
    row (Violated 1 3 8 13 4 18 AwaitTid) (codes " violated 1 by 3 tid 8 line 13 words 4 lost 18 in AwaitTid") ∷
    row (Violated 3 0 2 13 9 28 (Probing 3)) (codes " violated 3 by 0 tid 2 line 13 words 9 lost 28 in Probing 3") ∷
    row (Violated 3 0 2 24 15 34 (Overflowing (Some 5))) (codes " violated 3 by 0 tid 2 line 24 words 15 lost 34 in Overflowing 5") ∷
    row (GaveUp 5 3) (codes " gaveup 5 3") ∷
    []

-- commits, and where cores and directories have come to
abbrev pub moved_rows : List Row
moved_rows =
    row (Committed 1 3 213) (codes " commit 1 3 213") ∷
    row (CameTo 3 Running) (codes " phase 3 Running") ∷
    row (CameTo 1 DoomedTid) (codes " phase 1 DoomedTid") ∷
    row (CameTo 2 (Ready 1)) (codes " phase 2 Ready 1") ∷
    row (CameTo 3 (Overflowing None)) (codes " phase 3 Overflowing") ∷
    row (CameTo 3 (Solo 1)) (codes " phase 3 Solo 1") ∷
    row (CameTo 2 Halted) (codes " phase 2 Halted") ∷
    row (Serves 1 2) (codes " serves 1 2") ∷
    []

-- what became of messages
abbrev pub delivered_rows : List Row
delivered_rows =
    row (Took TidReq) (codes " took TidReq") ∷
    row (Took (Skip 5)) (codes " took Skip tid 5") ∷
    row (Took (Inv 24 15 2)) (codes " took Inv line 24 mask 15 tid 2") ∷
    row (Dropped (ProbeReply 7 8)) (codes " dropped ProbeReply tid 7 serving 8") ∷
    row (Dropped (DataReq 24)) (codes " dropped DataReq line 24") ∷
    row (AskedOwner (LoadReq 24 19)) (codes " asked LoadReq line 24 after 19") ∷
    row (AskedOwner (Mark 13 64 19)) (codes " asked Mark line 13 mask 64 tid 19") ∷
    []

-- messages that were sent
abbrev pub sent_rows : List Row
sent_rows =
    row (Sent v (Core 3) 0 (TidGrant 1)) (codes " sent v c3 0 TidGrant tid 1") ∷
    row (Sent (Core 3) d0 0 (Probe 1)) (codes " sent c3 d0 0 Probe tid 1") ∷
    row (Sent (Core 3) d0 6 (Commit 1 2)) (codes " sent c3 d0 6 Commit tid 1 count 2") ∷
    row (Sent (Core 3) d1 3 (Abort 3)) (codes " sent c3 d1 3 Abort tid 3") ∷
    row (Sent (Core 2) d0 147 (InvAck 24 false)) (codes " sent c2 d0 147 InvAck line 24 keeps 0") ∷
    row (Sent (Core 3) d0 12 (InvAck 24 true)) (codes " sent c3 d0 12 InvAck line 24 keeps 1") ∷
    row
    (Sent (Core 3) d0 4 (Flush 2 1 (1 ∷ 0 ∷ 0 ∷ 0 ∷ 0 ∷ 0 ∷ 0 ∷ 0 ∷ []) 1))
    (codes " sent c3 d0 4 Flush line 2 mask 1 words 00000001 - - - - - - - tag 1") ∷
    row
    (Sent (Core 3) d0 8 (WriteBack 1662 32 (0 ∷ 0 ∷ 0 ∷ 0 ∷ 0 ∷ 0x30 ∷ 0 ∷ 0 ∷ []) 1))
    (codes " sent c3 d0 8 WriteBack line 1662 mask 32 words - - - - - 00000030 - - tag 1") ∷
    row
    (Sent d0 c0 0 (Fill 0 (0x80000337 ∷ 0x00835283 ∷ 0x06531123 ∷ 0x00134383 ∷ 0x00100073 ∷ 0 ∷ 0 ∷ 0 ∷ [])))
    (codes " sent d0 c0 0 Fill line 0 words 80000337 00835283 06531123 00134383 00100073 00000000 00000000 00000000") ∷
    []

-- the line of each fact is the one beside it
abbrev pub AreWritten : List Row → Type 0
AreWritten rows = map (λ r. fact_line r.fact) rows ≡ map (λ r. r.line ++ newline) rows

-- the last three events of a worked schedule with their facts: a core is violated while it waits for its TID, and gives it up
abbrev pub last_of_doomed_attempt : List ℕ
last_of_doomed_attempt =
    codes "d d1 c1 1\n took Inv line 3 mask 1 tid 1\n"
    ++ codes " violated 1 by 0 tid 1 line 3 words 1 lost 4 in AwaitTid\n phase 1 DoomedTid\n sent c1 d1 1 InvAck line 3 keeps 1\n"
    ++ codes "d c1 v 0\n took TidReq\n sent v c1 0 TidGrant tid 2\n"
    ++ codes "d v c1 0\n took TidGrant tid 2\n gaveup 2 1\n phase 1 Running\n sent c1 d0 0 Skip tid 2\n sent c1 d1 2 Skip tid 2\n"

abbrev pub LastOfDoomedAttempt : Type 0
LastOfDoomedAttempt =
    text_from (two_cores 2) (small (both_code stores_second breaks_at_zero)) 17 doomed_attempt
    (record { world = start entries (flat (both_words stores_second breaks_at_zero)); commits = [] })
    ≡ last_of_doomed_attempt

-- the first and the last lines of a trace
abbrev pub first_lines : List ℕ
first_lines = codes "tcc-trace 1\ncores 2 dirs 1 sets 16 ways 2 base 2147483648 ram 65536\nfrom 36\n"

abbrev pub FirstAndLastLines : Type 0
FirstAndLastLines =
    (head_text (record { cores = 2; dirs = 1; sets = 16; ways = 2; base = 0x80000000; ram = 65536 }) 36 ≡ first_lines)
    × (tail_text true 67 ≡ codes "end done\nevents 67\n")
