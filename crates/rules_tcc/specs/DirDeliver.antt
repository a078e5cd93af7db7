-- What a directory does with a message from a core.
use Rattle.std.specs.Prelude.{ℕ, zero, suc, ◌+◌, ◌-◌, Bool, true, false, not, List, [], ◌∷◌, get_or, Option, Some, None, nat_lt, nat_le}
use Rattle.std.specs.Prelude.{◌==◌, ◌&&◌, ◌||◌, if◌then◌else◌}
use Rattle.std.specs.List.{flat_map}
use Rattle.rules_maps.specs.Words.{count_below, those, eight, word_at, place_of}
use Rattle.rules_maps.specs.Masks.{hit, full}
use Rattle.rules_maps.specs.Nodes.{Core, Dir, Vendor, Msg, LoadReq, Fill, Skip, Probe, ProbeReply, Mark, Commit, Abort, WriteBack, Flush}
use Rattle.rules_maps.specs.Nodes.{DataReq, Inv, InvAck}
use Rattle.rules_maps.specs.Shape.{Shape, lines}
use Rattle.rules_maps.specs.Serving.{advance, skipped, kept}
use Rattle.rules_maps.specs.Lines.{Lines, with_sharer, with_owner, with_asked, with_mark, unmarked, has_mark}
use Rattle.rules_maps.specs.Judge.{Judgement, judge, Current, Outdated, TooEarly}
use Rattle.rules_tcc.specs.State.{DirState}
use Rattle.rules_tcc.specs.Sends.{Sends, nothing, to}

-- Waits: the delivery isn't enabled. Drops: consumed without effect. Asks: the line's owner is asked for its data, and the
-- message stays. Takes: consumed.
pub data Answer : Type 0 where
  Waits : Answer
  Drops : Answer
  Asks : (dir : DirState) → (sends : Sends) → Answer
  Takes : (dir : DirState) → (sends : Sends) → Answer

-- the marks are cleared, and the next TID is served
unfoldable pub moved_on : DirState → DirState
moved_on s = record s { lines = unmarked s.lines; serving = advance s.serving }

-- Skip: dropped below the served TID; else the served TID is passed, or a larger one is kept as skipped
unfoldable pub skip : (tid : ℕ) → DirState → Answer
skip t s = if nat_lt t s.serving.serving then Drops else Takes (record s { serving = skipped t s.serving }) nothing

-- Abort: dropped below the served TID; at the served TID the directory moves on; a larger one is kept as skipped
unfoldable pub abort : (tid : ℕ) → DirState → Answer
abort t s =
    if nat_lt t s.serving.serving then Drops
    else if s.serving.serving == t then Takes (moved_on s) nothing
    else Takes (record s { serving = kept t s.serving }) nothing

-- Probe: waits until the TID is served or passed, and is answered with the served TID
unfoldable pub probe : (core tid : ℕ) → DirState → Answer
probe c t s = if nat_lt s.serving.serving t then Waits else Takes s (to (Core c) (ProbeReply t s.serving.serving ∷ []))

-- a message that needs the line's data waits, and asks the owner for them once
unfoldable pub ask_owner : (owner line : ℕ) → DirState → Answer
ask_owner o l s =
    if s.lines.asked l then Waits
    else Asks (record s { lines = with_asked l true s.lines }) (to (Core o) (DataReq l ∷ []))

-- the words of a line
unfoldable pub home_words : DirState → ℕ → List ℕ
home_words s l = eight (λ k. s.words (word_at l k))

-- a line that is owned is asked for; else the sender joins the sharers, and the line goes to it
abbrev pub load_unless_owned : (core line : ℕ) → DirState → Option ℕ → Answer
load_unless_owned c l s (Some o) = ask_owner o l s
load_unless_owned c l s None = Takes (record s { lines = with_sharer l c true s.lines }) (to (Core c) (Fill l (home_words s l) ∷ []))

-- Load request: waits until the core's own last commit here has been served, and while the line is marked
unfoldable pub load_request : (core line after : ℕ) → DirState → Answer
load_request c l after s =
    if nat_le s.serving.serving after || has_mark s.lines l then Waits
    else load_unless_owned c l s (s.lines.owner l)

-- the line's mark becomes the mask
abbrev pub mark_taken : (line mask : ℕ) → DirState → Answer
mark_taken l m s = Takes (record s { lines = with_mark l m s.lines }) nothing

-- a line that is owned is asked for first
abbrev pub mark_unless_owned : (line mask : ℕ) → DirState → Option ℕ → Answer
mark_unless_owned l m s None = mark_taken l m s
mark_unless_owned l m s (Some o) = ask_owner o l s

-- Mark: dropped below the served TID, waits above it; an owned line is asked for first, unless all its words are marked
unfoldable pub mark : (line mask tid : ℕ) → DirState → Answer
mark l m t s =
    if nat_lt t s.serving.serving then Drops
    else if nat_lt s.serving.serving t then Waits
    else if m == full then mark_taken l m s
    else mark_unless_owned l m s (s.lines.owner l)

-- a marked line is invalidated at each sharer other than c, which commits
unfoldable pub is_invalidated : Shape → Lines → (core sharer line : ℕ) → Bool
is_invalidated sh ls c j l = nat_lt j sh.cores && has_mark ls l && ls.sharers l j && not (j == c)

-- to each such sharer, by rising line
unfoldable pub invs_to : Shape → Lines → (core tid sharer : ℕ) → List Msg
invs_to sh ls c t j = flat_map (λ l. Inv l (ls.mark l) t ∷ []) (those (is_invalidated sh ls c j) (lines sh))

unfoldable pub invalidations : Shape → Lines → (core tid : ℕ) → Sends
invalidations sh ls c t (Core j) = invs_to sh ls c t j
invalidations sh ls c t (Dir d) = []
invalidations sh ls c t Vendor = []

-- the sum of f over the numbers below n
unfoldable pub sum_below : (ℕ → ℕ) → ℕ → ℕ
sum_below f zero = 0
sum_below f (suc n) = sum_below f n + f n

-- how many Invs these are
unfoldable pub invalidation_count : Shape → Lines → (core : ℕ) → ℕ
invalidation_count sh ls c = sum_below (λ j. count_below (is_invalidated sh ls c j) (lines sh)) sh.cores

-- each marked line is owned by the committer, with the commit's tag; other sharers stay until they acknowledge
unfoldable pub owned_by_committer : (core tid : ℕ) → Lines → Lines
owned_by_committer c t ls = record ls {
  sharers = λ l j. (if has_mark ls l && j == c then true else ls.sharers l j);
  owner = λ l. (if has_mark ls l then Some c else ls.owner l);
  tag = λ l. (if has_mark ls l then t else ls.tag l);
  asked = λ l. (if has_mark ls l then false else ls.asked l);
}

-- the directory moves on once nothing is owed
unfoldable pub moved_on_if_settled : DirState → DirState
moved_on_if_settled s = if s.owed == 0 then moved_on s else s

-- Commit: waits until its TID is served and all its lines are marked; then other sharers are invalidated, and as many acknowledgements
-- are owed
unfoldable pub dir_commit : Shape → (core tid count : ℕ) → DirState → Answer
dir_commit sh c t count s =
    if s.serving.serving == t && count_below (has_mark s.lines) (lines sh) == count
    then Takes (moved_on_if_settled (record s { lines = owned_by_committer c t s.lines; owed = invalidation_count sh s.lines c }))
    (invalidations sh s.lines c t)
    else Waits

-- the sender leaves the sharers, unless it keeps a word of the line
abbrev pub unless_keeps : Bool → (core line : ℕ) → Lines → Lines
unless_keeps true c l ls = ls
unless_keeps false c l ls = with_sharer l c false ls

-- Acknowledgement: unless it keeps a word the sender leaves the sharers; one less is owed, and with the last the directory moves on
unfoldable pub acknowledgement : (core line : ℕ) → (keeps : Bool) → DirState → Answer
acknowledgement c l keeps s =
    if s.owed == 0 then Drops
    else Takes (moved_on_if_settled (record s { lines = unless_keeps keeps c l s.lines; owed = s.owed - 1 })) nothing

-- the masked home words are those that came, and the line has no owner and isn't asked
unfoldable pub came_home : (line mask : ℕ) → (words : List ℕ) → DirState → DirState
came_home l m ws s = record s {
  words = λ w. (if hit l m w then get_or ws (place_of w) 0 else s.words w);
  lines = with_asked l false (with_owner l None s.lines);
}

-- too early: it waits; current: it comes home; outdated: it is dropped
abbrev pub judged : (line mask : ℕ) → (words : List ℕ) → DirState → Judgement → Answer
judged l m ws s TooEarly = Waits
judged l m ws s Current = Takes (came_home l m ws s) nothing
judged l m ws s Outdated = Drops

-- Write-back and flush: by the tag, and by whether the sender owns the line
unfoldable pub write_back : (core line mask : ℕ) → (words : List ℕ) → (tag : ℕ) → DirState → Answer
write_back c l m ws g s = judged l m ws s (judge (s.lines.owner l) (s.lines.tag l) c g)

-- by kind; a kind that doesn't go to a directory is never taken
unfoldable pub dir_deliver : Shape → DirState → (core : ℕ) → Msg → Answer
dir_deliver sh s c (Skip t) = skip t s
dir_deliver sh s c (Abort t) = abort t s
dir_deliver sh s c (Probe t) = probe c t s
dir_deliver sh s c (LoadReq l after) = load_request c l after s
dir_deliver sh s c (Mark l m t) = mark l m t s
dir_deliver sh s c (Commit t count) = dir_commit sh c t count s
dir_deliver sh s c (InvAck l keeps) = acknowledgement c l keeps s
dir_deliver sh s c (WriteBack l m ws g) = write_back c l m ws g s
dir_deliver sh s c (Flush l m ws g) = write_back c l m ws g s
dir_deliver sh s c _ = Waits
