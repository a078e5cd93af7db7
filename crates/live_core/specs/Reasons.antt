-- Why a directory lets a message wait: of each kind the first of its reasons that holds, in the order of its row.
--   Probe             early
--   LoadReq           early, marked, asked
--   Mark              early, asked
--   Commit            early, count
--   WriteBack, Flush  tag
use Rattle.std.specs.Prelude.{ℕ, Bool, true, Option, Some, None, nat_lt, nat_le, ◌==◌, ◌||◌, if◌then◌else◌}
use Rattle.rules_maps.specs.Lines.{has_mark}
use Rattle.rules_maps.specs.Masks.{full}
use Rattle.rules_maps.specs.Nodes.{Msg, LoadReq, Probe, Mark, Commit, WriteBack, Flush}
use Rattle.rules_maps.specs.Shape.{Shape, lines}
use Rattle.rules_maps.specs.Words.{count_below}
use Rattle.rules_tcc.specs.State.{DirState}

pub data Reason : Type 0 where
  Early : (serving : ℕ) → Reason  -- its turn hasn't come: this TID is served
  Marked : (mask : ℕ) → Reason  -- these words of its line are marked
  Asked : (owner : ℕ) → Reason  -- this core owns its line, and was asked for the words, which haven't come home
  Count : (marked : ℕ) → Reason  -- not as many lines are marked as it commits, but so many
  Tag : (tag : ℕ) → Reason  -- its words are of a later commit than the last one of the line, which has this TID, or 0

unfoldable pub probe_waits : (tid : ℕ) → DirState → Option Reason
probe_waits t s = if nat_lt s.serving.serving t then Some (Early s.serving.serving) else None

-- a line's owner was asked for its words
abbrev pub owner_asked : (asked : Bool) → (owner : Option ℕ) → Option Reason
owner_asked true (Some o) = Some (Asked o)
owner_asked _ _ = None

unfoldable pub load_waits : (line after : ℕ) → DirState → Option Reason
load_waits l after s =
    if nat_le s.serving.serving after then Some (Early s.serving.serving)
    else if has_mark s.lines l then Some (Marked (s.lines.mark l))
    else owner_asked (s.lines.asked l) (s.lines.owner l)

-- a TID that is past is dropped, and a whole line is marked whoever owns it
unfoldable pub mark_waits : (line mask tid : ℕ) → DirState → Option Reason
mark_waits l m t s =
    if nat_lt s.serving.serving t then Some (Early s.serving.serving)
    else if nat_lt t s.serving.serving || m == full then None
    else owner_asked (s.lines.asked l) (s.lines.owner l)

-- how many lines are marked
abbrev pub marked_lines : Shape → DirState → ℕ
marked_lines sh s = count_below (has_mark s.lines) (lines sh)

unfoldable pub commit_waits : Shape → (tid count : ℕ) → DirState → Option Reason
commit_waits sh t n s =
    if s.serving.serving == t then (if marked_lines sh s == n then None else Some (Count (marked_lines sh s)))
    else Some (Early s.serving.serving)

unfoldable pub words_wait : (line tag : ℕ) → DirState → Option Reason
words_wait l g s = if nat_lt (s.lines.tag l) g then Some (Tag (s.lines.tag l)) else None

-- by kind; a Skip, an Abort and an InvAck never wait
unfoldable pub reason_of : Shape → DirState → Msg → Option Reason
reason_of sh s (Probe t) = probe_waits t s
reason_of sh s (LoadReq l after) = load_waits l after s
reason_of sh s (Mark l m t) = mark_waits l m t s
reason_of sh s (Commit t n) = commit_waits sh t n s
reason_of sh s (WriteBack l m ws g) = words_wait l g s
reason_of sh s (Flush l m ws g) = words_wait l g s
reason_of sh s _ = None
