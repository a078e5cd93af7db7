-- What a core does with a message. Those of the kinds that its sender sends to cores are always enabled; where no rule speaks of one,
-- it is consumed without effect.
use Rattle.std.specs.Prelude.{ℕ, Bool, true, false, not, List, [], ◌∷◌, ◌++◌, Option, Some, None, nat_lt, ◌==◌, ◌&&◌, ◌||◌, if◌then◌else◌}
use Rattle.tcc_base.specs.Put.{put}
use Rattle.rules_maps.specs.Words.{any_below}
use Rattle.rules_maps.specs.Nodes.{Node, Core, Dir, Vendor, Msg, TidGrant, Fill, Skip, Probe, ProbeReply, DataReq, Inv, InvAck}
use Rattle.rules_maps.specs.Shape.{Shape, home}
use Rattle.rules_maps.specs.Cache.{Cache, writes_at, reads_at, keeps}
use Rattle.rules_maps.specs.CacheChange.{filled, invalidated, cleaned, read_cleared}
use Rattle.rules_maps.specs.CacheLook.{reads_masked}
use Rattle.rules_maps.specs.Spilled.{none_spilled}
use Rattle.rules_tcc.specs.State.{CoreState, Awaited, Phase, Running, AwaitTid, DoomedTid, Probing, Ready, Overflowing, Solo, Halted}
use Rattle.rules_tcc.specs.Sends.{Sends, nothing, to, then_send, to_dirs, when, flush_line, skip_all, probe_all, abort_written, marks_for}
use Rattle.rules_tcc.specs.Attempt.{Out, moves, roll_back}

-- consumed without effect
abbrev pub ignored : CoreState → Out
ignored s = moves s nothing

-- a directory where the attempt wrote or read
unfoldable pub is_probed : Shape → Cache → ℕ → Bool
is_probed sh c d = nat_lt d sh.dirs && (writes_at sh c d || reads_at sh c d)

-- a skip where nothing was written, then a probe where something was written or read
unfoldable pub grant_sends : Shape → Cache → (tid : ℕ) → Sends
grant_sends sh c t =
    to_dirs sh (λ d. when (not (writes_at sh c d)) (Skip t ∷ []) ++ when (writes_at sh c d || reads_at sh c d) (Probe t ∷ []))

-- it waits for replies where it has probed some directory
abbrev pub probing_or_ready : Bool → (tid : ℕ) → Phase
probing_or_ready some t = if some then Probing t else Ready t

-- Grant: the TID that the core asked for. In AwaitTid it skips and probes; in DoomedTid it skips everywhere and runs again; in Overflowing
-- it probes everywhere
abbrev pub grant_in_phase : Shape → (tid : ℕ) → CoreState → Phase → Out
grant_in_phase sh t s AwaitTid = moves
    (record s { owing = is_probed sh s.cache; phase = probing_or_ready (any_below (is_probed sh s.cache) sh.dirs) t })
    (grant_sends sh s.cache t)
grant_in_phase sh t s DoomedTid = moves (record s { phase = Running }) (skip_all sh t)
grant_in_phase sh t s (Overflowing None) = moves
    (record s { owing = λ d. nat_lt d sh.dirs; phase = Overflowing (Some t) })
    (probe_all sh t)
grant_in_phase sh t s _ = ignored s

unfoldable pub grant : Shape → (tid : ℕ) → CoreState → Out
grant sh t s = grant_in_phase sh t s s.phase

-- directory d owes no reply any more
abbrev pub replied : ℕ → CoreState → CoreState
replied d s = record s { owing = put s.owing d false }

-- no directory owes one
abbrev pub all_replied : Shape → (ℕ → Bool) → Bool
all_replied sh owing = not (any_below owing sh.dirs)

-- where that was the last reply the core may commit
abbrev pub ready_once_replied : Shape → (tid : ℕ) → CoreState → CoreState
ready_once_replied sh t s = if all_replied sh s.owing then record s { phase = Ready t } else s

-- where that was the last reply the core is alone, and reads without marks
abbrev pub solo_once_replied : Shape → (tid : ℕ) → CoreState → CoreState
solo_once_replied sh t s = if all_replied sh s.owing then record s { phase = Solo t; cache = read_cleared s.cache } else s

-- Probe reply: of a directory that owes one for this TID. In Probing a Mark goes there for each modified line at home there; where no
-- reply is owed any more, Probing becomes Ready and Overflowing becomes Solo
abbrev pub reply_in_phase : Shape → (dir tid : ℕ) → CoreState → Phase → Out
reply_in_phase sh d t s (Probing u) =
    if u == t && s.owing d
    then moves (ready_once_replied sh t (replied d s)) (to (Dir d) (marks_for sh s.cache t d))
    else ignored s
reply_in_phase sh d t s (Overflowing (Some u)) =
    if u == t && s.owing d
    then moves (solo_once_replied sh t (replied d s)) nothing
    else ignored s
reply_in_phase sh d t s _ = ignored s

unfoldable pub probe_reply : Shape → (dir tid : ℕ) → CoreState → Out
probe_reply sh d t s = reply_in_phase sh d t s s.phase

-- Fill: of the awaited line, unless that is stale; then no line is awaited
abbrev pub fill_awaited : (line : ℕ) → (words : List ℕ) → CoreState → Option Awaited → Out
fill_awaited l ws s None = ignored s
fill_awaited l ws s (Some a) =
    if a.line == l
    then moves (record s { cache = (if a.stale then s.cache else filled l ws s.cache); awaited = None }) nothing
    else ignored s

unfoldable pub fill : (line : ℕ) → (words : List ℕ) → CoreState → Out
fill l ws s = fill_awaited l ws s s.awaited

-- Data request: dirty words go home and become clean
unfoldable pub data_request : Shape → (line : ℕ) → CoreState → Out
data_request sh l s = moves (record s { cache = cleaned l s.cache }) (flush_line sh s.cache l)

-- the core's TID isn't known, or is above u
abbrev pub may_be_above : ℕ → Phase → Bool
may_be_above u Running = true
may_be_above u AwaitTid = true
may_be_above u DoomedTid = true
may_be_above u (Probing t) = nat_lt u t
may_be_above u (Ready t) = nat_lt u t
may_be_above u (Overflowing None) = true
may_be_above u (Overflowing (Some t)) = nat_lt u t
may_be_above u (Solo t) = nat_lt u t
may_be_above u Halted = true

-- a core that was violated rolls back. A TID that is under way is given up when it comes; one that it has is given up at once, by Abort
-- to the directories that it wrote, or by Skip to all where it asked to be alone; then spilled words are dropped
abbrev pub violated_in_phase : Shape → CoreState → Phase → Out
violated_in_phase sh s Running = moves (roll_back s) nothing
violated_in_phase sh s AwaitTid = moves (record (roll_back s) { phase = DoomedTid }) nothing
violated_in_phase sh s (Overflowing None) = moves (record (roll_back s) { phase = DoomedTid }) nothing
violated_in_phase sh s (Probing t) = moves (record (roll_back s) { phase = Running }) (abort_written sh s.cache t)
violated_in_phase sh s (Ready t) = moves (record (roll_back s) { phase = Running }) (abort_written sh s.cache t)
violated_in_phase sh s (Overflowing (Some t)) = moves (record (roll_back s) { phase = Running; spilled = none_spilled }) (skip_all sh t)
violated_in_phase sh s (Solo t) = moves (record (roll_back s) { phase = Running; spilled = none_spilled }) (skip_all sh t)
violated_in_phase sh s _ = ignored s

unfoldable pub if_violated : Shape → Bool → CoreState → Out
if_violated sh violated s = if violated then violated_in_phase sh s s.phase else ignored s

-- an awaited line becomes stale where it is this one
abbrev pub staled : ℕ → Option Awaited → Option Awaited
staled l None = None
staled l (Some a) = Some (record a { stale = a.line == l || a.stale })

-- the masked words that aren't modified become invalid and clean, and the line becomes stale where it is awaited
unfoldable pub words_invalidated : (line mask : ℕ) → CoreState → CoreState
words_invalidated l m s = record s { cache = invalidated l m s.cache; awaited = staled l s.awaited }

-- a masked word is marked read, and the core isn't ahead of the commit
unfoldable pub is_violated : (line mask tid : ℕ) → CoreState → Bool
is_violated l m u s = reads_masked l m s.cache && may_be_above u s.phase

-- the acknowledgement goes to the home last, and says whether a word of the line is valid after all this
unfoldable pub acknowledged : Shape → (line : ℕ) → Out → Out
acknowledged sh l o = record o { sends = then_send o.sends (to (Dir (home sh l)) (InvAck l (keeps o.core.cache l) ∷ [])) }

-- Invalidate: masked words become invalid; where the core is violated it rolls back; then it acknowledges
unfoldable pub invalidate : Shape → (line mask tid : ℕ) → CoreState → Out
invalidate sh l m u s = acknowledged sh l (if_violated sh (is_violated l m u s) (words_invalidated l m s))

-- by sender and kind; None: no such message goes to a core
abbrev pub from_dir : Shape → (dir : ℕ) → CoreState → Msg → Option Out
from_dir sh d s (ProbeReply t serving) = Some (probe_reply sh d t s)
from_dir sh d s (Fill l ws) = Some (fill l ws s)
from_dir sh d s (DataReq l) = Some (data_request sh l s)
from_dir sh d s (Inv l m t) = Some (invalidate sh l m t s)
from_dir sh d s _ = None

abbrev pub from_vendor : Shape → CoreState → Msg → Option Out
from_vendor sh s (TidGrant t) = Some (grant sh t s)
from_vendor sh s _ = None

unfoldable pub core_deliver : Shape → CoreState → (src : Node) → Msg → Option Out
core_deliver sh s (Dir d) m = from_dir sh d s m
core_deliver sh s Vendor m = from_vendor sh s m
core_deliver sh s (Core c) m = None
