-- What became of a message that was delivered.
use Rattle.std.specs.Prelude.{ℕ, Bool, true, false, List, [], ◌∷◌, Option, Some, None, nat_lt, ◌==◌, ◌&&◌, if◌then◌else◌}
use Rattle.tcc_base.specs.declared.access.Commit.{Commit as Noted}
use Rattle.rules_maps.specs.Cache.{is_dirty}
use Rattle.rules_maps.specs.Masks.{has, mask_of}
use Rattle.rules_maps.specs.Words.{or_else, word_at}
use Rattle.rules_maps.specs.Nodes.{Node, Dir, Vendor, Msg, TidGrant, Fill, ProbeReply, DataReq, Inv}
use Rattle.rules_tcc.specs.State.{CoreState, Awaited, Phase, AwaitTid, DoomedTid, Probing, Ready, Overflowing, Solo}
use Rattle.rules_tcc.specs.DirDeliver.{Answer, Waits, Drops, Asks, Takes}
use Rattle.watch.specs.Facts.{Fact, Took, Dropped, AskedOwner, Violated, GaveUp}

-- a directory's answer
abbrev pub answered : Msg → Answer → List Fact
answered m Waits = []
answered m Drops = Dropped m ∷ []
answered m (Asks s sends) = AskedOwner m ∷ []
answered m (Takes s sends) = Took m ∷ []

-- the core waits for a TID
abbrev pub waits_for_tid : Phase → Bool
waits_for_tid AwaitTid = true
waits_for_tid DoomedTid = true
waits_for_tid (Overflowing None) = true
waits_for_tid _ = false

-- the core has probed with this TID
abbrev pub has_probed : (tid : ℕ) → Phase → Bool
has_probed t (Probing u) = u == t
has_probed t (Overflowing (Some u)) = u == t
has_probed t _ = false

abbrev pub awaits : (line : ℕ) → Option Awaited → Bool
awaits l None = false
awaits l (Some a) = a.line == l

-- the core has a use for this message: a grant that it waits for, a reply that is owed, the awaited line, a request for words that are
-- dirty there; an invalidation always
abbrev pub is_of_use : Node → Msg → CoreState → Bool
is_of_use Vendor (TidGrant t) s = waits_for_tid s.phase
is_of_use (Dir d) (ProbeReply t serving) s = has_probed t s.phase && s.owing d
is_of_use (Dir d) (Fill l ws) s = awaits l s.awaited
is_of_use (Dir d) (DataReq l) s = is_dirty s.cache l
is_of_use (Dir d) (Inv l m t) s = true
is_of_use _ _ s = false

unfoldable pub taken : Node → Msg → (before : CoreState) → List Fact
taken src m s = if is_of_use src m s then Took m ∷ [] else Dropped m ∷ []

-- the commit of this TID; there is at most one
unfoldable pub commit_of : (tid : ℕ) → List Noted → Option Noted
commit_of t [] = None
commit_of t (c ∷ cs) = or_else (commit_of t cs) (if c.tid.0 == t then Some c else None)

-- the core that committed it
abbrev pub committer : Option Noted → ℕ
committer None = 0
committer (Some c) = c.core.0

-- the masked words of the line that are marked read
unfoldable pub words_read : (line mask : ℕ) → CoreState → ℕ
words_read l m s = mask_of (λ k. has m k && s.cache.read (word_at l k))

-- the TID that the core has in this phase
abbrev pub tid_in : Phase → Option ℕ
tid_in (Probing t) = Some t
tid_in (Ready t) = Some t
tid_in (Overflowing t) = t
tid_in (Solo t) = Some t
tid_in _ = None

abbrev pub given_up : (core : ℕ) → Option ℕ → List Fact
given_up c None = []
given_up c (Some t) = GaveUp t c ∷ []

-- an invalidation undid the attempt, which is empty now: a TID that the core had is given up
abbrev pub violated : (core : ℕ) → List Noted → Msg → (s t : CoreState) → List Fact
violated c commits (Inv l m u) s t =
    if nat_lt 0 s.n && t.n == 0
    then Violated c (committer (commit_of u commits)) u l (words_read l m s) s.n s.phase ∷ given_up c (tid_in s.phase)
    else []
violated c commits _ s t = []

-- a grant for an attempt that was undone is given up
abbrev pub grant_given_up : (core : ℕ) → Msg → Phase → List Fact
grant_given_up c (TidGrant t) DoomedTid = GaveUp t c ∷ []
grant_given_up c _ _ = []
