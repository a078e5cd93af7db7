-- What the handling of a message leaves as it was, so that the messages that wait for it needn't be looked at.
use Rattle.std.specs.Prelude.{ℕ, Bool, true, false, ◌≡◌, ◌==◌, ◌||◌, nat_lt, nat_le}
use Rattle.rules_maps.specs.Nodes.{Msg, LoadReq, Mark, Commit, WriteBack, Flush}
use Rattle.rules_tcc.specs.State.{DirState}
use Rattle.directory.specs.declared.waits.Cause.{Cause}
use Rattle.directory.specs.declared.waits.Cause.TheVariants.{Turn, Done, Line, Served, Marks}
use Rattle.directory.specs.Stays.{Stays}

-- the message changes its own line; an acknowledgement changes only who shares it
abbrev pub is_of : Msg → (line : ℕ) → Bool
is_of (LoadReq k after) l = k == l
is_of (Mark k m t) l = k == l
is_of (WriteBack k m ws g) l = k == l
is_of (Flush k m ws g) l = k == l
is_of _ l = false

abbrev pub is_commit : Msg → Bool
is_commit (Commit t count) = true
is_commit _ = false

abbrev pub is_mark : Msg → Bool
is_mark (Mark k m t) = true
is_mark _ = false

-- whether the handling of a message, with the TID that was served before it and the one that is served after it, may end what
-- another message waits for: all marked lines change where the next TID is served, and by a commit; a line that isn't marked is
-- changed by messages of its own alone
abbrev pub may_end : Msg → (before after : ℕ) → Cause → Bool
may_end m before after (Turn t) = nat_le t.0 after
may_end m before after (Done t) = nat_lt t.0 after
may_end m before after (Line l) = is_of m l.0
may_end m before after (Served l) = is_of m l.0 || is_commit m || nat_lt before after
may_end m before after Marks = is_mark m || nat_lt before after

-- whatever is waited for stays, but for what may have ended
abbrev pub Leaves : Msg → (old new : DirState) → Type 0
Leaves m s n = (k : Cause) → may_end m s.serving.serving n.serving.serving k ≡ false → Stays k s s → Stays k s n
