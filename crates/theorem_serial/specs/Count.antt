-- How many messages of a kind are in flight on a link.
use Rattle.std.specs.Prelude.{ℕ, ◌+◌, Bool, true, false, List, [], ◌∷◌, get_or, ◌==◌, ◌&&◌, not, ◌%◌, Option, Some, None, nat_lt}
use Rattle.rules_maps.specs.Words.{num, line_of, place_of}
use Rattle.rules_maps.specs.Masks.{hit}
use Rattle.rules_maps.specs.Nodes.{Msg, TidReq, TidGrant, LoadReq, Fill, Skip, Probe, ProbeReply, Mark, Commit, Abort, WriteBack, Flush}
use Rattle.rules_maps.specs.Nodes.{DataReq, Inv, InvAck}

-- what a message may be
pub data Kind : Type 0 where
  Asks : Kind  -- a request for a TID
  Grants : (tid : ℕ) → Kind  -- a grant of this TID
  AnyGrant : Kind
  LoadOf : (line : ℕ) → Kind  -- a request for this line
  LoadNot : (after : ℕ) → Kind  -- a request for a line that carries another TID
  FillOf : (line : ℕ) → Kind  -- a Fill of this line
  FillNot : (word value : ℕ) → Kind  -- a Fill that gives this word another value
  CopyOf : (line tag : ℕ) → Kind  -- a WriteBack or Flush of this line with this tag
  CopyMask : (line tag mask : ℕ) → Kind  -- one with another mask
  CopyWord : (word tag : ℕ) → Kind  -- a WriteBack or Flush with this tag that has this word
  CopyNot : (word tag value : ℕ) → Kind  -- one that has it with another value
  DataOf : (line : ℕ) → Kind  -- a request for the owner's words of this line
  InvWord : (word : ℕ) → Kind  -- an Inv of this word
  InvBelow : (word tid : ℕ) → Kind  -- one with a TID below this
  GoneOf : (line : ℕ) → Kind  -- an acknowledgement of this line from a core that keeps no word of it
  LinesAway : (dirs dir : ℕ) → Kind  -- a message about a line that is at home elsewhere
  NoWord : Kind  -- a Mark, Inv, WriteBack or Flush of no word
  Resolves : (tid : ℕ) → Kind  -- Skip, Abort or Commit of this TID
  AnyResolve : Kind
  Commits : (tid : ℕ) → Kind
  CommitOf : (tid count : ℕ) → Kind  -- a Commit of this TID that counts so many lines
  CommitsAbove : (serving : ℕ) → Kind  -- a Commit of a TID above this one
  AnyCommit : Kind
  Invs : Kind
  InvsNot : (tid : ℕ) → Kind  -- an Inv that carries another TID
  InvsAway : (dirs dir : ℕ) → Kind  -- an Inv of a line that is at home elsewhere
  InvOf : (line : ℕ) → Kind  -- an Inv of this line
  InvMask : (line mask : ℕ) → Kind  -- an Inv of this line with another mask
  AckOf : (line : ℕ) → Kind  -- an acknowledgement of this line
  Acks : Kind
  Marks : (tid : ℕ) → Kind
  MarkOf : (tid line : ℕ) → Kind  -- a Mark of this line by this TID
  MarkMask : (tid line mask : ℕ) → Kind  -- a Mark of this line by this TID with another mask
  EmptyMarks : Kind  -- a Mark of no word
  Skips : (tid : ℕ) → Kind
  Aborts : (tid : ℕ) → Kind
  MarksAway : (dirs dir : ℕ) → Kind  -- a Mark of a line that is at home elsewhere
  Protocol : Kind  -- all but requests for lines and their words
  Any : Kind
  Probes : (tid : ℕ) → Kind
  Replies : (tid : ℕ) → Kind
  RepliesAbove : (serving : ℕ) → Kind  -- a ProbeReply of a TID above this one

unfoldable pub passes : Kind → Msg → Bool
passes Asks TidReq = true
passes Asks _ = false
passes (Grants t) (TidGrant u) = u == t
passes (Grants t) _ = false
passes AnyGrant (TidGrant u) = true
passes AnyGrant _ = false
passes (LoadOf l) (LoadReq k a) = k == l
passes (LoadOf l) _ = false
passes (LoadNot a) (LoadReq k b) = not (b == a)
passes (LoadNot a) _ = false
passes (FillOf l) (Fill k ws) = k == l
passes (FillOf l) _ = false
passes (FillNot w x) (Fill k ws) = (k == line_of w) && not (get_or ws (place_of w) 0 == x)
passes (FillNot w x) _ = false
passes (CopyOf l t) (WriteBack k m ws g) = (k == l) && (g == t)
passes (CopyOf l t) (Flush k m ws g) = (k == l) && (g == t)
passes (CopyOf l t) _ = false
passes (CopyMask l t n) (WriteBack k m ws g) = ((k == l) && (g == t)) && not (m == n)
passes (CopyMask l t n) (Flush k m ws g) = ((k == l) && (g == t)) && not (m == n)
passes (CopyMask l t n) _ = false
passes (CopyWord w t) (WriteBack k m ws g) = hit k m w && (g == t)
passes (CopyWord w t) (Flush k m ws g) = hit k m w && (g == t)
passes (CopyWord w t) _ = false
passes (CopyNot w t x) (WriteBack k m ws g) = (hit k m w && (g == t)) && not (get_or ws (place_of w) 0 == x)
passes (CopyNot w t x) (Flush k m ws g) = (hit k m w && (g == t)) && not (get_or ws (place_of w) 0 == x)
passes (CopyNot w t x) _ = false
passes (DataOf l) (DataReq k) = k == l
passes (DataOf l) _ = false
passes (InvWord w) (Inv k m u) = hit k m w
passes (InvWord w) _ = false
passes (InvBelow w t) (Inv k m u) = hit k m w && nat_lt u t
passes (InvBelow w t) _ = false
passes (GoneOf l) (InvAck k b) = (k == l) && not b
passes (GoneOf l) _ = false
passes (LinesAway dirs d) (LoadReq k a) = not ((k % dirs) == d)
passes (LinesAway dirs d) (Fill k ws) = not ((k % dirs) == d)
passes (LinesAway dirs d) (Mark k m u) = not ((k % dirs) == d)
passes (LinesAway dirs d) (WriteBack k m ws g) = not ((k % dirs) == d)
passes (LinesAway dirs d) (Flush k m ws g) = not ((k % dirs) == d)
passes (LinesAway dirs d) (DataReq k) = not ((k % dirs) == d)
passes (LinesAway dirs d) (Inv k m u) = not ((k % dirs) == d)
passes (LinesAway dirs d) (InvAck k b) = not ((k % dirs) == d)
passes (LinesAway dirs d) _ = false
passes NoWord (Mark k m u) = m == 0
passes NoWord (WriteBack k m ws g) = m == 0
passes NoWord (Flush k m ws g) = m == 0
passes NoWord (Inv k m u) = m == 0
passes NoWord _ = false
passes (Resolves t) (Skip u) = u == t
passes (Resolves t) (Abort u) = u == t
passes (Resolves t) (Commit u n) = u == t
passes (Resolves t) _ = false
passes AnyResolve (Skip u) = true
passes AnyResolve (Abort u) = true
passes AnyResolve (Commit u n) = true
passes AnyResolve _ = false
passes (Commits t) (Commit u n) = u == t
passes (Commits t) _ = false
passes (CommitOf t n) (Commit u k) = (u == t) && (k == n)
passes (CommitOf t n) _ = false
passes (CommitsAbove s) (Commit u n) = nat_lt s u
passes (CommitsAbove s) _ = false
passes AnyCommit (Commit u n) = true
passes AnyCommit _ = false
passes Invs (Inv l m u) = true
passes Invs _ = false
passes (InvsNot t) (Inv l m u) = not (u == t)
passes (InvsNot t) _ = false
passes (InvsAway dirs d) (Inv l m u) = not ((l % dirs) == d)
passes (InvsAway dirs d) _ = false
passes (InvOf l) (Inv k m u) = k == l
passes (InvOf l) _ = false
passes (InvMask l m) (Inv k n u) = (k == l) && not (n == m)
passes (InvMask l m) _ = false
passes (AckOf l) (InvAck k b) = k == l
passes (AckOf l) _ = false
passes Acks (InvAck l k) = true
passes Acks _ = false
passes (Marks t) (Mark l m u) = u == t
passes (Marks t) _ = false
passes (MarkOf t l) (Mark k m u) = (u == t) && (k == l)
passes (MarkOf t l) _ = false
passes (MarkMask t l m) (Mark k n u) = (u == t) && ((k == l) && not (n == m))
passes (MarkMask t l m) _ = false
passes EmptyMarks (Mark l m u) = m == 0
passes EmptyMarks _ = false
passes (Skips t) (Skip u) = u == t
passes (Skips t) _ = false
passes (Aborts t) (Abort u) = u == t
passes (Aborts t) _ = false
passes (MarksAway dirs d) (Mark l m u) = not ((l % dirs) == d)
passes (MarksAway dirs d) _ = false
passes Protocol (LoadReq l a) = false
passes Protocol (Fill l ws) = false
passes Protocol (DataReq l) = false
passes Protocol (WriteBack l m ws t) = false
passes Protocol (Flush l m ws t) = false
passes Protocol _ = true
passes Any m = true
passes (Probes t) (Probe u) = u == t
passes (Probes t) _ = false
passes (Replies t) (ProbeReply u s) = u == t
passes (Replies t) _ = false
passes (RepliesAbove s) (ProbeReply u v) = nat_lt s u
passes (RepliesAbove s) _ = false

-- in flight on a link, among the messages of a list
unfoldable pub live : Kind → List (Option Msg) → ℕ
live k [] = 0
live k (None ∷ l) = live k l
live k (Some m ∷ l) = num (passes k m) + live k l

unfoldable pub among : Kind → List Msg → ℕ
among k [] = 0
among k (m ∷ ms) = num (passes k m) + among k ms
