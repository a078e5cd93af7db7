-- What a message may say: only what its ends say to one another, of nodes that the machine has, of lines at home at the link's directory,
-- and of TIDs that were granted.
use Rattle.std.specs.Prelude.{ℕ, ◌≡◌, ◌<◌, ◌≤◌, Bool, true, false, Option, Some, None, IfSome, nat_lt, ◌&&◌}
use Rattle.rules_maps.specs.Nodes.{Node, Core, Dir, Vendor, Msg, TidReq, TidGrant, LoadReq, Fill, Skip, Probe, ProbeReply, Mark, Commit}
use Rattle.rules_maps.specs.Nodes.{Abort, WriteBack, Flush, DataReq, Inv, InvAck}
use Rattle.rules_maps.specs.Shape.{Shape, home, lines}

-- what a directory says to a core
abbrev pub goes_to_core : Msg → Bool
goes_to_core (Fill l ws) = true
goes_to_core (ProbeReply t s) = true
goes_to_core (DataReq l) = true
goes_to_core (Inv l m t) = true
goes_to_core _ = false

-- what a core says to a directory
abbrev pub goes_to_dir : Msg → Bool
goes_to_dir TidReq = false
goes_to_dir (TidGrant t) = false
goes_to_dir (Fill l ws) = false
goes_to_dir (ProbeReply t s) = false
goes_to_dir (DataReq l) = false
goes_to_dir (Inv l m t) = false
goes_to_dir _ = true

abbrev pub is_request : Msg → Bool
is_request TidReq = true
is_request _ = false

abbrev pub is_grant : Msg → Bool
is_grant (TidGrant t) = true
is_grant _ = false

-- by the ends of the link
unfoldable pub fits : Shape → (src dst : Node) → Msg → Bool
fits sh (Core c) (Dir d) m = nat_lt c sh.cores && (nat_lt d sh.dirs && goes_to_dir m)
fits sh (Core c) Vendor m = nat_lt c sh.cores && is_request m
fits sh (Dir d) (Core c) m = nat_lt c sh.cores && (nat_lt d sh.dirs && goes_to_core m)
fits sh Vendor (Core c) m = nat_lt c sh.cores && is_grant m
fits sh _ _ m = false

-- the line that a message names
abbrev pub line_named : Msg → Option ℕ
line_named (LoadReq l after) = Some l
line_named (Fill l ws) = Some l
line_named (Mark l m t) = Some l
line_named (WriteBack l m ws g) = Some l
line_named (Flush l m ws g) = Some l
line_named (DataReq l) = Some l
line_named (Inv l m t) = Some l
line_named (InvAck l keeps) = Some l
line_named _ = None

-- the TID of which a message speaks: one that is granted, asked about, or committed or given up
abbrev pub tid_named : Msg → Option ℕ
tid_named (TidGrant t) = Some t
tid_named (Skip t) = Some t
tid_named (Probe t) = Some t
tid_named (ProbeReply t serving) = Some t
tid_named (Mark l m t) = Some t
tid_named (Commit t count) = Some t
tid_named (Abort t) = Some t
tid_named (Inv l m t) = Some t
tid_named _ = None

-- the line is at home at the directory to which the link goes, or from which it comes
abbrev pub IsAtHome : Shape → (src dst : Node) → (line : ℕ) → Type 0
IsAtHome sh (Core c) (Dir d) l = home sh l ≡ d
IsAtHome sh (Dir d) (Core c) l = home sh l ≡ d
IsAtHome sh src dst l = ⊥

-- a line of memory, at home there
abbrev pub IsLine : Shape → (src dst : Node) → (line : ℕ) → Type 0
IsLine sh src dst l = (l < lines sh) × IsAtHome sh src dst l

-- the vendor has given the TID
abbrev pub WasGranted : (next tid : ℕ) → Type 0
WasGranted next t = (1 ≤ t) × (t < next)

pub record InBounds (sh : Shape) (next : ℕ) (src dst : Node) (m : Msg) : Type 0 where
  -- Its source says such messages to its destination, and the machine has both.
  pub fits : fits sh src dst m ≡ true
  -- A line that it names is one of memory, at home at the link's directory.
  pub line : IfSome (line_named m) (IsLine sh src dst)
  -- A TID of which it speaks was granted.
  pub tid : IfSome (tid_named m) (WasGranted next)
