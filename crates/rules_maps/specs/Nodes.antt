-- The machine's nodes, what they say to one another, and what can happen, as plain data over numbers.
use Rattle.std.specs.Prelude.{ℕ, Bool, true, false, ◌==◌, List}

-- ordered: cores by number, directories by number, the vendor
pub data Node : Type 0 where
  Core : (core : ℕ) → Node
  Dir : (dir : ℕ) → Node
  Vendor : Node

abbrev pub node_eq : Node → Node → Bool
node_eq (Core c) (Core d) = c == d
node_eq (Dir c) (Dir d) = c == d
node_eq Vendor Vendor = true
node_eq _ _ = false

-- the fifteen kinds of message
pub data Msg : Type 0 where
  TidReq : Msg
  TidGrant : (tid : ℕ) → Msg
  LoadReq : (line after : ℕ) → Msg
  Fill : (line : ℕ) → (words : List ℕ) → Msg
  Skip : (tid : ℕ) → Msg
  Probe : (tid : ℕ) → Msg
  ProbeReply : (tid serving : ℕ) → Msg
  Mark : (line mask tid : ℕ) → Msg
  Commit : (tid count : ℕ) → Msg
  Abort : (tid : ℕ) → Msg
  WriteBack : (line mask : ℕ) → (words : List ℕ) → (tag : ℕ) → Msg
  Flush : (line mask : ℕ) → (words : List ℕ) → (tag : ℕ) → Msg
  DataReq : (line : ℕ) → Msg
  Inv : (line mask tid : ℕ) → Msg
  InvAck : (line : ℕ) → (keeps : Bool) → Msg

-- one action of one node; a Deliver names the message number seq of the link from src to dst
pub data Event : Type 0 where
  Exec : (core : ℕ) → Event
  Evict : (core set way : ℕ) → Event
  Deliver : (src dst : Node) → (seq : ℕ) → Event

-- words of one line with the TID of the commit that made them; zero outside the mask
pub record Tagged : Type 0 where
  pub line : ℕ
  pub mask : ℕ
  pub words : List ℕ
  pub tag : ℕ
