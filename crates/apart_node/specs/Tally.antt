-- How many messages wait at each port, and how many of them the member may let wait.
use Rattle.std.specs.Prelude.{ℕ, ◌≡◌, ◌^◌, ◌&&◌, Bool, not, nat_lt, List, length, Some, slice_get, slice_index, slice_set}
use Rattle.std.specs.List.{filter}
use Rattle.rules_maps.specs.Bridge.{node_of}
use Rattle.rules_maps.specs.Nodes.{Node}
use Rattle.tcc_msg.specs.Plain.{msg_of}
use Rattle.rules_apart.specs.declared.logs.Mail.{Mail}
use Rattle.apart_member.specs.Always.{never_waits}
use Rattle.apart_member.specs.Data.{MemberData}
use Rattle.apart_node.specs.Choice.{ready_in}
use Rattle.apart_node.specs.Ports.{IsPort, PortData}

-- the node may let it wait, or there is no stamp after it
unfoldable pub hangs : (own : Node) → ℕ × Mail → Bool
hangs own e = not (nat_lt e.1.stamp (2 ^ 62) && never_waits own (msg_of e.1.msg))

abbrev pub hanging_in : PortData → List (ℕ × Mail)
hanging_in p = filter (hangs (node_of p.inlet.ends.dst)) p.pool

-- for each port how many messages can be handled, and how many may have to wait
pub record TallyData : Type 0 where
  pub ready : List ℕ
  pub hanging : List ℕ

-- The port's entries are whole, and where none may have to wait, all can be handled.
pub record CountsPort (p : PortData) (ready hanging : ℕ) : Type 0 where
  pub port : IsPort p
  pub hanging_is : hanging ≡ length (hanging_in p)
  pub whole : hanging ≡ 0 → ready ≡ length p.pool

pub record IsTallied (ports : List PortData) (t : TallyData) : Type 0 where
  pub ready_count : length t.ready ≡ length ports
  pub hanging_count : length t.hanging ≡ length ports
  pub each : (k : ℕ) (p : PortData) → slice_get ports k ≡ Some p → CountsPort p (slice_index t.ready k) (slice_index t.hanging k)

-- a port has changed
abbrev pub noted : TallyData → (seat : ℕ) → PortData → TallyData
noted t k p = record { ready = slice_set t.ready k (length p.pool); hanging = slice_set t.hanging k (length (hanging_in p)) }

-- the member in its present state can handle so many at each port
abbrev pub AreReady : MemberData → (last : ℕ) → List PortData → List ℕ → Type 0
AreReady m last ports ready = (k : ℕ) (p : PortData) → slice_get ports k ≡ Some p → slice_index ready k ≡ length (ready_in m last p)
