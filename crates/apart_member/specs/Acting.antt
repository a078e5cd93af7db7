-- What a node does in one event, against the rules of its kind.
use Rattle.std.specs.Prelude.{ℕ, ◌≡◌, ◌≤◌, true, false, Bool, List, Option, Some, is_some}
use Rattle.std.specs.List.{All}
use Rattle.image_load.specs.Contents.{Contents, started}
use Rattle.rv_code.specs.Machine.{program}
use Rattle.image_load.specs.Start.{first_ram}
use Rattle.tcc_base.specs.Limits.{run_limit}
use Rattle.tcc_base.specs.declared.names.NodeId.{NodeId}
use Rattle.rules_maps.specs.Bridge.{node_of}
use Rattle.rules_maps.specs.Nodes.{Core, Event, Exec, Evict, Deliver, Msg}
use Rattle.tcc_msg.specs.Plain.{msg_of, sends_of}
use Rattle.tcc_msg.specs.declared.msg.Msg.{Msg as CodeMsg}
use Rattle.rules_tcc.specs.DirDeliver.{Answer}
use Rattle.rules_tcc.specs.Local.{Acted, NodeState, AtDir, act, answer_acted, at_node}
use Rattle.rules_tcc.specs.Sends.{Sends}
use Rattle.rules_tcc.specs.State.{DirState}
use Rattle.rules_tcc.specs.Step.{names_nodes}
use Rattle.directory.specs.Gives.{is_taken}
use Rattle.directory.specs.declared.handled.Handled.{Handled}
use Rattle.directory.specs.declared.handled.Handled.TheVariants.{Handled as Done, Waits, Asked, Dropped}
use Rattle.theorem_apart.specs.Laws.{BringsCarried}
use Rattle.rules_apart.specs.Carried.{IsCarried}
use Rattle.apart_member.specs.Data.{MemberData, kind_state, node_at, state_of}
use Rattle.apart_member.specs.declared.kind.MemberKind.{MemberKind}
use Rattle.apart_member.specs.declared.kind.MemberKind.TheVariants as kind

-- what the rules make of an event at a node in this state, with the message that it delivers; None: it isn't enabled
abbrev pub happens_at : Contents → NodeState → Event → Option Msg → Option Acted
happens_at code s e x = act code.settings (program (started code)) s e x

abbrev pub acted_by : MemberData → Event → Option Msg → Option Acted
acted_by m e x = happens_at m.code (state_of m) e x

-- The event is one of this member's own, names nodes of the machine, and is enabled; its message is one that its link carries.
pub record MayDo (m : MemberData) (e : Event) (x : Option Msg) : Type 0 where
  pub at : at_node e ≡ node_of m.node
  pub names : names_nodes m.code.settings e ≡ true
  pub enabled : is_some (acted_by m e x) ≡ true
  pub carried : BringsCarried m.code.settings e x

-- the event happened: the state is what the rules say, and so is what was sent, with whether the message was consumed
abbrev pub ActsAs : Contents → (old new : NodeState) → Event → Option Msg → (sent : List (NodeId × CodeMsg)) → (consumed : Bool) → Type 0
ActsAs code old new e x sent consumed = happens_at code old e x ≡ Some (record { state = new; sends = sends_of sent; consumes = consumed })

-- so it is of a member, and each message that was sent is one that its link carries
pub record Acts (old new : MemberData) (e : Event) (x : Option Msg) (sent : List (NodeId × CodeMsg)) (consumed : Bool) : Type 0 where
  pub rule : ActsAs old.code (state_of old) (state_of new) e x sent consumed
  pub carried : All (λ m. IsCarried old.code.settings (node_of old.node) (node_of m.0) (msg_of m.1)) sent

-- ---- the parts of a member

-- a delivery of a message from a core
abbrev pub IsFromCore : Event → Option Msg → Type 0
IsFromCore (Deliver (Core c) dst k) (Some x) = Unit {0}
IsFromCore e x = ⊥

-- from this one
abbrev pub IsFrom : (core : ℕ) → Event → Type 0
IsFrom c (Deliver src dst k) = src ≡ Core c
IsFrom c (Exec b) = ⊥
IsFrom c (Evict b x y) = ⊥

-- a directory's answer, where it takes the message
abbrev pub TakesAs : DirState → Answer → (new : DirState) → Sends → (consumed : Bool) → Type 0
TakesAs old answer new sends consumed =
    is_taken answer ≡ true → answer_acted old answer ≡ Some (record { state = AtDir new; sends = sends; consumes = consumed })

-- what a directory handled or dropped is consumed
abbrev pub consumes : Handled → Bool
consumes Done = true
consumes Dropped = true
consumes Asked = false
consumes Waits = false

-- a vendor has a TID to give
abbrev pub HasNext : MemberKind → Type 0
HasNext (kind.Core id core) = Unit {0}
HasNext (kind.Directory id dir) = Unit {0}
HasNext (kind.Vendor next) = next ≤ run_limit

-- so a part may do an event of the member
pub record PartMayDo (code : Contents) (m : MemberKind) (e : Event) (x : Option Msg) : Type 0 where
  pub at : at_node e ≡ node_of (node_at m)
  pub names : names_nodes code.settings e ≡ true
  pub enabled : is_some (happens_at code (kind_state (first_ram (started code)) m) e x) ≡ true
  pub carried : BringsCarried code.settings e x
  pub next : HasNext m
