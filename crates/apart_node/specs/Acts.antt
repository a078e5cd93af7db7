-- What a node does in one call.
use Rattle.std.specs.Prelude.{ℕ, ◌≡◌, ◌<◌, ◌+◌, ◌%◌, ◌⊎◌, Bool, true, false, List, [], ◌∷◌, ◌++◌, length, Option, Some}
use Rattle.std.specs.Prelude.{slice_get, option_map, if◌then◌else◌}
use Rattle.tcc_base.specs.Limits.{run_limit}
use Rattle.rules_maps.specs.Nodes.{Node, Event, Exec, Evict, Deliver, node_eq}
use Rattle.tcc_msg.specs.Plain.{event_of}
use Rattle.rules_tcc.specs.Local as rules
use Rattle.rules_apart.specs.declared.logs.Logged.{Logged}
use Rattle.rules_apart.specs.declared.logs.Mail.{Mail}
use Rattle.apart_member.specs.Acting.{acted_by}
use Rattle.apart_member.specs.Data.{MemberData, state_of}
use Rattle.apart_node.specs.Choice.{useful, stamp_after}
use Rattle.apart_node.specs.Moves.{SameLinks, Grows, Stands, Room, SameSent}
use Rattle.apart_node.specs.Node.{NodeData, last_stamp, sent_to}
use Rattle.apart_node.specs.Ports.{PortData, all_but}
use Rattle.apart_node.specs.declared.node.Act.{Act}
use Rattle.apart_node.specs.declared.node.Act.TheVariants.{Moved, Idle, Memory}

-- a member of the same state
pub record SameMember (old new : MemberData) : Type 0 where
  pub code : new.code ≡ old.code
  pub node : new.node ≡ old.node
  pub done : new.done ≡ old.done
  pub state : state_of new ≡ state_of old

-- messages moved and nothing else
pub record Gathers (old new : NodeData) : Type 0 where
  pub member : SameMember old.member new.member
  pub log : new.log ≡ old.log
  pub room : Room (λ peer. Grows) old.room new.room
  pub sent : SameSent (last_stamp old.log) old.room new.room

-- what was sent goes onto the links, as far as there is memory
pub record Flushes (old new : NodeData) : Type 0 where
  pub member : new.member ≡ old.member
  pub log : new.log ≡ old.log
  pub room : Room (λ peer. Stands) old.room new.room
  pub sent : SameSent (last_stamp old.log) old.room new.room

-- what waits of a port without the message that was consumed
abbrev pub left_of : (consumed : Bool) → Event → (src : Node) → List (ℕ × Mail) → List (ℕ × Mail)
left_of true (Deliver s dst k) src pool = if node_eq s src then all_but k pool else pool
left_of true (Exec c) src pool = pool
left_of true (Evict c x y) src pool = pool
left_of false e src pool = pool

pub record Loses (consumed : Bool) (e : Event) (src : Node) (old new : PortData) : Type 0 where
  pub links : SameLinks old new
  pub got : new.inlet.got ≡ old.inlet.got
  pub pool : new.pool ≡ left_of consumed e src old.pool

-- The node did this event, with this message: by the rules, with an entry in its log and a stamp.
pub record Performs (mid : NodeData) (e : Event) (m : Option rules.Mail) (new : NodeData) : Type 0 where
  pub did : rules.Acted
  pub acts : acted_by mid.member e (option_map (λ x. x.msg) m) ≡ Some did
  pub state : state_of new.member ≡ did.state
  pub code : new.member.code ≡ mid.member.code
  pub node : new.member.node ≡ mid.member.node
  pub done : new.member.done ≡ mid.member.done + 1
  pub entry : Logged
  pub event : event_of entry.event ≡ e
  pub stamp : entry.stamp ≡ stamp_after (last_stamp mid.log) m
  pub log : new.log ≡ mid.log ++ entry ∷ []
  pub sent : (dst : Node) → sent_to new dst ≡ sent_to mid dst ++ rules.mailed entry.stamp (did.sends dst)
  pub room : Room (Loses did.consumes e) mid.room new.room

-- It did the event that the number picks of those that are useful.
pub record Does (mid : NodeData) (pick : ℕ) (new : NodeData) : Type 0 where
  pub chosen : Event × Option rules.Mail
  pub picked : slice_get (useful mid) (pick % length (useful mid)) ≡ Some chosen
  pub room : length mid.log < run_limit
  pub performs : Performs mid chosen.0 chosen.1 new

-- what each answer says
abbrev pub AnswersAct : (old : NodeData) → (pick : ℕ) → (new : NodeData) → Act → Type 0
AnswersAct old pick new Moved = (mid : NodeData) × (Gathers old mid × Does mid pick new)
AnswersAct old pick new Idle = Gathers old new × ((useful new ≡ []) ⊎ (length new.log ≡ run_limit))
AnswersAct old pick new Memory = Gathers old new

-- the same node with the same program and the same links
pub record SameNode (old new : NodeData) : Type 0 where
  pub code : new.member.code ≡ old.member.code
  pub node : new.member.node ≡ old.member.node
  pub links : Room (λ peer. SameLinks) old.room new.room
