-- The rule of a link: what was taken and then what the queue holds is what was sent. One pass at most may push, and it has the list of
-- what was sent; one at most may pop, and it has the list of what was taken.
use Rattle.std.specs.Prelude.{◌≡◌, ℕ, Bool, true, false, List, [], ◌++◌, All}
use mathlib.Core.Option.{some}
use lib.ListN.{get_elem?}
use Rattle.tcc_base.specs.declared.names.NodeId.TheVariants.{Vendor}
use Rattle.rules_maps.specs.Bridge.{node_of}
use Rattle.rules_maps.specs.Nodes.{Msg}
use Rattle.tcc_msg.specs.Plain.{msg_of}
use Rattle.rules_apart.specs.Carried.{IsCarried}
use Rattle.rules_apart.specs.declared.logs.Mail.{Mail}
use Rattle.net_links.specs.declared.rule.Ends.{Ends}
use Rattle.net_links.specs.declared.rule.Hand.{Hand}

abbrev pub StartsWith : (whole part : List Mail) → Type 0
StartsWith whole part = (rest : List Mail) × (whole ≡ part ++ rest)

-- what a link between these ends may carry
abbrev pub MayCarry : Ends → Msg → Type 0
MayCarry e m = IsCarried e.settings (node_of e.src) (node_of e.dst) m

-- the ends of a link before it has any
abbrev pub nowhere : Ends
nowhere = record { settings = record { cores = 0; dirs = 0; sets = 0; ways = 0; base = 0; ram = 0 }; src = Vendor; dst = Vendor }

abbrev pub hand : Ends → (pushes pops : Bool) → (sent got heard : List Mail) → Hand
hand e a b sent got heard = record { ends = e; pushes = a; pops = b; sent = sent; got = got; heard = heard }

-- the pass with which a link begins
abbrev pub both_hands : Hand
both_hands = hand nowhere true true [] [] []

abbrev pub outlet_hand : Ends → (sent : List Mail) → Hand
outlet_hand e sent = hand e true false sent [] []

abbrev pub inlet_hand : Ends → (got : List Mail) → Hand
inlet_hand e got = hand e false true [] got []

-- a pass that may do nothing, and has heard of what was taken
abbrev pub receipt : (got : List Mail) → Hand
receipt got = hand nowhere false false [] [] got

-- what went over a link, and which passes may push and pop
pub record Traffic : Type 0 where
  pub ends : Ends
  pub sent : List Mail
  pub got : List Mail
  pub writer : ℕ
  pub reader : ℕ

-- What the pass of that number knows is so.
pub record Shows (t : Traffic) (port : ℕ) (v : Hand) : Type 0 where
  -- The one that may push knows all that was sent.
  pub pushes : v.pushes ≡ true → (port ≡ t.writer) × (v.ends ≡ t.ends) × (v.sent ≡ t.sent)
  -- The one that may pop knows all that was taken.
  pub pops : v.pops ≡ true → (port ≡ t.reader) × (v.ends ≡ t.ends) × (v.got ≡ t.got)
  -- Each may have heard of a beginning of what was taken.
  pub heard : StartsWith t.got v.heard

pub record Linked (items : List Mail) (views : List Hand) : Type 0 where
  pub traffic : Traffic
  -- The queue holds what was sent and wasn't taken.
  pub parted : traffic.sent ≡ traffic.got ++ items
  -- The link may carry each message that the queue holds.
  pub carried : All (λ m. MayCarry traffic.ends (msg_of m.msg)) items
  -- What each pass knows is so.
  pub shown : (port : ℕ) (v : Hand) → get_elem? views port ≡ some v → Shows traffic port v
