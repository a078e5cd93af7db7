-- What a number picks among a member's own events and the messages that it can handle.
use Rattle.std.specs.Prelude.{ℕ, ◌≡◌, ◌+◌, ◌%◌, ◌<◌, length, Some, slice_get}
use Rattle.rules_maps.specs.Bridge.{node_of}
use Rattle.rules_maps.specs.Nodes.{Deliver}
use Rattle.rules_apart.specs.Filled.{mail_of}
use Rattle.apart_member.specs.Data.{MemberData}
use Rattle.apart_node.specs.Choice.{all_deliveries}
use Rattle.apart_node.specs.Deeds.{IsReady}
use Rattle.apart_node.specs.Ports.{RoomData}
use Rattle.apart_node.specs.declared.drawing.Draw.{Draw}
use Rattle.apart_node.specs.declared.drawing.Draw.TheVariants.{Nothing, Own, Letter}
use Rattle.apart_node.specs.declared.room.Waiting.{Waiting}

-- so many events of its own, and behind them the messages
abbrev pub draws_from : RoomData → MemberData → (last own : ℕ) → ℕ
draws_from r m last own = own + length (all_deliveries m last r.ports)

-- the message stands at that place behind the events of its own
pub record IsLetterDrawn (r : RoomData) (m : MemberData) (last own picked : ℕ) (w : Waiting) : Type 0 where
  pub behind : ℕ
  pub place : picked ≡ own + behind
  pub ready : IsReady r m last w
  pub at : slice_get (all_deliveries m last r.ports) behind
      ≡ Some (Deliver (node_of w.src) (node_of r.own) w.letter.number, Some (mail_of w.letter.mail))

-- the number picks by its remainder
abbrev pub IsDrawn : RoomData → MemberData → (last own pick : ℕ) → Draw → Type 0
IsDrawn r m last own pick Nothing = draws_from r m last own ≡ 0
IsDrawn r m last own pick (Own k) = (k ≡ pick % draws_from r m last own) × (k < own)
IsDrawn r m last own pick (Letter w) = IsLetterDrawn r m last own (pick % draws_from r m last own) w
