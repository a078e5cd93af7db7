-- What was sent before and after a call, by destination.
use Rattle.std.specs.Prelude.{ℕ, ◌+◌, ◌≤◌, ◌≡◌, List, [], ◌∷◌, ◌++◌, length, vec_capacity, nat_lt, if◌then◌else◌}
use Rattle.rules_maps.specs.Masks.{has}
use Rattle.rules_maps.specs.Nodes.{Core, Dir, Vendor, Msg, Mark}
use Rattle.tcc_msg.specs.Plain.{sends_of}
use Rattle.tcc_msg.specs.declared.outgoing.Outgoing.{Outgoing}
use Rattle.rules_tcc.specs.Sends.{Sends, when}

-- these, and behind them those
unfoldable pub followed : Sends → Sends → Sends
followed these those = λ dst. these dst ++ those dst

-- to each directory below n what f says
unfoldable pub to_first : ℕ → (ℕ → List Msg) → Sends
to_first n f (Dir d) = if nat_lt d n then f d else []
to_first n f (Core c) = []
to_first n f Vendor = []

-- one message for each directory of a set
unfoldable pub to_members : (bits : ℕ) → Msg → ℕ → List Msg
to_members bits m d = when (has bits d) (m ∷ [])

-- a mark, from a line and its mask
unfoldable pub mark_at : (tid : ℕ) → ℕ × ℕ → Msg
mark_at t m = Mark m.0 m.1 t

-- so many more messages fit without memory
abbrev pub HasRoom : Outgoing → ℕ → Type 0
HasRoom out n = length out.list.items + n ≤ vec_capacity out.list

-- these were sent, at most so many messages, without memory
pub record Sent (old new : Outgoing) (sends : Sends) (most : ℕ) : Type 0 where
  pub messages : sends_of new.list.items ≡ followed (sends_of old.list.items) sends
  pub count : length new.list.items ≤ length old.list.items + most
  pub room : vec_capacity new.list ≡ vec_capacity old.list
