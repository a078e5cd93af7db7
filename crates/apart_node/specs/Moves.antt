-- Messages move between a node's links, its pools and what it has yet to send, and nothing else changes.
use Rattle.std.specs.Prelude.{ℕ, suc, ◌≡◌, List, [], ◌∷◌, ◌++◌, length, Option, Some, None, slice_get}
use Rattle.rules_maps.specs.Nodes.{Node}
use Rattle.rules_apart.specs.declared.logs.Mail.{Mail}
use Rattle.apart_node.specs.Ports.{PortData, RoomData, port_to, handed_to}

-- messages with their numbers, from k on
unfoldable pub numbered : (k : ℕ) → List Mail → List (ℕ × Mail)
numbered k [] = []
numbered k (m ∷ ms) = (k, m) ∷ numbered (suc k) ms

-- both links are the same ones
pub record SameLinks (old new : PortData) : Type 0 where
  pub out_link : new.outlet.link ≡ old.outlet.link
  pub out_ends : new.outlet.ends ≡ old.outlet.ends
  pub in_link : new.inlet.link ≡ old.inlet.link
  pub in_ends : new.inlet.ends ≡ old.inlet.ends

-- what has arrived since then waits behind what waited
pub record Grows (old new : PortData) : Type 0 where
  pub links : SameLinks old new
  pub more : List Mail
  pub got : new.inlet.got ≡ old.inlet.got ++ more
  pub pool : new.pool ≡ old.pool ++ numbered (length old.inlet.got) more

-- nothing was taken from the link, and the same messages wait
pub record Stands (old new : PortData) : Type 0 where
  pub links : SameLinks old new
  pub got : new.inlet.got ≡ old.inlet.got
  pub pool : new.pool ≡ old.pool

-- messages were taken from the link, and nothing else
pub record Takes (old new : PortData) : Type 0 where
  pub outlet : new.outlet ≡ old.outlet
  pub grows : Grows old new

-- P of two ports, where there are
abbrev pub Both : (PortData → PortData → Type 0) → Option PortData → Option PortData → Type 0
Both P None None = Unit {0}
Both P (Some p) (Some q) = P p q
Both P None (Some q) = ⊥
Both P (Some p) None = ⊥

-- so it is of each place
abbrev pub AtEach : (PortData → PortData → Type 0) → (old new : List PortData) → Type 0
AtEach P old new = (k : ℕ) → Both P (slice_get old k) (slice_get new k)

-- A room of the same node, in which the port to each peer is as P says.
pub record Room (P : Node → PortData → PortData → Type 0) (old new : RoomData) : Type 0 where
  pub settings : new.settings ≡ old.settings
  pub own : new.own ≡ old.own
  pub ports : (peer : Node) → Both (P peer) (port_to old peer) (port_to new peer)

-- what was sent stays the same, by number and stamp
abbrev pub SameSent : (stamp : ℕ) → (old new : RoomData) → Type 0
SameSent stamp old new = (dst : Node) → handed_to new stamp dst ≡ handed_to old stamp dst
