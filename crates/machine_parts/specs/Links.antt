-- What may stand on the links of a machine.
use Rattle.std.specs.Prelude.{ℕ, ◌≡◌, ◌<◌, ◌≤◌, Bool, true, length, Some}
use Rattle.rules_maps.specs.Nodes.{Node, Core, Dir, Vendor, Msg}
use Rattle.rules_maps.specs.Shape.{Shape}
use Rattle.rules_tcc.specs.Links.{in_flight}
use Rattle.rules_tcc.specs.State.{Link}
use Rattle.theorem_sound.specs.Sound.{GoodMessage}

-- the links between nodes, and which messages on them are marked; the next TID, and how many messages at most were sent on a link
pub record Traffic : Type 0 where
  pub net : Node → Node → Link
  pub ready : Node → Node → ℕ → Bool
  pub next : ℕ
  pub most : ℕ

-- a message belongs on the link from src to dst, and is marked there
abbrev pub IsGoodMessage : Shape → Traffic → (src dst : Node) → ℕ → Msg → Type 0
IsGoodMessage sh t src dst k m = GoodMessage sh t.next src dst m × (t.ready src dst k ≡ true)

abbrev pub AreGoodMessages : Shape → Traffic → (src dst : Node) → Type 0
AreGoodMessages sh t src dst = (k : ℕ) (m : Msg) → in_flight t.net src dst k ≡ Some m → IsGoodMessage sh t src dst k m

-- the link from src to dst: each message on it belongs there and is marked, and it isn't too long
pub record IsGoodLink (sh : Shape) (t : Traffic) (src dst : Node) : Type 0 where
  pub messages : AreGoodMessages sh t src dst
  pub short : length (t.net src dst) ≤ t.most

-- the links from and to a core: those of the first directories, so many, and those of the vendor
pub record AreGoodLinks (sh : Shape) (t : Traffic) (core dirs : ℕ) : Type 0 where
  pub out : (d : ℕ) → d < dirs → IsGoodLink sh t (Core core) (Dir d)
  pub back : (d : ℕ) → d < dirs → IsGoodLink sh t (Dir d) (Core core)
  pub asks : IsGoodLink sh t (Core core) Vendor
  pub grants : IsGoodLink sh t Vendor (Core core)

-- all links
abbrev pub IsGoodTraffic : Shape → Traffic → Type 0
IsGoodTraffic sh t = (src dst : Node) → IsGoodLink sh t src dst
