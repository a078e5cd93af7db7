-- Each peer has its own port, and what is carried goes to a peer.
use Rattle.std.proofs.Common.{◌≡◌, ℕ, ◌<◌, true, ◌&&◌, Some, refl, ap, sym, ◌∙◌, arith}
use Rattle.std.specs.Prelude.{nat_lt}
use Rattle.std.proofs.lemmas.Bool.Decides.{nat_tests}
use Rattle.std.proofs.lemmas.Option.{cond_some, same_Some}
use Rattle.tcc_base.specs.Settings.{Settings}
use Rattle.base_lemmas.proofs.Lemmas.{and-left, and-right}
use Rattle.rules_maps.specs.Nodes.{Node, Core, Dir, Vendor, Msg}
use Rattle.rules_maps.specs.Messages.{fits, goes_to_dir, goes_to_core, is_grant}
use Rattle.rules_apart.specs.Carried.{IsCarried}
use Rattle.apart_node.specs.Peers.{if_below, seat, peer_count}

below-is : (n i k : ℕ) → if_below n i ≡ Some k → (i < n) × (i ≡ k)
below-is n i k h = let c = cond_some (nat_lt i n) i k h in (grind (arith, nat_tests), c.1)

both-below : (n i j k : ℕ) → if_below n i ≡ Some k → if_below n j ≡ Some k → i ≡ j
both-below n i j k h g = (below-is n i k h).1 ∙ sym (below-is n j k g).1

pub seat-same : (s : Settings) (own a b : Node) (k : ℕ) → seat s own a ≡ Some k → seat s own b ≡ Some k → a ≡ b
unfolding seat
seat-same s (Core c) (Core x) b k h g = absurd (cc)
seat-same s (Core c) (Dir d) (Core x) k h g = absurd (cc)
seat-same s (Core c) (Dir d) (Dir e) k h g = ap Dir (both-below s.dirs d e k h g)
seat-same s (Core c) (Dir d) Vendor k h g =
    let p = below-is s.dirs d k h in
    let q = same_Some s.dirs k g in
    absurd (omega arith)
seat-same s (Core c) Vendor (Core x) k h g = absurd (cc)
seat-same s (Core c) Vendor (Dir e) k h g =
    let p = below-is s.dirs e k g in
    let q = same_Some s.dirs k h in
    absurd (omega arith)
seat-same s (Core c) Vendor Vendor k h g = refl
seat-same s (Dir d) (Core x) (Core y) k h g = ap Core (both-below s.cores x y k h g)
seat-same s (Dir d) (Core x) (Dir e) k h g = absurd (cc)
seat-same s (Dir d) (Core x) Vendor k h g = absurd (cc)
seat-same s (Dir d) (Dir e) b k h g = absurd (cc)
seat-same s (Dir d) Vendor b k h g = absurd (cc)
seat-same s Vendor (Core x) (Core y) k h g = ap Core (both-below s.cores x y k h g)
seat-same s Vendor (Core x) (Dir e) k h g = absurd (cc)
seat-same s Vendor (Core x) Vendor k h g = absurd (cc)
seat-same s Vendor (Dir e) b k h g = absurd (cc)
seat-same s Vendor Vendor b k h g = absurd (cc)

pub seat-below : (s : Settings) (own a : Node) (k : ℕ) → seat s own a ≡ Some k → k < peer_count s own
unfolding seat
seat-below s (Core c) (Core x) k h = absurd (cc)
seat-below s (Core c) (Dir d) k h = let p = below-is s.dirs d k h in omega arith
seat-below s (Core c) Vendor k h = let q = same_Some s.dirs k h in omega arith
seat-below s (Dir d) (Core x) k h = let p = below-is s.cores x k h in omega arith
seat-below s (Dir d) (Dir e) k h = absurd (cc)
seat-below s (Dir d) Vendor k h = absurd (cc)
seat-below s Vendor (Core x) k h = let p = below-is s.cores x k h in omega arith
seat-below s Vendor (Dir e) k h = absurd (cc)
seat-below s Vendor Vendor k h = absurd (cc)

some-below : (n i : ℕ) → nat_lt i n ≡ true → if_below n i ≡ Some i
some-below n i h = rw h

has-seat : (s : Settings) (own dst : Node) (m : Msg) → fits s own dst m ≡ true → (k : ℕ) × (seat s own dst ≡ Some k)
unfolding seat fits
has-seat s (Core c) (Dir d) m f = (
  d,
  some-below s.dirs d (and-left (nat_lt d s.dirs) (goes_to_dir m)
      (and-right (nat_lt c s.cores) (nat_lt d s.dirs && goes_to_dir m) f)),
)
has-seat s (Core c) Vendor m f = (s.dirs, refl)
has-seat s (Core c) (Core x) m f = absurd (cc)
has-seat s (Dir d) (Core c) m f = (c, some-below s.cores c (and-left (nat_lt c s.cores) (nat_lt d s.dirs && goes_to_core m) f))
has-seat s (Dir d) (Dir e) m f = absurd (cc)
has-seat s (Dir d) Vendor m f = absurd (cc)
has-seat s Vendor (Core c) m f = (c, some-below s.cores c (and-left (nat_lt c s.cores) (is_grant m) f))
has-seat s Vendor (Dir e) m f = absurd (cc)
has-seat s Vendor Vendor m f = absurd (cc)

pub seat-carried : (s : Settings) (own dst : Node) (m : Msg) → IsCarried s own dst m → (k : ℕ) × (seat s own dst ≡ Some k)
seat-carried s own dst m h = has-seat s own dst m h.fits
