-- What code is to know before it calls a node: from the node's bounds, and from the link that brings a message.
use Rattle.std.specs.Prelude.{ℕ, ◌+◌, ◌^◌, ◌≡◌, ◌<◌, ◌≤◌, true, false, Contains, Option, Some, None, IfSome, nat_lt}
use Rattle.std.proofs.Common.{arith, refl}
use Rattle.image_load.specs.Start.{Start}
use Rattle.rv_code.specs.Machine.{program}
use Rattle.tcc_base.specs.Limits.{run_limit}
use Rattle.tcc_base.specs.Settings.{IsAllowed}
use Rattle.base_lemmas.proofs.Lemmas.{and-both}
use Rattle.rules_maps.specs.Nodes.{Node, Core, Dir, Vendor, Event, Msg, TidReq}
use Rattle.rules_maps.specs.Shape.{Shape}
use Rattle.rules_tcc.specs.Local.{NodeState, AtVendor, Acted, at_node, act}
use Rattle.rules_tcc.specs.Sends.{Sends}
use Rattle.rules_tcc.specs.Step.{names_nodes}
use Rattle.rules_maps.specs.Messages.{fits, WasGranted, tid_named}
use Rattle.theorem_bounds.proofs.Lemmas.{fits_out, fits_back}
use Rattle.rules_apart.specs.Carried.{IsCarried}
use Rattle.theorem_apart.specs.Apart.{NodeInBounds, EachCarried, ActsInBounds}
use Rattle.theorem_apart.specs.Brought.{JoinsNodes, BroughtToDir}
use Rattle.theorem_apart.specs.Laws.{BringsCarried}
use Rattle.theorem_apart.proofs.Stays.{riscv_nodes_stay}
use Rattle.theorem_serial.proofs.Lemmas.{is-lt}

-- the vendor has a TID to give
pub next_few : (sh : Shape) (done next : ℕ) → done < run_limit → NodeInBounds sh done Vendor (AtVendor next) → next ≤ run_limit
next_few sh done next l k = omega (arith, l, k)

-- the ends of a link that carries a message exist
pub joins_nodes : (sh : Shape) (src dst : Node) (m : Msg) → IsCarried sh src dst m → JoinsNodes sh src dst
unfolding fits
joins_nodes sh (Core c) (Dir d) m b = let k = fits_out sh c d m b.fits in
    record { source = is-lt c sh.cores k.core; destination = is-lt d sh.dirs k.dir }
joins_nodes sh (Dir d) (Core c) m b = let k = fits_back sh c d m b.fits in
    record { source = is-lt d sh.dirs k.dir; destination = is-lt c sh.cores k.core }
joins_nodes sh (Core c) Vendor m b = record { source = (and-both _ _ b.fits).0; destination = refl }
joins_nodes sh Vendor (Core c) m b = record { source = refl; destination = (and-both _ _ b.fits).0 }
joins_nodes sh (Core c) (Core d) m b = absurd (let f = b.fits in cc)
joins_nodes sh (Dir c) (Dir d) m b = absurd (let f = b.fits in cc)
joins_nodes sh (Dir d) Vendor m b = absurd (let f = b.fits in cc)
joins_nodes sh Vendor (Dir d) m b = absurd (let f = b.fits in cc)
joins_nodes sh Vendor Vendor m b = absurd (let f = b.fits in cc)

-- a message that comes to a directory
pub brought_to_dir : (sh : Shape) (c d : ℕ) (m : Msg) → IsCarried sh (Core c) (Dir d) m → BroughtToDir sh c d m
brought_to_dir sh c d m b = let k = fits_out sh c d m b.fits in
    record { core = k.core; dir = k.dir; kind = k.goes; line = b.line; tid = small (tid_named m) b.tid }
  where
    small : (o : Option ℕ) → IfSome o (WasGranted (2 ^ 62)) → IfSome o (λ t. t < 2 ^ 62)
    small None h = tt
    small (Some t) h = h.1

-- comes from a core
pub to_dir_from_core : (sh : Shape) (src : Node) (d : ℕ) (m : Msg) → IsCarried sh src (Dir d) m → (c : ℕ) × (src ≡ Core c)
unfolding fits
to_dir_from_core sh (Core c) d m b = (c, refl)
to_dir_from_core sh (Dir e) d m b = absurd (let f = b.fits in cc)
to_dir_from_core sh Vendor d m b = absurd (let f = b.fits in cc)

-- and so does one that comes to the vendor, which asks for a TID
pub to_vendor_from_core : (sh : Shape) (src : Node) (m : Msg) → IsCarried sh src Vendor m → (c : ℕ) × (src ≡ Core c) × (m ≡ TidReq)
unfolding fits
to_vendor_from_core sh (Core c) TidReq b = (c, refl, refl)
to_vendor_from_core sh (Core c) m b = absurd (let f = and-both (nat_lt c sh.cores) false b.fits in cc)
to_vendor_from_core sh (Dir e) m b = absurd (let f = b.fits in cc)
to_vendor_from_core sh Vendor m b = absurd (let f = b.fits in cc)

-- a message among those that a node sends
pub carried_in : (sh : Shape) (n dst : Node) (sends : Sends) (m : Msg) → EachCarried sh n sends → Contains (sends dst) m
    → IsCarried sh n dst m
carried_in sh n dst sends m h c = rw c.2 at (h dst c.0 m (c.1))

-- what a node that has acted leaves and sends
pub riscv_acted : (s : Start) (done : ℕ) (n : Node) (x : NodeState) (e : Event) (m : Option Msg) (a : Acted) → IsAllowed s.settings
    → done < run_limit → at_node e ≡ n → names_nodes s.settings e ≡ true → NodeInBounds s.settings done n x → BringsCarried s.settings e m
    → act s.settings (program s) x e m ≡ Some a → ActsInBounds s.settings (done + 1) n a
riscv_acted s done n x e m a k l q g b c r = rw r at (riscv_nodes_stay s k done n x e m l q g b c)
