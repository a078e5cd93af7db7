-- All links of a machine from those of its cores: no other link has a message.
use Rattle.std.proofs.Common.{◌≡◌, ℕ, ◌<◌, Bool, true, false, [], length, Some, None, refl, ap, subst, arith}
use Rattle.std.specs.Prelude.{nat_lt, slice_index_or}
use Rattle.std.proofs.lemmas.Bool.Decides.{nat_tests}
use Rattle.rules_maps.specs.Nodes.{Node, Core, Dir, Vendor, Msg}
use Rattle.rules_maps.specs.Shape.{Shape}
use Rattle.rules_tcc.specs.State.{Link}
use Rattle.machine_links.specs.Flights.{Flights, lane, net_of}
use Rattle.machine_links.specs.Places.{is_link, place}
use Rattle.machine_parts.specs.Links.{AreGoodLinks, IsGoodLink, IsGoodTraffic}
use Rattle.machine_parts.specs.Traffic.{traffic_of}
use Rattle.machine_parts.specs.declared.links.Limits.{Limits}

no-link : (f : Flights) (s d : Node) → is_link f.cores f.dirs s d ≡ false → net_of f s d ≡ []
unfolding net_of lane place
no-link f s d e = rw e refl

no-message : (l : Link) (k : ℕ) (m : Msg) → l ≡ [] → slice_index_or l k None ≡ Some m → ⊥
no-message l k m e f = let none : None ≡ Some m = subst (λ xs. slice_index_or xs k None ≡ Some m) e f in cc

unlinked : (sh : Shape) (f : Flights) (l : Limits) (s d : Node) → is_link f.cores f.dirs s d ≡ false → IsGoodLink sh (traffic_of f l) s d
unlinked sh f l s d e = record {
  messages = λ k m fly. absurd (no-message (net_of f s d) k m (no-link f s d e) fly);
  short = let none = ap length (no-link f s d e) in omega (arith, none);
}

pub all-good : (sh : Shape) (f : Flights) (l : Limits) → f.cores ≡ sh.cores → f.dirs ≡ sh.dirs
    → ((c : ℕ) → c < sh.cores → AreGoodLinks sh (traffic_of f l) c sh.dirs) → IsGoodTraffic sh (traffic_of f l)
all-good sh f l cores dirs w = all
  where
    exists : (c n m : ℕ) → nat_lt c n ≡ true → n ≡ m → c < m
    exists c n m e q = grind (arith, nat_tests)

    all : (s d : Node) → IsGoodLink sh (traffic_of f l) s d
    all (Core c) (Dir d) = go (nat_lt c f.cores) refl (nat_lt d f.dirs) refl
      where
        go : (a : Bool) → nat_lt c f.cores ≡ a → (b : Bool) → nat_lt d f.dirs ≡ b → IsGoodLink sh (traffic_of f l) (Core c) (Dir d)
        go true p true q = (w c (exists c f.cores sh.cores p cores)).out d (exists d f.dirs sh.dirs q dirs)
        go true p false q = unlinked sh f l (Core c) (Dir d) (rw (p, q) refl)
        go false p b q = unlinked sh f l (Core c) (Dir d) (rw p refl)
    all (Dir d) (Core c) = go (nat_lt c f.cores) refl (nat_lt d f.dirs) refl
      where
        go : (a : Bool) → nat_lt c f.cores ≡ a → (b : Bool) → nat_lt d f.dirs ≡ b → IsGoodLink sh (traffic_of f l) (Dir d) (Core c)
        go true p true q = (w c (exists c f.cores sh.cores p cores)).back d (exists d f.dirs sh.dirs q dirs)
        go false p true q = unlinked sh f l (Dir d) (Core c) (rw (q, p) refl)
        go a p false q = unlinked sh f l (Dir d) (Core c) (rw q refl)
    all (Core c) Vendor = go (nat_lt c f.cores) refl
      where
        go : (a : Bool) → nat_lt c f.cores ≡ a → IsGoodLink sh (traffic_of f l) (Core c) Vendor
        go true p = (w c (exists c f.cores sh.cores p cores)).asks
        go false p = unlinked sh f l (Core c) Vendor p
    all Vendor (Core c) = go (nat_lt c f.cores) refl
      where
        go : (a : Bool) → nat_lt c f.cores ≡ a → IsGoodLink sh (traffic_of f l) Vendor (Core c)
        go true p = (w c (exists c f.cores sh.cores p cores)).grants
        go false p = unlinked sh f l Vendor (Core c) p
    all (Core c) (Core d) = unlinked sh f l (Core c) (Core d) refl
    all (Dir c) (Dir d) = unlinked sh f l (Dir c) (Dir d) refl
    all (Dir c) Vendor = unlinked sh f l (Dir c) Vendor refl
    all Vendor (Dir d) = unlinked sh f l Vendor (Dir d) refl
    all Vendor Vendor = unlinked sh f l Vendor Vendor refl
