-- The messages on their way to directories are marked anew, a directory after another.
use Rattle.std.proofs.Common.{◌≡◌, ℕ, ◌+◌, ◌<◌, ◌≤◌, inl, inr, Bool, true, false, ◌&&◌, Some, refl, sym, ◌∙◌, subst, arith}
use Rattle.std.specs.Prelude.{nat_lt}
use Rattle.std.proofs.lemmas.Bool.{cases_eq}
use Rattle.std.proofs.lemmas.Bool.Decides.{nat_tests}
use Rattle.rules_maps.specs.Nodes.{Node, Core, Dir, Vendor, Msg, node_eq}
use Rattle.rules_tcc.specs.DirDeliver.{dir_deliver}
use Rattle.rules_tcc.specs.Links.{in_flight}
use Rattle.directory.specs.Foreign.{is_foreign}
use Rattle.directory.specs.Gives.{is_taken}
use Rattle.machine_dirs.specs.Bank.{DirsData, dirs_of}
use Rattle.machine_links.specs.Flights.{Flights, net_of, is_ready}
use Rattle.net_core.specs.Delivery.{AllMayGo, AreMarked, is_deliverable}

-- one of the first so many directories
abbrev pub is_before : (count : ℕ) → Node → Bool
is_before n (Dir d) = nat_lt d n
is_before n _ = false

-- those that go to the first so many directories are marked, and the others as they were
pub record MarkedBelow (b : DirsData) (count : ℕ) (old new : Flights) : Type 0 where
  pub cores : new.cores ≡ old.cores
  pub dirs : new.dirs ≡ old.dirs
  pub net : net_of new ≡ net_of old
  pub done : (ram : ℕ → ℕ) (c d k : ℕ) (m : Msg) → d < count → c < b.settings.cores → in_flight (net_of old) (Core c) (Dir d) k ≡ Some m
      → is_ready new (Core c) (Dir d) k ≡ is_taken (dir_deliver b.settings (dirs_of ram b d) c m)
  pub rest : (src dst : Node) (k : ℕ) → is_before count dst ≡ false → is_ready new src dst k ≡ is_ready old src dst k

pub marked-none : (b : DirsData) (f : Flights) → MarkedBelow b 0 f f
marked-none b f = record {
  cores = refl;
  dirs = refl;
  net = refl;
  done = λ ram c d k m l. absurd (omega (arith, l));
  rest = λ s d k e. refl;
}

-- it isn't of the first, nor the next
before-not : (d : ℕ) (n : Node) → is_before (d + 1) n ≡ false → (is_before d n ≡ false) × (node_eq n (Dir d) ≡ false)
before-not d (Core c) e = (refl, refl)
before-not d Vendor e = (refl, refl)
before-not d (Dir j) e = (grind (arith, nat_tests, e), grind (arith, nat_tests, e))

other-dir : (j d : ℕ) → j < d → node_eq (Dir j) (Dir d) ≡ false
other-dir j d l = grind (arith, nat_tests, l)

-- a directory more
pub marked-more : (b : DirsData) (d : ℕ) (old f new : Flights) → MarkedBelow b d old f
    → new.cores ≡ f.cores → new.dirs ≡ f.dirs → net_of new ≡ net_of f
    → ((ram : ℕ → ℕ) (c k : ℕ) (m : Msg) → c < b.settings.cores → in_flight (net_of f) (Core c) (Dir d) k ≡ Some m
    → is_ready new (Core c) (Dir d) k ≡ is_taken (dir_deliver b.settings (dirs_of ram b d) c m))
    → ((src dst : Node) (k : ℕ) → node_eq dst (Dir d) ≡ false → is_ready new src dst k ≡ is_ready f src dst k)
    → MarkedBelow b (d + 1) old new
marked-more b d old f new w cores dirs net here others = record {
  cores = cores ∙ w.cores;
  dirs = dirs ∙ w.dirs;
  net = net ∙ w.net;
  done = λ ram c j k m l inside fly. elim (cases_eq j d) [
    | inl e ↦ subst (λ n. is_ready new (Core c) (Dir n) k ≡ is_taken (dir_deliver b.settings (dirs_of ram b n) c m)) (sym e)
        (here ram c k m inside (subst (λ n. in_flight n (Core c) (Dir d) k ≡ Some m) (sym w.net)
        (subst (λ n. in_flight (net_of old) (Core c) (Dir n) k ≡ Some m) e fly)))
    | inr e ↦ others (Core c) (Dir j) k (other-dir j d (omega (arith, l, e))) ∙ w.done ram c j k m (omega (arith, l, e)) inside fly
  ];
  rest = λ s n k e. others s n k (before-not d n e).1 ∙ w.rest s n k (before-not d n e).0;
}

both : (a b : Bool) → (a && b) ≡ true → (a ≡ true) × (b ≡ true)
both true true e = (refl, refl)
both true false e = absurd (cc)
both false b e = absurd (cc)

below : (a b : ℕ) → nat_lt a b ≡ true → a < b
below a b e = grind (arith, nat_tests, e)

-- all directories
pub marked-all : (b : DirsData) (old new : Flights) (n : ℕ) → MarkedBelow b n old new → b.settings.dirs ≤ n
    → AllMayGo b.settings (net_of old) → ((src dst : Node) (k : ℕ) (m : Msg) → in_flight (net_of old) src dst k ≡ Some m
    → is_ready old src dst k ≡ true)
    → (ram : ℕ → ℕ) → AreMarked b.settings (dirs_of ram b) new
unfolding AreMarked AllMayGo
marked-all b old new n w count go ready ram src dst k m fly = by src dst (subst (λ f. in_flight f src dst k ≡ Some m) w.net fly)
  where
    plain : (src dst : Node) → is_before n dst ≡ false → in_flight (net_of old) src dst k ≡ Some m → is_ready new src dst k ≡ true
    plain s d e f = w.rest s d k e ∙ ready s d k m f

    by : (src dst : Node) → in_flight (net_of old) src dst k ≡ Some m
        → is_ready new src dst k ≡ is_deliverable b.settings (dirs_of ram b) src dst m
    by (Core c) (Dir d) f =
        let l = both (nat_lt c b.settings.cores) (nat_lt d b.settings.dirs) (go (Core c) (Dir d) k m f).link in
        let inside = below d b.settings.dirs l.1 in
        w.done ram c d k m (omega (arith, inside, count)) (below c b.settings.cores l.0) f
    by (Core c) (Core d) f = plain (Core c) (Core d) refl f
    by (Core c) Vendor f = plain (Core c) Vendor refl f
    by (Dir c) (Core d) f = plain (Dir c) (Core d) refl f
    by (Dir c) Vendor f = plain (Dir c) Vendor refl f
    by Vendor (Core d) f = plain Vendor (Core d) refl f
    by Vendor Vendor f = plain Vendor Vendor refl f
    by (Dir c) (Dir d) f = let no = (go (Dir c) (Dir d) k m f).link in absurd (cc)
    by Vendor (Dir d) f = let no = (go Vendor (Dir d) k m f).link in absurd (cc)

-- what goes to a directory belongs there
pub at-home : (b : DirsData) (old f : Flights) (d : ℕ) → net_of f ≡ net_of old → AllMayGo b.settings (net_of old)
    → (c k : ℕ) (m : Msg) → in_flight (net_of f) (Core c) (Dir d) k ≡ Some m → is_foreign (record { shape = b.settings; dir = d }) m ≡ false
unfolding AllMayGo
at-home b old f d same go c k m fly = (go (Core c) (Dir d) k m (subst (λ n. in_flight n (Core c) (Dir d) k ≡ Some m) same fly)).belongs
