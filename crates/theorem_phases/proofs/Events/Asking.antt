-- A core has at most one message to the vendor in flight: each is a request for a TID, and there is one for a core that waits for a TID.
use Rattle.std.specs.Prelude.{ℕ, zero, suc, ◌+◌, ◌≡◌, ◌≤◌, Bool, true, false, List, [], ◌∷◌, Option, Some, None}
use Rattle.std.specs.Prelude.{IfSome, is_some, get_or, nat_lt, ◌&&◌}
use Rattle.std.proofs.Common.{arith, refl, ap}
use Rattle.std.proofs.lemmas.Bool.Decides.{nat_tests}
use Rattle.rv_code.specs.Machine.{program}
use Rattle.image_load.specs.Start.{first_ram}
use Rattle.rules_maps.specs.Words.{num}
use Rattle.rules_maps.specs.Nodes.{Core, Vendor, Msg}
use Rattle.rules_maps.specs.Shape.{Shape}
use Rattle.rules_tcc.specs.State.{Link, World}
use Rattle.rules_tcc.specs.Step.{History, run}
use Rattle.theorem_serial.specs.Count.{Asks, AnyGrant, live, passes}
use Rattle.theorem_serial.specs.Invariants.{Carried, first_state}
use Rattle.theorem_serial.specs.Laws.{OneRequest}
use Rattle.theorem_serial.specs.Owners.{Grant, grants_from}
use Rattle.theorem_serial.specs.Pairs.{pair}
use Rattle.theorem_serial.specs.Tids.{waits_for_tid, RequestOf}
use Rattle.theorem_serial.specs.Ways.{Ways, first_ways, ways_from}
use Rattle.theorem_serial.proofs.Lemmas.{runs_carry, live-some}
use Rattle.theorem_live.specs.Fits.{LinksFit, KeptFits}
use Rattle.rules_maps.specs.Messages.{is_request, fits}
use Rattle.theorem_live.proofs.Lemmas.{links_fit}
use Rattle.rules_riscv.specs.Starting.{local_at_start, world_at_start}
use Rattle.theorem_phases.specs.Laws.{AsksOnce, OneRequestEach}

abbrev AllAsk : Link → Type 0
AllAsk l = (i : ℕ) (m : Msg) → get_or l i None ≡ Some m → is_request m ≡ true

asks : (m : Msg) → is_request m ≡ true → num (passes Asks m) ≡ 1
unfolding passes
asks m h = grind (arith, nat_tests)

-- one that is there counts
counts : (l : Link) (i : ℕ) (o : Option Msg) → get_or l i None ≡ o → AllAsk l → is_some o ≡ true → 1 ≤ live Asks l
counts l i None e a s = absurd (cc)
counts l i (Some m) e a s = omega (arith, live-some Asks l i m e, asks m (a i m e))

first-counts : (l : Link) (o : Option Msg) → AllAsk (o ∷ l) → is_some o ≡ true → live Asks (o ∷ l) ≡ 1 + live Asks l
unfolding live
first-counts l None a s = absurd (cc)
first-counts l (Some m) a s = omega (arith, asks m (a 0 m refl))

fewer : (l : Link) (o : Option Msg) → live Asks l ≤ live Asks (o ∷ l)
unfolding live
fewer l None = omega arith
fewer l (Some m) = omega arith

one-only : (l : Link) (k j : ℕ) → AllAsk l → live Asks l ≤ 1 → is_some (get_or l k None) ≡ true
    → is_some (get_or l j None) ≡ true → k ≡ j
one-only [] zero j a n x y = absurd (cc)
one-only [] (suc k) j a n x y = absurd (cc)
one-only (o ∷ l) zero zero a n x y = refl
one-only (o ∷ l) zero (suc j) a n x y =
    absurd (omega (arith, n, first-counts l o a x, counts l j (get_or l j None) refl (λ i m e. a (suc i) m e) y))
one-only (o ∷ l) (suc k) zero a n x y =
    absurd (omega (arith, n, first-counts l o a y, counts l k (get_or l k None) refl (λ i m e. a (suc i) m e) x))
one-only (o ∷ l) (suc k) (suc j) a n x y = ap suc (one-only l k j (λ i m e. a (suc i) m e) (omega (arith, n, fewer l o)) x y)

at-most-one : (w : World) (c : ℕ) → RequestOf (pair w c 0) → live Asks (w.net (Core c) Vendor) ≤ 1
unfolding pair
at-most-one w c r = go (waits_for_tid (w.cores c).phase) r
  where
    go : (b : Bool) → live Asks (w.net (Core c) Vendor) + live AnyGrant (w.net Vendor (Core c)) ≡ num b
        → live Asks (w.net (Core c) Vendor) ≤ 1
    go true e = omega (arith, e)
    go false e = omega (arith, e)

fits-ask : (sh : Shape) (w : World) (c : ℕ) → LinksFit sh w → AllAsk (w.net (Core c) Vendor)
unfolding fits
fits-ask sh w c f i m e = right (nat_lt c sh.cores) (is_request m) (f (Core c) Vendor i m e)
  where
    right : (a b : Bool) → (a && b) ≡ true → b ≡ true
    right true b q = q
    right false b q = absurd (cc)

one-each : (sh : Shape) (w : World) → OneRequest sh w → LinksFit sh w → AsksOnce w
one-each sh w r f c k l x y = one-only (w.net (Core c) Vendor) k l (fits-ask sh w c f) (at-most-one w c (r c 0)) x y

pub one_request_each : OneRequestEach
one_request_each s es k = go (run s.settings (program s) (world_at_start s) es)
    (links_fit s.settings (program s) (local_at_start s) (first_ram s) es (k.1.0))
    (runs_carry s.settings (program s) (local_at_start s) (first_ram s) es)
  where
    gs : List Grant
    gs = grants_from s.settings (program s) es (first_state (local_at_start s) (first_ram s))

    ys : Ways
    ys = ways_from s.settings (program s) es first_ways (first_state (local_at_start s) (first_ram s))

    go : (x : Option History) → IfSome x (λ h. KeptFits s.settings h.world) → IfSome x (λ h. Carried s.settings gs ys h)
        → IfSome x (λ h. AsksOnce h.world)
    go None a b = tt
    go (Some h) a b = one-each s.settings h.world b.one_tid_request_or_grant a.links
