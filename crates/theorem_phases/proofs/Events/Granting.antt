-- What is granted by one more event: the next TID, to the core whose request is delivered; and such an event notes no commit.
use Rattle.std.specs.Prelude.{ℕ, ◌≡◌, Bool, true, false, List, [], ◌∷◌, ◌++◌, Contains, Option, Some, None}
use Rattle.std.specs.Prelude.{IfSome, IsSome, if◌then◌else◌}
use Rattle.std.proofs.Common.{arith, refl, ap, sym, append_assoc, ◌∙◌}
use Rattle.std.proofs.lemmas.List.{append-nil}
use Rattle.image_load.specs.Start.{Start}
use Rattle.rules_program.specs.Program.{Program}
use Rattle.rules_maps.specs.Nodes.{Core, Vendor, Event, Deliver, Msg, TidReq}
use Rattle.rules_maps.specs.Shape.{Shape}
use Rattle.rules_tcc.specs.Links.{in_flight}
use Rattle.rules_tcc.specs.State.{World}
use Rattle.rules_tcc.specs.Step.{History, Stepped, if_vendor_gives, if_in_flight, names_nodes, happens, step, next_history, and_then}
use Rattle.rules_tcc.specs.Step.{run_from}
use Rattle.rules_tcc.specs.VendorDeliver.{Granted, vendor_deliver}
use Rattle.theorem_serial.specs.Owners.{Grant, grant_for, granted_by, then_grants, grants_from}
use Rattle.rules_phases.specs.Phased.{is_late, is_held}
use Rattle.theorem_serial.proofs.Lemmas.{only-one}

-- one more event along a run

-- where it happens, what it grants stands behind what was granted before
abbrev pub GrantsMore : Shape → Program → (old new : List Grant) → Event → History → Type 0
GrantsMore sh p old new e g = IsSome (next_history sh p g e) → new ≡ old ++ granted_by g.world e

pub grants-snoc : (sh : Shape) (p : Program) (es : List Event) (e : Event) (h : History)
    → IfSome (run_from sh p es h) (GrantsMore sh p (grants_from sh p es h) (grants_from sh p (es ++ e ∷ []) h) e)
unfolding run_from grants_from
grants-snoc sh p [] e h = go (next_history sh p h e)
  where
    go : (x : Option History) → IsSome x → then_grants (granted_by h.world e) (grants_from sh p []) x ≡ [] ++ granted_by h.world e
    go None i = absurd (cc)
    go (Some g) i = append-nil (granted_by h.world e)
grants-snoc sh p (f ∷ es) e h = go (next_history sh p h f) (grants-snoc sh p es e)
  where
    gs : List Grant
    gs = granted_by h.world f

    old : History → List Grant
    old = grants_from sh p es

    new : History → List Grant
    new = grants_from sh p (es ++ e ∷ [])

    after : (g : History) (y : Option History) → IfSome y (GrantsMore sh p (old g) (new g) e)
        → IfSome y (GrantsMore sh p (gs ++ old g) (gs ++ new g) e)
    after g None k = tt
    after g (Some r) k = λ i. ap (λ more. gs ++ more) (k i) ∙ sym (append_assoc gs (old g) (granted_by r.world e))

    go : (x : Option History) → ((g : History) → IfSome (run_from sh p es g) (GrantsMore sh p (old g) (new g) e))
        → IfSome (and_then (run_from sh p es) x) (GrantsMore sh p (then_grants gs old x) (then_grants gs new x) e)
    go None k = tt
    go (Some g) k = after g (run_from sh p es g) (k g)

-- what it grants

pub none-in : (g : Grant) → Contains [] g → ⊥
none-in g c = omega (arith, c.1)

-- the next TID, to a core that isn't late
pub record Granting (s : Start) (h : History) (t c : ℕ) : Type 0 where
  pub tid : t ≡ h.world.next
  pub late : is_late s h c ≡ false

pub granting : (s : Start) (h : History) (e : Event) (t c : ℕ) → is_held s h e ≡ false
    → Contains (granted_by h.world e) (record { tid = t; core = c }) → Granting s h t c
unfolding is_held
granting s h (Deliver (Core j) Vendor k) t c n i = go (in_flight h.world.net (Core j) Vendor k) i
  where
    same : ◌≡◌ {A = Grant} (record { tid = h.world.next; core = j }) (record { tid = t; core = c }) → Granting s h t c
    same e = record { tid = sym (ap (λ g. g.tid) e); late = rw (ap (λ g. g.core) e) at n }

    go : (m : Option Msg) → Contains (grant_for h.world.next j m) (record { tid = t; core = c }) → Granting s h t c
    go (Some TidReq) i = same (only-one (record { tid = h.world.next; core = j }) (record { tid = t; core = c }) i)
    go _ i = absurd (none-in (record { tid = t; core = c }) i)
granting s h _ t c n i = absurd (none-in (record { tid = t; core = c }) i)

-- and notes nothing

abbrev Silent : Option Stepped → Type 0
Silent o = IfSome o (λ t. t.noted ≡ None)

granted-silent : (w : World) (c k : ℕ) (g : Option Granted) → Silent (if_vendor_gives w c k g)
granted-silent w c k None = tt
granted-silent w c k (Some g) = refl

asking-silent : (sh : Shape) (w : World) (c k : ℕ) (m : Option Msg) → Silent (if_in_flight sh w (Core c) Vendor k m)
asking-silent sh w c k None = tt
asking-silent sh w c k (Some m) = granted-silent w c k (vendor_deliver w.next c m)

pub granting-silent : (sh : Shape) (p : Program) (w : World) (e : Event) (g : Grant) → Contains (granted_by w e) g
    → Silent (step sh p w e)
unfolding step happens
granting-silent sh p w (Deliver (Core c) Vendor k) g i = go (names_nodes sh (Deliver (Core c) Vendor k))
  where
    go : (b : Bool) → Silent (if b then if_in_flight sh w (Core c) Vendor k (in_flight w.net (Core c) Vendor k) else None)
    go true = asking-silent sh w c k (in_flight w.net (Core c) Vendor k)
    go false = tt
granting-silent sh p w _ g i = absurd (none-in g i)
