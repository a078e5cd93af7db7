-- A core has at most one request in flight, behind those that were delivered.
use Rattle.std.proofs.Common.{◌≡◌, ℕ, zero, suc, ◌+◌, Bool, true, false, cond, ◌&&◌, ◌==◌, List, [], ◌∷◌, ◌++◌, Option, Some, None}
use Rattle.std.proofs.Common.{is_some, append-nil, refl, ap, sym, ◌∙◌, subst, arith, ⊎_elim}
use Rattle.std.specs.Prelude.{IsSome, slice_index_or, slice_set, if◌then◌else◌}
use Rattle.std.proofs.lemmas.Bool.Decides.{nat_tests}
use Rattle.rules_maps.specs.Nodes.{Node, Core, Dir, Vendor, Msg, Event, Exec, Evict, Deliver, node_eq}
use Rattle.rules_maps.specs.Shape.{Shape}
use Rattle.rules_program.specs.Program.{Program}
use Rattle.rules_tcc.specs.Laws.{ActsOnOne, Grows}
use Rattle.rules_tcc.specs.Links.{in_flight, sent_all, taking}
use Rattle.rules_tcc.specs.State.{Link, World}
use Rattle.rules_tcc.specs.Step.{Stepped, if_vendor_gives, happens, if_in_flight, names_nodes, step, vendor_gives}
use Rattle.rules_tcc.specs.VendorDeliver.{Granted, vendor_deliver}
use Rattle.theorem_phases.specs.Laws.{asks}
use Rattle.tcc_phase.specs.Requests.{IsAsked}
use Rattle.theorem_phases.proofs.Lemmas.{untaken}

-- ---- one link

abbrev pub AtMostOne : Link → Type 0
AtMostOne l = (k j : ℕ) → IsSome (slice_index_or l k None) → IsSome (slice_index_or l j None) → k ≡ j

-- what is in flight has the number of the next one
pub asked-at : (l : Link) (n k : ℕ) → IsAsked l n → IsSome (slice_index_or l k None) → k ≡ n
unfolding IsAsked
asked-at [] n k a s = absurd (cc)
asked-at (None ∷ ms) zero k a s = absurd a
asked-at (None ∷ ms) (suc n) zero a s = absurd (cc)
asked-at (None ∷ ms) (suc n) (suc k) a s = ap suc (asked-at ms n k a s)
asked-at (Some m ∷ ms) zero zero a s = refl
asked-at (Some m ∷ ms) zero (suc k) a s = absurd (none (subst (λ l. IsSome (slice_index_or l k None)) a s))
  where
    none : IsSome (slice_index_or {A = Option Msg} [] k None) → ⊥
    none q = cc
asked-at (Some m ∷ ms) (suc n) k a s = absurd a

-- one that is sent is the only one
pub asked-sends : (l : Link) (n : ℕ) (more : List Msg) → IsAsked l n → AtMostOne (l ++ sent_all more) → IsAsked (l ++ sent_all more) n
unfolding IsAsked sent_all
asked-sends [] n [] a o = a
asked-sends [] n (m ∷ []) a o = subst (IsAsked (Some m ∷ [])) (sym a) refl
asked-sends [] n (m ∷ x ∷ more) a o = absurd (let e = o 0 1 refl refl in cc)
asked-sends (None ∷ ms) zero more a o = absurd a
asked-sends (None ∷ ms) (suc n) more a o = asked-sends ms n more a (λ k j s t. let e = o (suc k) (suc j) s t in omega (arith, e))
asked-sends (Some m ∷ ms) zero [] a o = append-nil ms ∙ a
asked-sends (Some m ∷ ms) zero (x ∷ more) a o =
    absurd (let e = o 0 1 refl (subst (λ l. IsSome (slice_index_or (l ++ sent_all (x ∷ more)) 0 None)) (sym a) refl) in cc)
asked-sends (Some m ∷ ms) (suc n) more a o = absurd a

-- once it is delivered the next one has the next number
pub asked-taken : (l : Link) (n : ℕ) → IsAsked l n → IsSome (slice_index_or l n None) → IsAsked (slice_set l n None) (suc n)
unfolding IsAsked
asked-taken [] n a s = absurd (cc)
asked-taken (None ∷ ms) zero a s = absurd a
asked-taken (None ∷ ms) (suc n) a s = asked-taken ms n a s
asked-taken (Some m ∷ ms) zero a s = subst (λ l. IsAsked l 0) (sym a) refl
asked-taken (Some m ∷ ms) (suc n) a s = absurd a

-- ---- one event

-- a link that only grows
grown : (at : Node) (c n : ℕ) (old new : Link) → Grows at (Core c) old new → IsAsked old n → AtMostOne new → IsAsked new n
grown at c n old new (more, e, q) a o =
    subst (λ l. IsAsked l n) (sym e) (asked-sends old n more a (subst AtMostOne e o))

unlike : (net : Node → Node → Link) (src : Node) (c k : ℕ) → node_eq (Core c) src ≡ false
    → taking net src Vendor k (Core c) Vendor ≡ net (Core c) Vendor
unlike net src c k e = ap (λ b. if b && true then slice_set (net (Core c) Vendor) k None else net (Core c) Vendor) e

either-way : (w v : World) (src dst : Node) (c n k : ℕ) → taking w.net src dst k (Core c) Vendor ≡ w.net (Core c) Vendor
    → ActsOnOne w (Deliver src dst k) v → IsAsked (w.net (Core c) Vendor) n → AtMostOne (v.net (Core c) Vendor)
    → IsAsked (v.net (Core c) Vendor) n
either-way w v src dst c n k same acts a o =
    ⊎_elim (λ g. grown dst c n (w.net (Core c) Vendor) (v.net (Core c) Vendor) (g (Core c) Vendor) a o)
    (λ g. grown dst c n (w.net (Core c) Vendor) (v.net (Core c) Vendor)
    (subst (λ l. Grows dst (Core c) l (v.net (Core c) Vendor)) same (g (Core c) Vendor)) a o) acts.links.1

after-grant : (w : World) (c d n k : ℕ) (g : Option Granted) (o : Stepped) → if_vendor_gives w d k g ≡ Some o
    → IsSome (in_flight w.net (Core d) Vendor k) → IsAsked (w.net (Core c) Vendor) n
    → IsAsked (o.world.net (Core c) Vendor) (if c == d then n + 1 else n)
unfolding vendor_gives
after-grant w c d n k None o e s a = absurd (cc)
after-grant w c d n k (Some g) o e s a = subst (λ v. IsAsked (v.net (Core c) Vendor) (if c == d then n + 1 else n)) world (go (c == d) refl)
  where
    world : vendor_gives w d k g ≡ o.world
    world = ap (λ (p : Option Stepped). of p) e
      where
        of : Option Stepped → World
        of None = w
        of (Some p) = p.world

    one-more : (m : ℕ) → suc m ≡ m + 1
    one-more m = omega arith

    go : (b : Bool) → (c == d) ≡ b
        → IsAsked (if b && true then slice_set (w.net (Core c) Vendor) k None else w.net (Core c) Vendor) (if b then n + 1 else n)
    go false q = a
    go true q =
        let same : d ≡ c = grind (arith, nat_tests) in
        let t : IsSome (slice_index_or (w.net (Core c) Vendor) k None) = subst (λ x. IsSome (in_flight w.net (Core x) Vendor k)) same s in
        let at : k ≡ n = asked-at (w.net (Core c) Vendor) n k a t in
        subst (λ m. IsAsked (slice_set (w.net (Core c) Vendor) k None) m) (one-more n)
        (subst (λ m. IsAsked (slice_set (w.net (Core c) Vendor) m None) (suc n)) (sym at)
        (asked-taken (w.net (Core c) Vendor) n a (subst (λ m. IsSome (slice_index_or (w.net (Core c) Vendor) m None)) at t)))

after-delivery : (sh : Shape) (w : World) (c d n k : ℕ) (m : Option Msg) (o : Stepped) → in_flight w.net (Core d) Vendor k ≡ m
    → if_in_flight sh w (Core d) Vendor k m ≡ Some o → IsAsked (w.net (Core c) Vendor) n
    → IsAsked (o.world.net (Core c) Vendor) (if c == d then n + 1 else n)
after-delivery sh w c d n k None o f e a = absurd (cc)
after-delivery sh w c d n k (Some m) o f e a = after-grant w c d n k (vendor_deliver w.next d m) o e (ap is_some f) a

named : (b : Bool) (o : Option Stepped) (s : Stepped) → cond b o None ≡ Some s → (b ≡ true) × (o ≡ Some s)
named true o s e = (refl, e)
named false o s e = absurd (cc)

pub asked-after : (sh : Shape) (p : Program) (w : World) (e : Event) (o : Stepped) → step sh p w e ≡ Some o → ActsOnOne w e o.world
    → (c n : ℕ) → IsAsked (w.net (Core c) Vendor) n → AtMostOne (o.world.net (Core c) Vendor)
    → IsAsked (o.world.net (Core c) Vendor) (if asks c e then n + 1 else n)
unfolding step happens
asked-after sh p w (Exec d) o s acts c n a one = grown (Core d) c n _ _ (acts.links (Core c) Vendor) a one
asked-after sh p w (Evict d x y) o s acts c n a one = grown (Core d) c n _ _ (acts.links (Core c) Vendor) a one
asked-after sh p w (Deliver src (Core d) k) o s acts c n a one =
    rw (to-core src) (either-way w o.world src (Core d) c n k (untaken w.net src (Core d) c k refl) acts a one)
  where
    to-core : (src : Node) → asks c (Deliver src (Core d) k) ≡ false
    to-core (Core e) = refl
    to-core (Dir e) = refl
    to-core Vendor = refl
asked-after sh p w (Deliver src (Dir d) k) o s acts c n a one =
    rw (to-dir src) (either-way w o.world src (Dir d) c n k (untaken w.net src (Dir d) c k refl) acts a one)
  where
    to-dir : (src : Node) → asks c (Deliver src (Dir d) k) ≡ false
    to-dir (Core e) = refl
    to-dir (Dir e) = refl
    to-dir Vendor = refl
asked-after sh p w (Deliver (Dir d) Vendor k) o s acts c n a one =
    either-way w o.world (Dir d) Vendor c n k (unlike w.net (Dir d) c k refl) acts a one
asked-after sh p w (Deliver Vendor Vendor k) o s acts c n a one =
    either-way w o.world Vendor Vendor c n k (unlike w.net Vendor c k refl) acts a one
asked-after sh p w (Deliver (Core d) Vendor k) o s acts c n a one =
    after-delivery sh w c d n k (in_flight w.net (Core d) Vendor k) o refl
    (named (names_nodes sh (Deliver (Core d) Vendor k)) (happens sh p w (Deliver (Core d) Vendor k)) o s).1 a

-- at the start nothing was sent
pub asked-none : IsAsked [] 0
unfolding IsAsked
asked-none = refl
