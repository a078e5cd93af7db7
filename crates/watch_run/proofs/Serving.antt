-- The TID that a directory serves never falls.
use Rattle.std.proofs.Common.{◌≡◌, ℕ, ◌≤◌, ◌==◌, Bool, true, false, Option, Some, None, if◌then◌else◌, refl, ap, sym, subst, ◌∙◌, arith}
use Rattle.std.specs.Prelude.{IfSome, nat_lt}
use Rattle.std.proofs.lemmas.Bool.Decides.{nat_tests}
use Rattle.tcc_base.specs.Put.{put}
use Rattle.rules_maps.specs.Nodes.{Node, Core, Dir, Vendor, Event, Exec, Evict, Deliver, Msg, Skip}
use Rattle.rules_maps.specs.Serving.{Serving, advance, kept, skipped}
use Rattle.rules_maps.specs.Shape.{Shape}
use Rattle.rules_maps.proofs.Lemmas.{advance-rises}
use Rattle.rules_program.specs.Program.{Program}
use Rattle.rules_tcc.specs.Attempt.{Out}
use Rattle.rules_tcc.specs.CoreDeliver.{core_deliver}
use Rattle.rules_tcc.specs.CoreEvict.{core_evict}
use Rattle.rules_tcc.specs.CoreExec.{core_exec}
use Rattle.rules_tcc.specs.DirDeliver.{Answer, Waits, Drops, Asks, Takes, dir_deliver, skip}
use Rattle.rules_tcc.specs.Links.{in_flight}
use Rattle.rules_tcc.specs.Sends.{nothing}
use Rattle.rules_tcc.specs.State.{DirState, World}
use Rattle.rules_tcc.specs.Step.{core_moves, core_takes, dir_takes, dir_asks, vendor_gives, if_core_moves, if_core_takes, answered}
use Rattle.rules_tcc.specs.Step.{if_vendor_gives, delivered, if_in_flight, names_nodes, happens, step}
use Rattle.rules_tcc.specs.VendorDeliver.{Granted, vendor_deliver}
use Rattle.rules_tcc.proofs.Lemmas.{if-step}
use Rattle.theorem_serial.proofs.Lemmas.{MarkedBy, Stays, Clears, Skipped, Marks, dir-marked}

-- ---- a directory's answer

abbrev ServesOn : DirState → Answer → Type 0
ServesOn s Waits = Unit {0}
ServesOn s Drops = Unit {0}
ServesOn s (Asks t sends) = s.serving.serving ≤ t.serving.serving
ServesOn s (Takes t sends) = s.serving.serving ≤ t.serving.serving

skipped-stays : (t : ℕ) (s : Serving) → s.serving ≤ (skipped t s).serving
unfolding skipped kept
skipped-stays t s = go (nat_lt t s.serving) (s.serving == t)
  where
    go : (a b : Bool) → s.serving ≤ (if a then s else if b then advance s else kept t s).serving
    go true b = omega arith
    go false true = omega (arith, advance-rises s)
    go false false = omega arith

skip-stays : (t : ℕ) (s : DirState) → ServesOn s (skip t s)
unfolding skip
skip-stays t s = go (nat_lt t s.serving.serving)
  where
    go : (b : Bool) → ServesOn s (if b then Drops else Takes (record s { serving = skipped t s.serving }) nothing)
    go true = tt
    go false = skipped-stays t s.serving

skip-answer-stays : (sh : Shape) (s : DirState) (c t : ℕ) → ServesOn s (dir_deliver sh s c (Skip t))
unfolding dir_deliver
skip-answer-stays sh s c t = skip-stays t s

answer-stays : (sh : Shape) (s : DirState) (c : ℕ) (m : Msg) → ServesOn s (dir_deliver sh s c m)
answer-stays sh s c m = go (dir_deliver sh s c m) refl (dir-marked sh s c m)
  where
    go : (a : Answer) → dir_deliver sh s c m ≡ a → MarkedBy s m a → ServesOn s a
    go Waits e k = tt
    go Drops e k = tt
    go (Asks t x) e k = let (same, marks) = k in omega (arith, same)
    go (Takes t x) e (Stays same f g) = omega (arith, same)
    go (Takes t x) e (Clears more f g) = omega (arith, more)
    go (Takes t x) e (Skipped q f) =
        subst (ServesOn s) (ap (dir_deliver sh s c) (sym q) ∙ e) (skip-answer-stays sh s c s.serving.serving)
    go (Takes t x) e (Marks l i q same f) = omega (arith, same)

-- ---- an event

abbrev pub StaysBelow : (w v : World) → Type 0
StaysBelow w v = (d : ℕ) → (w.dirs d).serving.serving ≤ (v.dirs d).serving.serving

put-stays : (w : World) (d : ℕ) (s : DirState) → (w.dirs d).serving.serving ≤ s.serving.serving → (j : ℕ)
    → (w.dirs j).serving.serving ≤ (put w.dirs d s j).serving.serving
put-stays w d s h j = go (j == d) refl
  where
    go : (b : Bool) → (j == d) ≡ b → (w.dirs j).serving.serving ≤ (if b then s else w.dirs j).serving.serving
    go true q = let same : j ≡ d = grind (arith, nat_tests) in rw same h
    go false q = omega arith

moves-stays : (w : World) (c : ℕ) (o : Option Out) → IfSome (if_core_moves w c o) (λ t. StaysBelow w t.world)
unfolding core_moves
moves-stays w c None = tt
moves-stays w c (Some o) = λ d. omega arith

takes-stays : (w : World) (src : Node) (c k : ℕ) (o : Option Out) → IfSome (if_core_takes w src c k o) (λ t. StaysBelow w t.world)
unfolding core_takes
takes-stays w src c k None = tt
takes-stays w src c k (Some o) = λ d. omega arith

gives-stays : (w : World) (c k : ℕ) (g : Option Granted) → IfSome (if_vendor_gives w c k g) (λ t. StaysBelow w t.world)
unfolding vendor_gives
gives-stays w c k None = tt
gives-stays w c k (Some g) = λ d. omega arith

answered-stays : (w : World) (c d k : ℕ) (a : Answer) → ServesOn (w.dirs d) a → IfSome (answered w c d k a) (λ t. StaysBelow w t.world)
unfolding dir_takes dir_asks
answered-stays w c d k Waits h = tt
answered-stays w c d k Drops h = put-stays w d (w.dirs d) (omega arith)
answered-stays w c d k (Asks s sends) h = put-stays w d s h
answered-stays w c d k (Takes s sends) h = put-stays w d s h

delivered-stays : (sh : Shape) (w : World) (src dst : Node) (k : ℕ) (m : Msg)
    → IfSome (delivered sh w src dst k m) (λ t. StaysBelow w t.world)
delivered-stays sh w src (Core c) k m = takes-stays w src c k (core_deliver sh (w.cores c) src m)
delivered-stays sh w (Core c) (Dir d) k m = answered-stays w c d k (dir_deliver sh (w.dirs d) c m) (answer-stays sh (w.dirs d) c m)
delivered-stays sh w (Core c) Vendor k m = gives-stays w c k (vendor_deliver w.next c m)
delivered-stays sh w (Dir e) (Dir d) k m = tt
delivered-stays sh w Vendor (Dir d) k m = tt
delivered-stays sh w (Dir e) Vendor k m = tt
delivered-stays sh w Vendor Vendor k m = tt

flying-stays : (sh : Shape) (w : World) (src dst : Node) (k : ℕ) (o : Option Msg)
    → IfSome (if_in_flight sh w src dst k o) (λ t. StaysBelow w t.world)
flying-stays sh w src dst k None = tt
flying-stays sh w src dst k (Some m) = delivered-stays sh w src dst k m

happens-stays : (sh : Shape) (p : Program) (w : World) (e : Event) → IfSome (happens sh p w e) (λ t. StaysBelow w t.world)
unfolding happens
happens-stays sh p w (Exec c) = moves-stays w c (core_exec sh p c (w.cores c))
happens-stays sh p w (Evict c x y) = moves-stays w c (core_evict sh x y (w.cores c))
happens-stays sh p w (Deliver src dst k) = flying-stays sh w src dst k (in_flight w.net src dst k)

pub step-stays : (sh : Shape) (p : Program) (w : World) (e : Event) → IfSome (step sh p w e) (λ t. StaysBelow w t.world)
unfolding step
step-stays sh p w e = if-step (names_nodes sh e) (happens sh p w e) (λ t. StaysBelow w t.world) (happens-stays sh p w e)
