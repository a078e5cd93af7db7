-- A core that has halted stays so.
use Rattle.std.specs.Prelude.{ℕ, ◌≡◌, ◌==◌, Bool, true, false, Option, Some, None, IfSome, if◌then◌else◌}
use Rattle.std.proofs.Common.{arith, refl}
use Rattle.std.proofs.lemmas.Bool.Decides.{nat_tests}
use Rattle.rules_program.specs.Program.{Program}
use Rattle.rules_maps.specs.Nodes.{Node, Core, Dir, Vendor, Event, Exec, Evict, Deliver, Msg}
use Rattle.rules_maps.specs.Shape.{Shape}
use Rattle.rules_tcc.specs.State.{CoreState, Phase, Halted, World}
use Rattle.rules_tcc.specs.Attempt.{Out}
use Rattle.rules_tcc.specs.CoreDeliver.{core_deliver, grant, probe_reply, fill, data_request, invalidate, acknowledged, if_violated}
use Rattle.rules_tcc.specs.CoreDeliver.{words_invalidated}
use Rattle.rules_tcc.specs.CoreEvict.{core_evict}
use Rattle.rules_tcc.specs.CoreExec.{core_exec}
use Rattle.rules_tcc.specs.DirDeliver.{Answer, Waits, Drops, Asks, Takes, dir_deliver}
use Rattle.rules_tcc.specs.Links.{in_flight}
use Rattle.rules_tcc.specs.Step.{Stepped, core_moves, core_takes, dir_takes, dir_asks, vendor_gives, if_core_moves, if_core_takes, answered}
use Rattle.rules_tcc.specs.Step.{if_vendor_gives}
use Rattle.rules_tcc.specs.Step.{delivered, if_in_flight, names_nodes, happens, step}
use Rattle.rules_tcc.specs.VendorDeliver.{Granted, vendor_deliver}

-- the phase after an event, where it is enabled
abbrev phase_in : Option Out → Phase
phase_in None = Halted
phase_in (Some o) = o.core.phase

exec-halted : (sh : Shape) (p : Program) (c : ℕ) (s : CoreState) → s.phase ≡ Halted → phase_in (core_exec sh p c s) ≡ Halted
unfolding core_exec
exec-halted sh p c s e = rw e refl

evict-halted : (sh : Shape) (x y : ℕ) (s : CoreState) → s.phase ≡ Halted → phase_in (core_evict sh x y s) ≡ Halted
unfolding core_evict
evict-halted sh x y s e = grind (arith, nat_tests)

deliver-halted : (sh : Shape) (s : CoreState) (n : Node) (m : Msg) → s.phase ≡ Halted → phase_in (core_deliver sh s n m) ≡ Halted
unfolding core_deliver grant probe_reply fill data_request invalidate acknowledged if_violated words_invalidated
deliver-halted sh s n m e = grind (arith, nat_tests)

-- in the whole machine

abbrev pub StayHalted : World → World → Type 0
StayHalted w v = (j : ℕ) → (w.cores j).phase ≡ Halted → (v.cores j).phase ≡ Halted

abbrev Stay : World → Option Stepped → Type 0
Stay w o = IfSome o (λ t. StayHalted w t.world)

put-halted : (w : World) (c : ℕ) (s : CoreState) → ((w.cores c).phase ≡ Halted → s.phase ≡ Halted) → (j : ℕ)
    → (w.cores j).phase ≡ Halted
    → (if j == c then s else w.cores j).phase ≡ Halted
put-halted w c s f j e = go (j == c) refl
  where
    go : (b : Bool) → (j == c) ≡ b → (if b then s else w.cores j).phase ≡ Halted
    go true q = let z : j ≡ c = grind (arith, nat_tests) in f (rw z at e)
    go false q = e

moved-stays : (w : World) (c : ℕ) (o : Option Out) → ((w.cores c).phase ≡ Halted → phase_in o ≡ Halted) → Stay w (if_core_moves w c o)
unfolding core_moves
moved-stays w c None f = tt
moved-stays w c (Some o) f = put-halted w c o.core f

taken-stays : (w : World) (src : Node) (c k : ℕ) (o : Option Out) → ((w.cores c).phase ≡ Halted → phase_in o ≡ Halted)
    → Stay w (if_core_takes w src c k o)
unfolding core_takes
taken-stays w src c k None f = tt
taken-stays w src c k (Some o) f = put-halted w c o.core f

answered-stays : (w : World) (c d k : ℕ) (a : Answer) → Stay w (answered w c d k a)
unfolding dir_takes dir_asks
answered-stays w c d k Waits = tt
answered-stays w c d k Drops = λ j e. e
answered-stays w c d k (Asks s sends) = λ j e. e
answered-stays w c d k (Takes s sends) = λ j e. e

granted-stays : (w : World) (c k : ℕ) (g : Option Granted) → Stay w (if_vendor_gives w c k g)
unfolding vendor_gives
granted-stays w c k None = tt
granted-stays w c k (Some g) = λ j e. e

delivered-stays : (sh : Shape) (w : World) (src dst : Node) (k : ℕ) (m : Msg) → Stay w (delivered sh w src dst k m)
delivered-stays sh w src (Core c) k m = taken-stays w src c k (core_deliver sh (w.cores c) src m) (deliver-halted sh (w.cores c) src m)
delivered-stays sh w (Core c) (Dir d) k m = answered-stays w c d k (dir_deliver sh (w.dirs d) c m)
delivered-stays sh w (Core c) Vendor k m = granted-stays w c k (vendor_deliver w.next c m)
delivered-stays sh w _ _ k m = tt

flying-stays : (sh : Shape) (w : World) (src dst : Node) (k : ℕ) (m : Option Msg) → Stay w (if_in_flight sh w src dst k m)
flying-stays sh w src dst k None = tt
flying-stays sh w src dst k (Some m) = delivered-stays sh w src dst k m

happens-stays : (sh : Shape) (p : Program) (w : World) (e : Event) → Stay w (happens sh p w e)
unfolding happens
happens-stays sh p w (Exec c) = moved-stays w c (core_exec sh p c (w.cores c)) (exec-halted sh p c (w.cores c))
happens-stays sh p w (Evict c x y) = moved-stays w c (core_evict sh x y (w.cores c)) (evict-halted sh x y (w.cores c))
happens-stays sh p w (Deliver src dst k) = flying-stays sh w src dst k (in_flight w.net src dst k)

pub step-stays : (sh : Shape) (p : Program) (w : World) (e : Event) → Stay w (step sh p w e)
unfolding step
step-stays sh p w e = go (names_nodes sh e)
  where
    go : (b : Bool) → Stay w (if b then happens sh p w e else None)
    go true = happens-stays sh p w e
    go false = tt
