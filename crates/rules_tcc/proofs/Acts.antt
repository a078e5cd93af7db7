-- An event acts on one node.
use Rattle.std.proofs.Common.{◌≡◌, ℕ, Bool, true, false, cond, inl, inr, List, [], ◌++◌, Option, Some, None, is_some, append-nil, refl, ap}
use Rattle.std.proofs.Common.{sym, arith}
use Rattle.std.specs.Prelude.{IfSome, IsSome}
use Rattle.std.proofs.lemmas.Bool.Decides.{nat_tests}
use Rattle.tcc_base.specs.Put.{put}
use Rattle.rules_program.specs.Program.{Program}
use Rattle.rules_maps.specs.Nodes.{Node, Core, Dir, Vendor, Msg, Event, Exec, Evict, Deliver, node_eq}
use Rattle.rules_maps.specs.Shape.{Shape}
use Rattle.rules_tcc.specs.State.{DirState, World, Link}
use Rattle.rules_tcc.specs.Links.{in_flight, sent_all, sending, taking}
use Rattle.rules_tcc.specs.Sends.{Sends}
use Rattle.rules_tcc.specs.Attempt.{Out}
use Rattle.rules_tcc.specs.CoreExec.{core_exec}
use Rattle.rules_tcc.specs.CoreEvict.{core_evict}
use Rattle.rules_tcc.specs.CoreDeliver.{core_deliver}
use Rattle.rules_tcc.specs.DirDeliver.{Answer, Waits, Drops, Asks, Takes, dir_deliver}
use Rattle.rules_tcc.specs.VendorDeliver.{Granted, vendor_deliver}
use Rattle.rules_tcc.specs.Step.{Stepped, core_moves, core_takes, dir_takes, dir_asks, vendor_gives, if_core_moves, if_core_takes, answered}
use Rattle.rules_tcc.specs.Step.{if_vendor_gives, delivered, if_in_flight, names_nodes, happens, step}
use Rattle.rules_tcc.specs.Laws.{ActsOnOne, Grows}

grows-if : (n s : Node) (old : Link) (ms : List Msg) (b : Bool) → node_eq s n ≡ b → Grows n s old (cond b (old ++ sent_all ms) old)
unfolding sent_all
grows-if n s old ms true e = (ms, refl, λ f. absurd (cc))
grows-if n s old ms false e = ([], sym (append-nil old), λ f. refl)

grows-sending : (net : Node → Node → Link) (n s d : Node) (sends : Sends) → Grows n s (net s d) (sending net n sends s d)
grows-sending net n s d sends = grows-if n s (net s d) (sends d) (node_eq s n) refl

put-other : {A : Type 0} (f : ℕ → A) (i : ℕ) (v : A) (j : ℕ) → node_eq (Core i) (Core j) ≡ false → put f i v j ≡ f j
put-other f i v j h = grind (arith, nat_tests)

exec-acts : (w : World) (c : ℕ) (o : Option Out) → IfSome (if_core_moves w c o) (λ t. ActsOnOne w (Exec c) t.world)
unfolding core_moves
exec-acts w c None = tt
exec-acts w c (Some o) =
    record {
      cores = λ j h. put-other w.cores c o.core j h;
      dirs = λ j h. refl;
      vendor = λ h. refl;
      links = λ s d. grows-sending w.net (Core c) s d o.sends;
    }

evict-acts : (w : World) (c x y : ℕ) (o : Option Out) → IfSome (if_core_moves w c o) (λ t. ActsOnOne w (Evict c x y) t.world)
unfolding core_moves
evict-acts w c x y None = tt
evict-acts w c x y (Some o) = record {
  cores = λ j h. put-other w.cores c o.core j h;
  dirs = λ j h. refl;
  vendor = λ h. refl;
  links = λ s d. grows-sending w.net (Core c) s d o.sends;
}

taken-acts : (w : World) (src : Node) (c k : ℕ) (o : Option Out) → IsSome (in_flight w.net src (Core c) k)
    → IfSome (if_core_takes w src c k o) (λ t. ActsOnOne w (Deliver src (Core c) k) t.world)
unfolding core_takes
taken-acts w src c k None f = tt
taken-acts w src c k (Some o) f = record {
  cores = λ j h. put-other w.cores c o.core j h;
  dirs = λ j h. refl;
  vendor = λ h. refl;
  links = (f, inr (λ s d. grows-sending (taking w.net src (Core c) k) (Core c) s d o.sends));
}

dir_takes-acts : (w : World) (c d k : ℕ) (s : DirState) (sends : Sends) → IsSome (in_flight w.net (Core c) (Dir d) k)
    → ((j : ℕ) → node_eq (Dir d) (Dir j) ≡ false → put w.dirs d s j ≡ w.dirs j)
    → ActsOnOne w (Deliver (Core c) (Dir d) k) (dir_takes w c d k s sends)
unfolding dir_takes
dir_takes-acts w c d k s sends f h = record {
  cores = λ j i. refl;
  dirs = h;
  vendor = λ i. refl;
  links = (f, inr (λ t e. grows-sending (taking w.net (Core c) (Dir d) k) (Dir d) t e sends));
}

answered-acts : (w : World) (c d k : ℕ) (a : Answer) → IsSome (in_flight w.net (Core c) (Dir d) k)
    → IfSome (answered w c d k a) (λ t. ActsOnOne w (Deliver (Core c) (Dir d) k) t.world)
unfolding dir_asks
answered-acts w c d k Waits f = tt
answered-acts w c d k Drops f = dir_takes-acts w c d k (w.dirs d) (λ dst. []) f (λ j h. put-other w.dirs d (w.dirs d) j h)
answered-acts w c d k (Takes s sends) f = dir_takes-acts w c d k s sends f (λ j h. put-other w.dirs d s j h)
answered-acts w c d k (Asks s sends) f = record {
  cores = λ j h. refl;
  dirs = λ j h. put-other w.dirs d s j h;
  vendor = λ h. refl;
  links = (f, inl (λ t e. grows-sending w.net (Dir d) t e sends));
}

granted-acts : (w : World) (c k : ℕ) (g : Option Granted) → IsSome (in_flight w.net (Core c) Vendor k)
    → IfSome (if_vendor_gives w c k g) (λ t. ActsOnOne w (Deliver (Core c) Vendor k) t.world)
unfolding vendor_gives
granted-acts w c k None f = tt
granted-acts w c k (Some g) f = record {
  cores = λ j h. refl;
  dirs = λ j h. refl;
  vendor = λ h. absurd (cc);
  links = (f, inr (λ s d. grows-sending (taking w.net (Core c) Vendor k) Vendor s d g.sends));
}

delivered-acts : (sh : Shape) (w : World) (src dst : Node) (k : ℕ) (m : Msg) → IsSome (in_flight w.net src dst k)
    → IfSome (delivered sh w src dst k m) (λ t. ActsOnOne w (Deliver src dst k) t.world)
delivered-acts sh w src (Core c) k m f = taken-acts w src c k (core_deliver sh (w.cores c) src m) f
delivered-acts sh w (Core c) (Dir d) k m f = answered-acts w c d k (dir_deliver sh (w.dirs d) c m) f
delivered-acts sh w (Core c) Vendor k m f = granted-acts w c k (vendor_deliver w.next c m) f
delivered-acts sh w (Dir e) (Dir d) k m f = tt
delivered-acts sh w Vendor (Dir d) k m f = tt
delivered-acts sh w (Dir e) Vendor k m f = tt
delivered-acts sh w Vendor Vendor k m f = tt

in_flight-acts : (sh : Shape) (w : World) (src dst : Node) (k : ℕ) (o : Option Msg) → in_flight w.net src dst k ≡ o
    → IfSome (if_in_flight sh w src dst k o) (λ t. ActsOnOne w (Deliver src dst k) t.world)
in_flight-acts sh w src dst k None e = tt
in_flight-acts sh w src dst k (Some m) e = delivered-acts sh w src dst k m (ap is_some e)

happens-acts : (sh : Shape) (p : Program) (w : World) (e : Event) → IfSome (happens sh p w e) (λ t. ActsOnOne w e t.world)
unfolding happens
happens-acts sh p w (Exec c) = exec-acts w c (core_exec sh p c (w.cores c))
happens-acts sh p w (Evict c x y) = evict-acts w c x y (core_evict sh x y (w.cores c))
happens-acts sh p w (Deliver src dst k) = in_flight-acts sh w src dst k (in_flight w.net src dst k) refl

-- a fact of every state after an event that names what exists
pub if-step : (b : Bool) (o : Option Stepped) (P : Stepped → Type 0) → IfSome o P → IfSome (cond b o None) P
if-step true o P h = h
if-step false o P h = tt

pub step-acts : (sh : Shape) (p : Program) (w : World) (e : Event) → IfSome (step sh p w e) (λ t. ActsOnOne w e t.world)
unfolding step
step-acts sh p w e = if-step (names_nodes sh e) (happens sh p w e) (λ t. ActsOnOne w e t.world) (happens-acts sh p w e)
