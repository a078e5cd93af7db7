-- Every event keeps that messages fit their links, and so does every run.
use Rattle.std.specs.Prelude.{ℕ, ◌≡◌, ◌<◌, ◌≤◌, ◌==◌, Bool, true, false, List, [], ◌∷◌, Option, Some, None, IfSome, if◌then◌else◌}
use Rattle.std.proofs.Common.{arith, refl}
use Rattle.std.proofs.lemmas.Bool.Decides.{nat_tests}
use Rattle.tcc_base.specs.Put.{put}
use Rattle.rules_program.specs.Program.{Program, Local}
use Rattle.rules_maps.specs.Lines.{no_lines}
use Rattle.rules_maps.specs.Nodes.{Node, Core, Dir, Vendor, Event, Exec, Evict, Deliver, Msg, TidGrant}
use Rattle.rules_maps.specs.Serving.{first_serving}
use Rattle.rules_maps.specs.Shape.{Shape}
use Rattle.rules_tcc.specs.State.{DirState, World, dir_start, start}
use Rattle.rules_tcc.specs.Attempt.{Out}
use Rattle.rules_tcc.specs.CoreDeliver.{core_deliver}
use Rattle.rules_tcc.specs.CoreEvict.{core_evict}
use Rattle.rules_tcc.specs.CoreExec.{core_exec}
use Rattle.rules_tcc.specs.DirDeliver.{Answer, Waits, Drops, Asks, Takes, dir_deliver}
use Rattle.rules_tcc.specs.Links.{in_flight, taking}
use Rattle.rules_tcc.specs.VendorDeliver.{Granted, vendor_deliver}
use Rattle.rules_tcc.specs.Step.{Stepped, core_moves, core_takes, dir_takes, dir_asks, vendor_gives, if_core_moves, if_core_takes, answered}
use Rattle.rules_tcc.specs.Step.{if_vendor_gives, delivered, if_in_flight, is_node, names_nodes, happens, step, History, and_noted}
use Rattle.rules_tcc.specs.Step.{recorded, next_history, and_then, run_from, run}
use Rattle.rules_tcc.proofs.Lemmas.{Gift, Gives_none, Gives_tid, each-ask, gift, gift_sends}
use Rattle.theorem_live.specs.Fits.{KeptFits, LinksFitAlways}
use Rattle.theorem_live.proofs.CoreFits.{IsCore, Fit, fit-exec, fit-evict, fit-grant, fit-back}
use Rattle.theorem_live.proofs.DirFits.{KeptDir, FitAnswer, fit-answer}
use Rattle.theorem_live.proofs.Strays.{AllFit, LinksClean, link-none, link-fits, sending-clean, taking-clean, grant_fits, fit-to}
use Rattle.theorem_live.proofs.Strays.{fit-nothing}

-- no message is on a link that it doesn't fit, and each directory keeps what it must
pub record Clean (sh : Shape) (w : World) : Type 0 where
  pub links : LinksClean sh w.net
  pub dirs : (d : ℕ) → KeptDir sh (w.dirs d)

abbrev pub Keeps : Shape → Option Stepped → Type 0
Keeps sh o = IfSome o (λ x. Clean sh x.world)

-- the nodes' events

moves-clean : (sh : Shape) (w : World) (c : ℕ) (o : Option Out) → Clean sh w → IfSome o (Fit sh c) → Keeps sh (if_core_moves w c o)
unfolding core_moves
moves-clean sh w c None k f = tt
moves-clean sh w c (Some o) k f = record { links = sending-clean sh w.net (Core c) o.sends k.links f; dirs = k.dirs }

takes-clean : (sh : Shape) (w : World) (src : Node) (c i : ℕ) (o : Option Out) → Clean sh w → IfSome o (Fit sh c)
    → Keeps sh (if_core_takes w src c i o)
unfolding core_takes
takes-clean sh w src c i None k f = tt
takes-clean sh w src c i (Some o) k f = record {
  links = sending-clean sh (taking w.net src (Core c) i) (Core c) o.sends
      (taking-clean sh w.net src (Core c) i k.links) f;
  dirs = k.dirs;
}

put-dir : (sh : Shape) (w : World) (d : ℕ) (s : DirState) → Clean sh w → KeptDir sh s → (e : ℕ) → KeptDir sh (put w.dirs d s e)
put-dir sh w d s k h e = go (e == d)
  where
    go : (b : Bool) → KeptDir sh (if b then s else w.dirs e)
    go true = h
    go false = k.dirs e

answers-clean : (sh : Shape) (w : World) (c d i : ℕ) (a : Answer) → Clean sh w → FitAnswer sh d a → Keeps sh (answered w c d i a)
unfolding dir_takes dir_asks
answers-clean sh w c d i Waits k f = tt
answers-clean sh w c d i Drops k f = record {
  links = sending-clean sh (taking w.net (Core c) (Dir d) i) (Dir d) (λ dst. [])
      (taking-clean sh w.net (Core c) (Dir d) i k.links) (fit-nothing sh (Dir d));
  dirs = put-dir sh w d (w.dirs d) k (k.dirs d);
}
answers-clean sh w c d i (Asks s sends) k f = record {
  links = sending-clean sh w.net
      (Dir d) sends k.links f.fit;
  dirs = put-dir sh w d s k f.kept;
}
answers-clean sh w c d i (Takes s sends) k f = record {
  links = sending-clean sh (taking w.net (Core c) (Dir d) i) (Dir d) sends
      (taking-clean sh w.net (Core c) (Dir d) i k.links) f.fit;
  dirs = put-dir sh w d s k f.kept;
}

gift-fits : (sh : Shape) (n c : ℕ) (g : Gift) → c < sh.cores → AllFit sh Vendor (gift_sends g n c)
unfolding gift_sends
gift-fits sh n c Gives_tid l = fit-to sh Vendor (Core c) (TidGrant n ∷ []) (grant_fits sh c n l)
gift-fits sh n c Gives_none l = fit-nothing sh Vendor

gives-clean : (sh : Shape) (w : World) (c i : ℕ) (m : Msg) → Clean sh w → c < sh.cores
    → Keeps sh (if_vendor_gives w c i (vendor_deliver w.next c m))
unfolding vendor_gives
gives-clean sh w c i m k l = go (vendor_deliver w.next c m)
    (each-ask w.next c (λ m x. AllFit sh Vendor x.sends) (λ a. gift-fits sh w.next c (gift a) l) m)
  where
    go : (x : Option Granted) → IfSome x (λ x. AllFit sh Vendor x.sends) → Keeps sh (if_vendor_gives w c i x)
    go None h = tt
    go (Some x) h = record {
      links = sending-clean sh (taking w.net (Core c) Vendor i) Vendor x.sends (taking-clean sh w.net (Core c) Vendor i k.links) h;
      dirs = k.dirs;
    }

core-takes : (sh : Shape) (w : World) (src : Node) (c : ℕ) (m : Msg) → IsCore sh c → is_node sh src ≡ true
    → IfSome (core_deliver sh (w.cores c) src m) (Fit sh c)
unfolding core_deliver
core-takes sh w (Dir d) c m k n = fit-back sh c d (w.cores c) m k (grind (arith, nat_tests))
core-takes sh w (Core d) c m k n = tt
core-takes sh w Vendor c (TidGrant t) k n = fit-grant sh c t (w.cores c) k
core-takes sh w Vendor c m k n = tt

delivers-clean : (sh : Shape) (w : World) (src dst : Node) (i : ℕ) (m : Msg) → Clean sh w → 1 ≤ sh.dirs → is_node sh src ≡ true
    → is_node sh dst ≡ true → Keeps sh (delivered sh w src dst i m)
delivers-clean sh w src (Core c) i m k n a b = takes-clean sh w src c i (core_deliver sh (w.cores c) src m) k
    (core-takes sh w src c m (record { core = grind (arith, nat_tests); dirs = n }) a)
delivers-clean sh w (Core c) (Dir d) i m k n a b = answers-clean sh w c d i (dir_deliver sh (w.dirs d) c m) k
    (fit-answer sh d c (w.dirs d) m (grind (arith, nat_tests)) (grind (arith, nat_tests)) (k.dirs d))
delivers-clean sh w (Core c) Vendor i m k n a b = gives-clean sh w c i m k (grind (arith, nat_tests))
delivers-clean sh w _ _ i m k n a b = tt

flying-clean : (sh : Shape) (w : World) (src dst : Node) (i : ℕ) (o : Option Msg) → Clean sh w → 1 ≤ sh.dirs → is_node sh src ≡ true
    → is_node sh dst ≡ true → Keeps sh (if_in_flight sh w src dst i o)
flying-clean sh w src dst i None k n a b = tt
flying-clean sh w src dst i (Some m) k n a b = delivers-clean sh w src dst i m k n a b

happens-clean : (sh : Shape) (p : Program) (w : World) (e : Event) → Clean sh w → 1 ≤ sh.dirs → names_nodes sh e ≡ true
    → Keeps sh (happens sh p w e)
unfolding happens names_nodes
happens-clean sh p w (Exec c) k n h = moves-clean sh w c (core_exec sh p c (w.cores c)) k
    (fit-exec sh p c (w.cores c) (record { core = grind (arith, nat_tests); dirs = n }))
happens-clean sh p w (Evict c x y) k n h = moves-clean sh w c (core_evict sh x y (w.cores c)) k
    (fit-evict sh c x y (w.cores c) (record { core = grind (arith, nat_tests); dirs = n }))
happens-clean sh p w (Deliver src dst i) k n h = flying-clean sh w src dst i (in_flight w.net src dst i) k n (grind (arith, nat_tests))
    (grind (arith, nat_tests))

pub step-clean : (sh : Shape) (p : Program) (w : World) (e : Event) → Clean sh w → 1 ≤ sh.dirs → Keeps sh (step sh p w e)
unfolding step
step-clean sh p w e k n = go (names_nodes sh e) refl
  where
    go : (b : Bool) → names_nodes sh e ≡ b → Keeps sh (if b then happens sh p w e else None)
    go true q = happens-clean sh p w e k n q
    go false q = tt

-- runs

runs-clean : (sh : Shape) (p : Program) (es : List Event) (h : History) → 1 ≤ sh.dirs → Clean sh h.world
    → IfSome (run_from sh p es h) (λ g. Clean sh g.world)
unfolding run_from next_history
runs-clean sh p [] h n k = k
runs-clean sh p (e ∷ es) h n k = go (step sh p h.world e) (step-clean sh p h.world e k n) (λ g c. runs-clean sh p es g n c)
  where
    go : (x : Option Stepped) → Keeps sh x → ((g : History) → Clean sh g.world → IfSome (run_from sh p es g) (λ f. Clean sh f.world))
        → IfSome (and_then (run_from sh p es) (recorded h x)) (λ f. Clean sh f.world)
    go None q f = tt
    go (Some o) q f = f (record { world = o.world; commits = and_noted o.noted h.commits }) q

start-clean : (sh : Shape) (entries : ℕ → Local) (ram : ℕ → ℕ) → Clean sh (start entries ram)
unfolding start dir_start no_lines first_serving
start-clean sh entries ram = record {
  links = λ s d. link-none sh s d;
  dirs = λ d. record {
    owners = λ l c e. absurd
        (cc);
    serves = omega arith;
  };
}

kept-from : (sh : Shape) (w : World) → Clean sh w → KeptFits sh w
kept-from sh w k = record {
  links = λ s d i m e. link-fits sh s d (w.net s d) i m (k.links s d) e;
  owners = λ d.
      (k.dirs d).owners;
  serves = λ d. (k.dirs d).serves;
}

pub links_fit : LinksFitAlways
unfolding run
links_fit sh p entries ram es n = go (run sh p (start entries ram) es)
    (runs-clean sh p es (record { world = start entries ram; commits = [] }) n (start-clean sh entries ram))
  where
    go : (x : Option History) → IfSome x (λ g. Clean sh g.world) → IfSome x (λ g. KeptFits sh g.world)
    go None q = tt
    go (Some g) q = kept-from sh g.world q
