-- An event of a node keeps the node in bounds, and sends what its links carry.
use Rattle.std.specs.Prelude.{ℕ, ◌+◌, ◌^◌, ◌≡◌, ◌<◌, ◌≤◌, ◌==◌, Bool, true, false, [], ◌∷◌, All, Option, Some, None, IfSome, if◌then◌else◌}
use Rattle.std.proofs.Common.{arith, refl, subst}
use Rattle.std.proofs.lemmas.Bool.Decides.{nat_tests}
use Rattle.tcc_base.specs.Limits.{run_limit}
use Rattle.rv_code.specs.Machine.{program}
use Rattle.theorem_riscv.proofs.Lemmas.{riscv_programs_suit}
use Rattle.rules_program.specs.Program.{Program}
use Rattle.rules_maps.specs.Nodes.{Core, Dir, Vendor, Event, Exec, Evict, Deliver, Msg, TidReq, TidGrant}
use Rattle.rules_maps.specs.Shape.{Shape}
use Rattle.rules_tcc.specs.Attempt.{Out}
use Rattle.rules_tcc.specs.CoreDeliver.{core_deliver}
use Rattle.rules_tcc.specs.CoreEvict.{core_evict}
use Rattle.rules_tcc.specs.CoreExec.{core_exec}
use Rattle.rules_tcc.specs.DirDeliver.{Answer, Waits, Drops, Asks, Takes, dir_deliver}
use Rattle.rules_tcc.specs.Local.{NodeState, AtCore, AtDir, AtVendor, at_node, acted, answer_acted, grant_acted, act}
use Rattle.rules_tcc.specs.Sends.{to}
use Rattle.rules_tcc.specs.State.{DirState}
use Rattle.rules_tcc.specs.VendorDeliver.{vendor_deliver}
use Rattle.theorem_serial.specs.InMemory.{StaysInMemory}
use Rattle.rules_maps.specs.Messages.{fits}
use Rattle.rules_apart.specs.Carried.{IsCarried}
use Rattle.theorem_apart.specs.Apart.{DirApart, NodeInBounds, EachCarried, ActsInBounds}
use Rattle.theorem_apart.specs.Laws.{BringsCarried, NodesStayInBounds, RiscvNodesStayInBounds}
use Rattle.theorem_apart.proofs.Cores.{CoreActs, exec-acts, evict-acts, takes-acts}
use Rattle.theorem_apart.proofs.Dirs.{ActsBy, answers-act}
use Rattle.theorem_apart.proofs.sends.Each.{each-all, each-none, each-one}

-- by kind of node

core-acted : (sh : Shape) (n c : ℕ) (consumes : Bool) (x : Option Out) → IfSome x (CoreActs sh n c)
    → IfSome (acted consumes x) (ActsInBounds sh (n + 1) (Core c))
core-acted sh n c consumes None h = tt
core-acted sh n c consumes (Some o) h = record { state = h.apart; sends = h.sends }

dir-acted : (sh : Shape) (n d : ℕ) (s : DirState) (a : Answer) → DirApart sh d s → ActsBy sh d a
    → IfSome (answer_acted s a) (ActsInBounds sh (n + 1) (Dir d))
dir-acted sh n d s Waits k h = tt
dir-acted sh n d s Drops k h = record { state = k; sends = λ dst x e i. absurd (omega (arith, i)) }
dir-acted sh n d s (Asks r sends) k h = record { state = h.apart; sends = h.sends }
dir-acted sh n d s (Takes r sends) k h = record { state = h.apart; sends = h.sends }

-- a grant goes to the core that asked
grant-carried : (sh : Shape) (c t : ℕ) → IsCarried sh (Core c) Vendor TidReq → 1 ≤ t → t < 2 ^ 62
    → IsCarried sh Vendor (Core c) (TidGrant t)
unfolding fits
grant-carried sh c t b i l = record { fits = b.fits; line = tt; tid = (i, l) }

grant-sends : (sh : Shape) (c t : ℕ) → IsCarried sh (Core c) Vendor TidReq → 1 ≤ t → t < 2 ^ 62
    → EachCarried sh Vendor (to (Core c) (TidGrant t ∷ []))
grant-sends sh c t b i l (Dir d) = each-all (IsCarried sh Vendor (Dir d)) [] (each-none (IsCarried sh Vendor (Dir d)))
grant-sends sh c t b i l Vendor = each-all (IsCarried sh Vendor Vendor) [] (each-none (IsCarried sh Vendor Vendor))
grant-sends sh c t b i l (Core j) = go (j == c) refl
  where
    granted : j ≡ c → IsCarried sh Vendor (Core j) (TidGrant t)
    granted q = rw q (grant-carried sh c t b i l)

    go : (x : Bool) → (j == c) ≡ x → All (IsCarried sh Vendor (Core j)) (if x then TidGrant t ∷ [] else [])
    go false e = each-all (IsCarried sh Vendor (Core j)) [] (each-none (IsCarried sh Vendor (Core j)))
    go true e = each-all (IsCarried sh Vendor (Core j)) (TidGrant t ∷ [])
        (each-one (IsCarried sh Vendor (Core j)) (TidGrant t) (granted (grind (arith, nat_tests))))

vendor-acted : (sh : Shape) (n c t : ℕ) (m : Msg) → n < run_limit → IsCarried sh (Core c) Vendor m → t ≡ n + 1
    → IfSome (grant_acted (vendor_deliver t c m)) (ActsInBounds sh (n + 1) Vendor)
vendor-acted sh n c t TidReq l b k =
    record { state = omega (arith, k); sends = grant-sends sh c t b (omega (arith, k)) (omega (arith, k, l)) }
vendor-acted sh n c t _ l b k = tt

-- by event

stays : (sh : Shape) (p : Program) (n : ℕ) (s : NodeState) (e : Event) (m : Option Msg) → 1 ≤ sh.dirs → StaysInMemory sh p
    → n < run_limit → NodeInBounds sh n (at_node e) s → BringsCarried sh e m → IfSome (act sh p s e m) (ActsInBounds sh (n + 1) (at_node e))
stays sh p n (AtCore s) (Exec c) m d i l k b = core-acted sh n c false (core_exec sh p c s) (exec-acts sh p n c s d i k)
stays sh p n (AtCore s) (Evict c x y) m d i l k b = core-acted sh n c false (core_evict sh x y s) (evict-acts sh n c x y s d k)
stays sh p n (AtCore s) (Deliver src dst j) None d i l k b = tt
stays sh p n (AtCore s) (Deliver src (Core c) j) (Some m) d i l k b =
    core-acted sh n c true (core_deliver sh s src m) (takes-acts sh n c src s m d b k)
stays sh p n (AtCore s) (Deliver src (Dir e) j) (Some m) d i l k b = absurd k
stays sh p n (AtCore s) (Deliver src Vendor j) (Some m) d i l k b = absurd k
stays sh p n (AtDir s) (Exec c) m d i l k b = tt
stays sh p n (AtDir s) (Evict c x y) m d i l k b = tt
stays sh p n (AtDir s) (Deliver src dst j) None d i l k b = tt
stays sh p n (AtDir s) (Deliver (Core c) (Dir e) j) (Some m) d i l k b =
    dir-acted sh n e s (dir_deliver sh s c m) k (answers-act sh c e s m b k)
stays sh p n (AtDir s) (Deliver (Core c) (Core e) j) (Some m) d i l k b = absurd k
stays sh p n (AtDir s) (Deliver (Core c) Vendor j) (Some m) d i l k b = absurd k
stays sh p n (AtDir s) (Deliver (Dir e) dst j) (Some m) d i l k b = tt
stays sh p n (AtDir s) (Deliver Vendor dst j) (Some m) d i l k b = tt
stays sh p n (AtVendor t) (Exec c) m d i l k b = tt
stays sh p n (AtVendor t) (Evict c x y) m d i l k b = tt
stays sh p n (AtVendor t) (Deliver src dst j) None d i l k b = tt
stays sh p n (AtVendor t) (Deliver (Core c) Vendor j) (Some m) d i l k b = vendor-acted sh n c t m l b k
stays sh p n (AtVendor t) (Deliver (Core c) (Core e) j) (Some m) d i l k b = absurd k
stays sh p n (AtVendor t) (Deliver (Core c) (Dir e) j) (Some m) d i l k b = absurd k
stays sh p n (AtVendor t) (Deliver (Dir e) dst j) (Some m) d i l k b = tt
stays sh p n (AtVendor t) (Deliver Vendor dst j) (Some m) d i l k b = tt

pub nodes_stay : NodesStayInBounds
nodes_stay sh p d i done n s e m l q g k b = subst
    (λ x. NodeInBounds sh done x s → IfSome (act sh p s e m) (ActsInBounds sh (done + 1) x)) q (λ h. stays sh p done s e m d i l h b) k

pub riscv_nodes_stay : RiscvNodesStayInBounds
riscv_nodes_stay s a = let u = riscv_programs_suit s a in nodes_stay s.settings (program s) u.dirs u.inside
