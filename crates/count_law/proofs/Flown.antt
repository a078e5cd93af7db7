-- Each event leaves as many messages of a kind in flight as there were, with those that it sent and without the one that left.
use Rattle.std.proofs.Common.{◌≡◌, ◌+◌, ℕ, zero, suc, Bool, true, false, List, [], ◌∷◌, ◌++◌, Option, Some, None, IfSome}
use Rattle.std.proofs.Common.{if◌then◌else◌, length, refl, ap, arith}
use Rattle.std.specs.Prelude.{slice_set}
use Rattle.tcc_base.specs.declared.access.Commit.{Commit as Noted}
use Rattle.base_lemmas.proofs.Lemmas.{and-both}
use Rattle.rules_maps.specs.Nodes.{Node, Core, Dir, Vendor, Msg, Event, Exec, Evict, Deliver}
use Rattle.rules_maps.specs.Shape.{Shape}
use Rattle.rules_program.specs.Program.{Program}
use Rattle.rules_tcc.specs.Attempt.{Out}
use Rattle.rules_tcc.specs.CoreDeliver.{core_deliver}
use Rattle.rules_tcc.specs.CoreEvict.{core_evict}
use Rattle.rules_tcc.specs.CoreExec.{core_exec}
use Rattle.rules_tcc.specs.DirDeliver.{Answer, Waits, Drops, Asks, Takes, dir_deliver}
use Rattle.rules_tcc.specs.Links.{in_flight, sending, taking}
use Rattle.rules_tcc.specs.Sends.{Sends}
use Rattle.rules_tcc.specs.State.{Link, World}
use Rattle.rules_tcc.specs.Step.{History, Stepped, core_moves, core_takes, dir_takes, dir_asks, vendor_gives, if_core_moves, is_node}
use Rattle.rules_tcc.specs.Step.{if_core_takes, answered, if_vendor_gives, delivered, if_in_flight, names_nodes, happens, step}
use Rattle.rules_tcc.specs.VendorDeliver.{Granted, vendor_deliver}
use Rattle.watch.specs.Facts.{Fact, Took, Dropped, AskedOwner}
use Rattle.watch.specs.Happened.{actor, commit_fact, moved, sent, acted, facts_of}
use Rattle.watch.specs.Happened.{if_in_flight as told_if_in_flight, delivered as told_delivered}
use Rattle.watch.specs.Instructions.{executed, evicted}
use Rattle.watch.specs.Messages.{answered as told_answered}
use Rattle.count_law.specs.Messages.{flying}
use Rattle.count_law.proofs.Flights.{as_one, flying-sent, flying-taken}
use Rattle.count_law.proofs.Heard.{all_sends, all_ends, all_sends-append, all_ends-append}
use Rattle.count_law.proofs.Said.{Says, commit-says, moved-says, sent-ends, sent-sends, exec-says, evict-says, deliver-says}
use Rattle.net_core.proofs.Lemmas.{length-taking}

-- from the links of one state to those of the next, with these facts
abbrev pub Flown : Shape → (kind : ℕ) → (w v : World) → List Fact → Type 0
Flown sh k w v fs = flying sh k v.net + all_ends k fs ≡ flying sh k w.net + all_sends k fs

-- node a acted on links from which so many messages had left
flown : (sh : Shape) (k x : ℕ) (w v : World) (net : Node → Node → Link) (a : Node) (sends : Sends) (fs : List Fact) (m : Option Noted)
    → v.net ≡ sending net a sends → is_node sh a ≡ true → ((d : Node) → length (net a d) ≡ length (w.net a d))
    → flying sh k net + x ≡ flying sh k w.net → Says k fs x
    → Flown sh k w v (fs ++ (commit_fact m ++ (moved w v a ++ sent sh w v a)))
flown sh k x w v net a sends fs m e node same left says =
    let noted = commit-says k m in
    let came = moved-says k w v a in
    omega (
      arith,
      all_ends-append k fs (commit_fact m ++ (moved w v a ++ sent sh w v a)),
      all_ends-append k (commit_fact m) (moved w v a ++ sent sh w v a),
      all_ends-append k (moved w v a) (sent sh w v a),
      all_sends-append k fs (commit_fact m ++ (moved w v a ++ sent sh w v a)),
      all_sends-append k (commit_fact m) (moved w v a ++ sent sh w v a),
      all_sends-append k (moved w v a) (sent sh w v a),
      says.sends,
      says.ends,
      noted.sends,
      noted.ends,
      came.sends,
      came.ends,
      sent-ends sh k w v a,
      sent-sends sh k w v net a sends e same,
      ap (flying sh k) e,
      flying-sent sh k net a sends node,
      left,
    )

length-set : (l : Link) (i : ℕ) → length (slice_set l i None) ≡ length l
length-set [] i = refl
length-set (x ∷ xs) zero = refl
length-set (x ∷ xs) (suc i) = ap (λ n. suc n) (length-set xs i)

-- after a step of node a, at which this happened
abbrev After : Shape → (kind : ℕ) → (w : World) → (a : Node) → (World → List Fact) → Stepped → Type 0
After sh k w a facts t =
    Flown sh k w t.world (facts t.world ++ (commit_fact t.noted ++ (moved w t.world a ++ sent sh w t.world a)))

moves-flown : (sh : Shape) (k : ℕ) (w : World) (c : ℕ) (facts : World → List Fact) (o : Option Out) → is_node sh (Core c) ≡ true
    → ((v : World) → Says k (facts v) 0) → IfSome (if_core_moves w c o) (After sh k w (Core c) facts)
unfolding core_moves
moves-flown sh k w c facts None node says = tt
moves-flown sh k w c facts (Some o) node says =
    let v = core_moves w c o in
    flown sh k 0 w v w.net (Core c) o.sends (facts v) o.commit refl node (λ d. refl) (omega arith) (says v)

-- message i from src is taken by node a, which sends
takes-flown : (sh : Shape) (k : ℕ) (w v : World) (src a : Node) (i : ℕ) (m : Msg) (x : ℕ) (sends : Sends) (fs : List Fact)
    (c : Option Noted) → is_node sh src ≡ true → is_node sh a ≡ true → in_flight w.net src a i ≡ Some m
    → v.net ≡ sending (taking w.net src a i) a sends → x ≡ as_one k (Some m) → Says k fs x
    → Flown sh k w v (fs ++ (commit_fact c ++ (moved w v a ++ sent sh w v a)))
takes-flown sh k w v src a i m x sends fs c from node e net one says =
    flown sh k x w v (taking w.net src a i) a sends fs c net node (length-taking w.net src a i a)
    (omega (arith, flying-taken sh k w.net src a i m from node e, one)) says

core-flown : (sh : Shape) (k : ℕ) (w : World) (src : Node) (c i : ℕ) (m : Msg) (facts : World → List Fact) (o : Option Out)
    → is_node sh src ≡ true → is_node sh (Core c) ≡ true → in_flight w.net src (Core c) i ≡ Some m
    → ((v : World) → Says k (facts v) (as_one k (Some m) + 0)) → IfSome (if_core_takes w src c i o) (After sh k w (Core c) facts)
unfolding core_takes
core-flown sh k w src c i m facts None from node e says = tt
core-flown sh k w src c i m facts (Some o) from node e says =
    let v = core_takes w src c i o in
    takes-flown sh k w v src (Core c) i m (as_one k (Some m) + 0) o.sends (facts v) o.commit from node e refl (omega arith) (says v)

answers-flown : (sh : Shape) (k : ℕ) (w : World) (c d i : ℕ) (m : Msg) (a : Answer) → is_node sh (Core c) ≡ true
    → is_node sh (Dir d) ≡ true → in_flight w.net (Core c) (Dir d) i ≡ Some m
    → IfSome (answered w c d i a) (After sh k w (Dir d) (λ v. told_answered m a))
unfolding dir_takes dir_asks all_sends all_ends
answers-flown sh k w c d i m Waits from node e = tt
answers-flown sh k w c d i m Drops from node e =
    let v = dir_takes w c d i (w.dirs d) (λ dst. []) in
    takes-flown sh k w v (Core c) (Dir d) i m (as_one k (Some m) + 0) (λ dst. []) (Dropped m ∷ []) None from node e refl (omega arith)
    (record { sends = refl; ends = refl })
answers-flown sh k w c d i m (Asks s sends) from node e =
    let v = dir_asks w d s sends in
    flown sh k 0 w v w.net (Dir d) sends (AskedOwner m ∷ []) None refl node (λ n. refl) (omega arith) (record { sends = refl; ends = refl })
answers-flown sh k w c d i m (Takes s sends) from node e =
    let v = dir_takes w c d i s sends in
    takes-flown sh k w v (Core c) (Dir d) i m (as_one k (Some m) + 0) sends (Took m ∷ []) None from node e refl (omega arith)
    (record { sends = refl; ends = refl })

gives-flown : (sh : Shape) (k : ℕ) (w : World) (c i : ℕ) (m : Msg) (g : Option Granted) → is_node sh (Core c) ≡ true
    → in_flight w.net (Core c) Vendor i ≡ Some m → IfSome (if_vendor_gives w c i g) (After sh k w Vendor (λ v. Took m ∷ []))
unfolding vendor_gives all_sends all_ends
gives-flown sh k w c i m None from e = tt
gives-flown sh k w c i m (Some g) from e =
    takes-flown sh k w (vendor_gives w c i g) (Core c) Vendor i m (as_one k (Some m) + 0) g.sends (Took m ∷ []) None from refl e refl
    (omega arith) (record { sends = refl; ends = refl })

delivers-flown : (sh : Shape) (k : ℕ) (cs : List Noted) (w : World) (src dst : Node) (i : ℕ) (m : Msg) → is_node sh src ≡ true
    → is_node sh dst ≡ true → in_flight w.net src dst i ≡ Some m
    → IfSome (delivered sh w src dst i m) (After sh k w dst (λ v. told_delivered sh cs w v src dst m))
delivers-flown sh k cs w src (Core c) i m from node e =
    core-flown sh k w src c i m (λ v. told_delivered sh cs w v src (Core c) m) (core_deliver sh (w.cores c) src m) from node e
    (λ v. deliver-says k c cs src m (w.cores c) (v.cores c))
delivers-flown sh k cs w (Core c) (Dir d) i m from node e = answers-flown sh k w c d i m (dir_deliver sh (w.dirs d) c m) from node e
delivers-flown sh k cs w (Core c) Vendor i m from node e = gives-flown sh k w c i m (vendor_deliver w.next c m) from e
delivers-flown sh k cs w _ _ i m from node e = tt

happens-flown : (sh : Shape) (p : Program) (k : ℕ) (h : History) (e : Event) → names_nodes sh e ≡ true
    → IfSome (happens sh p h.world e) (After sh k h.world (actor e) (λ v. acted sh p h.commits h.world v e))
unfolding happens names_nodes
happens-flown sh p k h (Exec c) node =
    let s = h.world.cores c in
    moves-flown sh k h.world c (λ v. executed sh p c s (v.cores c)) (core_exec sh p c s) node (λ v. exec-says sh p k c s (v.cores c))
happens-flown sh p k h (Evict c x y) node =
    let s = h.world.cores c in
    moves-flown sh k h.world c (λ v. evicted c x y s) (core_evict sh x y s) (and-both (is_node sh (Core c)) _ node).0
    (λ v. evict-says k c x y s)
happens-flown sh p k h (Deliver src dst i) node = go (in_flight h.world.net src dst i) refl
  where
    ends : (is_node sh src ≡ true) × (is_node sh dst ≡ true)
    ends = and-both (is_node sh src) (is_node sh dst) node

    go : (m : Option Msg) → in_flight h.world.net src dst i ≡ m
        → IfSome (if_in_flight sh h.world src dst i m)
        (After sh k h.world dst (λ v. told_if_in_flight sh h.commits h.world v src dst m))
    go None e = tt
    go (Some m) e = delivers-flown sh k h.commits h.world src dst i m ends.0 ends.1 e

pub step-flown : (sh : Shape) (p : Program) (k : ℕ) (h : History) (e : Event)
    → IfSome (step sh p h.world e) (λ t. Flown sh k h.world t.world (facts_of sh p h e (Some t)))
unfolding step
step-flown sh p k h e = go (names_nodes sh e) refl
  where
    go : (b : Bool) → names_nodes sh e ≡ b
        → IfSome (if b then happens sh p h.world e else None) (λ t. Flown sh k h.world t.world (facts_of sh p h e (Some t)))
    go true f = happens-flown sh p k h e f
    go false f = tt
