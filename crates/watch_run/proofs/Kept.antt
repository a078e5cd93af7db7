-- A run of the rules beside one whose commits are forgotten once all directories have passed their TIDs: it does the same.
use Rattle.std.proofs.Common.{◌≡◌, ℕ, ◌<◌, ◌≤◌, ◌==◌, ◌&&◌, Bool, true, false, not, List, [], ◌∷◌, ◌++◌, Option, Some, None}
use Rattle.std.proofs.Common.{if◌then◌else◌, refl, ap, sym, subst, ◌∙◌, arith}
use Rattle.std.specs.Prelude.{IfSome, nat_lt}
use Rattle.std.proofs.lemmas.Bool.Decides.{nat_tests}
use Rattle.image_load.specs.Start.{Start, first_ram}
use Rattle.rv_code.specs.Machine.{program}
use Rattle.tcc_base.specs.declared.access.Commit.{Commit as Noted}
use Rattle.rules_program.specs.Program.{Program}
use Rattle.rules_maps.specs.Nodes.{Node, Core, Dir, Vendor, Event, Exec, Evict, Deliver, Msg, Inv}
use Rattle.rules_maps.specs.Shape.{Shape}
use Rattle.rules_maps.specs.Words.{num}
use Rattle.rules_riscv.specs.Starting.{at_start, local_at_start, world_at_start}
use Rattle.rules_tcc.specs.CoreDeliver.{core_deliver}
use Rattle.rules_tcc.specs.Links.{in_flight}
use Rattle.rules_tcc.specs.State.{CoreState, World}
use Rattle.rules_tcc.specs.Step.{History, Stepped, and_noted, happens, insert_commit, is_node, names_nodes, next_history, recorded, run}
use Rattle.rules_tcc.specs.Step.{step}
use Rattle.theorem_riscv.specs.Given.{TidsOf, grants_of}
use Rattle.theorem_riscv.proofs.Lemmas.{committed_tids_were_granted_once}
use Rattle.theorem_serial.specs.Count.{InvsNot, passes}
use Rattle.theorem_serial.specs.Invariants.{Carried}
use Rattle.theorem_serial.specs.Owners.{Grant, times}
use Rattle.theorem_serial.specs.Ways.{Ways}
use Rattle.theorem_serial.proofs.Lemmas.{live-some, runs_carry}
use Rattle.watch.specs.Facts.{Violated}
use Rattle.watch.specs.Happened.{acted, actor, commit_fact, delivered, facts_of, happened, if_in_flight, moved, sent}
use Rattle.watch.specs.Messages.{commit_of, committer, given_up, grant_given_up, taken, tid_in, violated, words_read}
use Rattle.watch_trace.proofs.Lemmas.{run-more}
use Rattle.watch_run.specs.Forgetting.{IsKeptOf}
use Rattle.watch_run.proofs.Named.{of-none, of-other, of-own, times-insert}
use Rattle.watch_run.proofs.Serving.{StaysBelow, step-stays}

-- ---- invalidations are of the served TID

abbrev InvsServed : World → Type 0
InvsServed w = (c d k l m t : ℕ) → in_flight w.net (Dir d) (Core c) k ≡ Some (Inv l m t) → (w.dirs d).serving.serving ≤ t

invs-served : (sh : Shape) (gs : List Grant) (ys : Ways) (h : History) → Carried sh gs ys h → InvsServed h.world
unfolding passes
invs-served sh gs ys h r c d k l m t e = go (t == serving) refl
    (omega (arith, live-some (InvsNot serving) (h.world.net (Dir d) (Core c)) k (Inv l m t) e, r.owed_counts_invs_and_acks.served c d))
  where
    serving : ℕ
    serving = (h.world.dirs d).serving.serving

    go : (b : Bool) → (t == serving) ≡ b → num (not b) ≤ 0 → serving ≤ t
    go true q z = grind (arith, nat_tests)
    go false q z = absurd (omega (arith, z))

reached-served : (s : Start) (es : List Event) (h : History) → run s.settings (program s) (world_at_start s) es ≡ Some h
    → InvsServed h.world
reached-served s es h r =
    invs-served s.settings _ _ h (rw r at (runs_carry s.settings (program s) (local_at_start s) (first_ram s) es))

-- ---- the facts of an event

violated-same : (c : ℕ) (cs ds : List Noted) (m : Msg) (s t : CoreState)
    → ((l k u : ℕ) → m ≡ Inv l k u → commit_of u cs ≡ commit_of u ds) → violated c cs m s t ≡ violated c ds m s t
violated-same c cs ds (Inv l k u) s t h =
    ap (λ o. if nat_lt 0 s.n && t.n == 0
    then Violated c (committer o) u l (words_read l k s) s.n s.phase ∷ given_up c (tid_in s.phase)
    else []) (h l k u refl)
violated-same c cs ds m s t h = refl

-- an invalidation comes to a core from a directory that exists
from-dir : (sh : Shape) (p : Program) (w : World) (src : Node) (c k l m u : ℕ) (o : Stepped)
    → in_flight w.net src (Core c) k ≡ Some (Inv l m u) → step sh p w (Deliver src (Core c) k) ≡ Some o
    → (d : ℕ) × (src ≡ Dir d) × (d < sh.dirs)
unfolding step names_nodes happens core_deliver
from-dir sh p w (Dir d) c k l m u o f e = (d, refl, go (nat_lt d sh.dirs) refl e)
  where
    go : (b : Bool) → nat_lt d sh.dirs ≡ b
        → (if b && is_node sh (Core c) then happens sh p w (Deliver (Dir d) (Core c) k) else None) ≡ Some o → d < sh.dirs
    go true q x = grind (arith, nat_tests)
    go false q x = absurd (cc)
from-dir sh p w (Core j) c k l m u o f e = absurd (go (is_node sh (Core j) && is_node sh (Core c)) (rw f at e))
  where
    go : (b : Bool) → (if b then None else None) ≡ Some o → ⊥
    go true x = cc
    go false x = cc
from-dir sh p w Vendor c k l m u o f e = absurd (go (is_node sh (Core c)) (rw f at e))
  where
    go : (b : Bool) → (if b then None else None) ≡ Some o → ⊥
    go true x = cc
    go false x = cc

-- the same is known of the commit of each TID that some directory hasn't passed
abbrev AreNamedAlike : Shape → World → (cs ds : List Noted) → Type 0
AreNamedAlike sh w cs ds = (d t : ℕ) → d < sh.dirs → (w.dirs d).serving.serving ≤ t → commit_of t cs ≡ commit_of t ds

delivered-same : (sh : Shape) (p : Program) (w v : World) (cs ds : List Noted) (src dst : Node) (k : ℕ) (m : Msg) (o : Stepped)
    → AreNamedAlike sh w cs ds → InvsServed w → in_flight w.net src dst k ≡ Some m → step sh p w (Deliver src dst k) ≡ Some o
    → delivered sh cs w v src dst m ≡ delivered sh ds w v src dst m
delivered-same sh p w v cs ds src (Core c) k m o a served f e =
    ap (λ fs. taken src m (w.cores c) ++ (fs ++ grant_given_up c m (w.cores c).phase))
    (violated-same c cs ds m (w.cores c) (v.cores c) named)
  where
    named : (l i u : ℕ) → m ≡ Inv l i u → commit_of u cs ≡ commit_of u ds
    named l i u q =
        let there : in_flight w.net src (Core c) k ≡ Some (Inv l i u) = f ∙ ap (λ x. Some x) q in
        let (d, is, dl) = from-dir sh p w src c k l i u o there e in
        a d u dl (served c d k l i u (subst (λ n. in_flight w.net n (Core c) k ≡ Some (Inv l i u)) is there))
delivered-same sh p w v cs ds (Core c) (Dir d) k m o a served f e = refl
delivered-same sh p w v cs ds (Core c) Vendor k m o a served f e = refl
delivered-same sh p w v cs ds (Dir c) (Dir d) k m o a served f e = refl
delivered-same sh p w v cs ds (Dir c) Vendor k m o a served f e = refl
delivered-same sh p w v cs ds Vendor (Dir d) k m o a served f e = refl
delivered-same sh p w v cs ds Vendor Vendor k m o a served f e = refl

acted-same : (sh : Shape) (p : Program) (w v : World) (cs ds : List Noted) (e : Event) (o : Stepped)
    → AreNamedAlike sh w cs ds → InvsServed w → step sh p w e ≡ Some o → acted sh p cs w v e ≡ acted sh p ds w v e
acted-same sh p w v cs ds (Exec c) o a served e = refl
acted-same sh p w v cs ds (Evict c x y) o a served e = refl
acted-same sh p w v cs ds (Deliver src dst k) o a served e = go (in_flight w.net src dst k) refl
  where
    go : (m : Option Msg) → in_flight w.net src dst k ≡ m → if_in_flight sh cs w v src dst m ≡ if_in_flight sh ds w v src dst m
    go None f = refl
    go (Some m) f = delivered-same sh p w v cs ds src dst k m o a served f e

-- with these commits beside the same state an event does the same
happened-same : (sh : Shape) (p : Program) (w : World) (cs ds : List Noted) (e : Event) → AreNamedAlike sh w cs ds → InvsServed w
    → happened sh p (record { world = w; commits = cs }) e ≡ happened sh p (record { world = w; commits = ds }) e
unfolding happened
happened-same sh p w cs ds e a served = go (step sh p w e) refl
  where
    go : (o : Option Stepped) → step sh p w e ≡ o
        → facts_of sh p (record { world = w; commits = cs }) e o ≡ facts_of sh p (record { world = w; commits = ds }) e o
    go None q = refl
    go (Some o) q =
        ap (λ fs. fs ++ (commit_fact o.noted ++ (moved w o.world (actor e) ++ sent sh w o.world (actor e))))
        (acted-same sh p w o.world cs ds e o a served q)

-- ---- and what is known of its commits stays the same

noted-same : (sh : Shape) (w v : World) (cs ds : List Noted) (noted : Option Noted) → AreNamedAlike sh w cs ds → StaysBelow w v
    → IfSome noted (λ c. times c.tid.0 ds ≡ 0) → AreNamedAlike sh v (and_noted noted cs) (and_noted noted ds)
noted-same sh w v cs ds None a stay new d t dl le = a d t dl (let s = stay d in omega (arith, s, le))
noted-same sh w v cs ds (Some c) a stay new d t dl le = go (c.tid.0 == t) refl
  where
    alike : commit_of t cs ≡ commit_of t ds
    alike = a d t dl (let s = stay d in omega (arith, s, le))

    go : (b : Bool) → (c.tid.0 == t) ≡ b → commit_of t (insert_commit c cs) ≡ commit_of t (insert_commit c ds)
    go false q = of-other t c cs q ∙ alike ∙ sym (of-other t c ds q)
    go true q =
        let is : c.tid.0 ≡ t = grind (arith, nat_tests) in
        let none : commit_of c.tid.0 ds ≡ None = of-none c.tid.0 ds new in
        let own : commit_of c.tid.0 (insert_commit c cs) ≡ commit_of c.tid.0 (insert_commit c ds) =
        of-own c cs (subst (λ u. commit_of u cs ≡ commit_of u ds) (sym is) alike ∙ none) ∙ sym (of-own c ds none) in
        subst (λ u. commit_of u (insert_commit c cs) ≡ commit_of u (insert_commit c ds)) is own

-- a commit that an event notes is the first of its TID
noted-new : (s : Start) (es : List Event) (e : Event) (h : History) (o : Stepped)
    → run s.settings (program s) (world_at_start s) es ≡ Some h → step s.settings (program s) h.world e ≡ Some o
    → IfSome o.noted (λ c. times c.tid.0 h.commits ≡ 0)
unfolding next_history run
noted-new s es e h o r q = go o.noted refl
  where
    next : (n : Option Noted) → o.noted ≡ n → run s.settings (program s) (world_at_start s) (es ++ e ∷ [])
        ≡ Some (record { world = o.world; commits = and_noted n h.commits })
    next n is = run-more s.settings (program s) es e (at_start s) h r ∙ ap (recorded h) q
        ∙ ap (λ x. Some (record { world = o.world; commits = and_noted x h.commits })) is

    go : (n : Option Noted) → o.noted ≡ n → IfSome n (λ c. times c.tid.0 h.commits ≡ 0)
    go None is = tt
    go (Some c) is =
        let tids : TidsOf (grants_of s (es ++ e ∷ [])) (insert_commit c h.commits) =
        rw (next (Some c) is) at (committed_tids_were_granted_once s (es ++ e ∷ [])) in
        let once : times c.tid.0 (insert_commit c h.commits) ≤ 1 = tids.once c.tid.0 in
        let more = times-insert c.tid.0 c h.commits in
        let same : (c.tid.0 == c.tid.0) ≡ true = grind (arith, nat_tests) in
        let one : num (c.tid.0 == c.tid.0) ≡ 1 = rw same refl in
        omega (arith, once, more, one)

-- ---- one event

-- the event does in the whole history what it does in what is kept of it, and leads to a history of which that is kept to which it led
pub record GoesAlong (s : Start) (kept h now : History) (e : Event) : Type 0 where
  pub later : History
  pub next : next_history s.settings (program s) h e ≡ Some later
  pub keeps : IsKeptOf s.settings now later
  pub facts : happened s.settings (program s) kept e ≡ happened s.settings (program s) h e

abbrev after_step : History → Stepped → History
after_step h o = record { world = o.world; commits = and_noted o.noted h.commits }

pub goes-along : (s : Start) (es : List Event) (e : Event) (kept h now : History)
    → run s.settings (program s) (world_at_start s) es ≡ Some h → IsKeptOf s.settings kept h
    → next_history s.settings (program s) kept e ≡ Some now → GoesAlong s kept h now e
unfolding next_history
goes-along s es e kept h now r k n =
    go (step s.settings (program s) h.world e) refl (ap (λ w. recorded kept (step s.settings (program s) w e)) (sym k.world) ∙ n)
  where
    go : (o : Option Stepped) → step s.settings (program s) h.world e ≡ o → recorded kept o ≡ Some now → GoesAlong s kept h now e
    go None q m = absurd (cc)
    go (Some o) q m =
        let is : after_step kept o ≡ now = cc in
        let alike = noted-same s.settings h.world o.world kept.commits h.commits o.noted k.commits
        (rw q at (step-stays s.settings (program s) h.world e)) (noted-new s es e h o r q) in
        record {
          later = after_step h o;
          next = ap (recorded h) q;
          keeps = subst (λ x. IsKeptOf s.settings x (after_step h o)) is (record { world = refl; commits = alike });
          facts = (λ i. happened s.settings (program s) (record { world = k.world i; commits = kept.commits }) e)
              ∙ happened-same s.settings (program s) h.world kept.commits h.commits e k.commits (reached-served s es h r);
        }
