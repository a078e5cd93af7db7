-- Each event keeps what holds of each core's counts.
use Rattle.std.proofs.Common.{◌≡◌, ◌==◌, ◌+◌, ◌++◌, ℕ, Bool, true, false, not, List, [], ◌∷◌, Option, Some, None, IfSome}
use Rattle.std.proofs.Common.{if◌then◌else◌, refl, sym, subst, arith}
use Rattle.std.proofs.lemmas.Bool.Decides.{nat_tests}
use Rattle.tcc_base.specs.Put.{put}
use Rattle.tcc_base.specs.declared.access.Commit.{Commit as Noted}
use Rattle.rules_maps.specs.Nodes.{Node, Core, Dir, Vendor, Msg, Event, Exec, Evict, Deliver}
use Rattle.rules_maps.specs.Shape.{Shape}
use Rattle.rules_program.specs.Program.{Program}
use Rattle.rules_tcc.specs.Attempt.{Out}
use Rattle.rules_tcc.specs.CoreDeliver.{core_deliver}
use Rattle.rules_tcc.specs.CoreEvict.{core_evict}
use Rattle.rules_tcc.specs.CoreExec.{core_exec}
use Rattle.rules_tcc.specs.DirDeliver.{Answer, Waits, Drops, Asks, Takes, dir_deliver}
use Rattle.rules_tcc.specs.Links.{in_flight}
use Rattle.rules_tcc.specs.State.{CoreState, World}
use Rattle.rules_tcc.specs.Step.{History, Stepped, and_noted, core_moves, core_takes, dir_takes, dir_asks, vendor_gives, if_core_moves}
use Rattle.rules_tcc.specs.Step.{if_core_takes, answered, if_vendor_gives, delivered, if_in_flight, names_nodes, happens, step}
use Rattle.rules_tcc.specs.VendorDeliver.{Granted, vendor_deliver}
use Rattle.watch.specs.Facts.{Fact, Took}
use Rattle.watch.specs.Happened.{actor, commit_fact, moved, sent, acted, facts_of}
use Rattle.watch.specs.Happened.{if_in_flight as told_if_in_flight, delivered as told_delivered}
use Rattle.watch.specs.Instructions.{executed, evicted}
use Rattle.watch.specs.Messages.{taken, violated, grant_given_up, answered as told_answered}
use Rattle.watch_count.specs.declared.tables.CoreCounts.{CoreCounts}
use Rattle.count_law.specs.Sums.{commits_of, instructions_of}
use Rattle.count_law.proofs.Committed.{one, gone, is_mine, commits-mine, commits-other, instructions-mine, instructions-other}
use Rattle.count_law.proofs.Executed.{Started}
use Rattle.count_law.proofs.Kept.{Kept, all_leave, all-leave-kept, leave-append, rest-leave}
use Rattle.count_law.proofs.Rows.{row_after}
use Rattle.count_law.proofs.Taken.{kept-append, deliver-own}
use Rattle.count_law.proofs.Told.{Own, kept-at, exec-own, evict-own}

-- what holds of core j in this state, with these commits and counts
pub record Holds (j : ℕ) (s : CoreState) (cs : List Noted) (k : CoreCounts) : Type 0 where
  pub starts : Started s
  pub kept : Kept s.n (commits_of j cs) (instructions_of j cs) k

quiet-holds : (a : Node) (j : ℕ) (s : CoreState) (cs : List Noted) (fs : List Fact) (k : CoreCounts) → all_leave j fs ≡ true
    → Holds j s cs k → Holds j s cs (row_after a j fs k)
quiet-holds a j s cs fs k e h = record {
  starts = h.starts;
  kept = all-leave-kept a j s.n (commits_of j cs) (instructions_of j cs) fs k e h.kept;
}

-- ---- an event of core c

own-holds : (c : ℕ) (s : CoreState) (cs : List Noted) (o : Out) (fs rest : List Fact) (k : CoreCounts) → Own c s o fs
    → all_leave c rest ≡ true → Holds c s cs k
    → Holds c o.core (and_noted o.commit cs) (row_after (Core c) c (fs ++ (commit_fact o.commit ++ rest)) k)
own-holds c s cs o fs rest k own e h =
    let x = commits_of c (and_noted o.commit cs) in
    let y = instructions_of c (and_noted o.commit cs) in
    let told : CoreCounts = row_after (Core c) c fs k in
    let noted : CoreCounts = row_after (Core c) c (commit_fact o.commit) told in
    record {
      starts = own.starts;
      kept = kept-append (Core c) c o.core.n x y fs (commit_fact o.commit ++ rest) k
          (kept-append (Core c) c o.core.n x y (commit_fact o.commit) rest told
          (all-leave-kept (Core c) c o.core.n x y rest noted e
          (kept-at o.core.n o.core.n (commits_of c cs + one o.commit) x (instructions_of c cs + gone o.commit) y noted refl
          (sym (commits-mine c o.commit cs own.mine)) (sym (instructions-mine c o.commit cs own.mine))
          (own.kept (commits_of c cs) (instructions_of c cs) k h.kept))));
    }

commit-leaves : (c j : ℕ) (m : Option Noted) → is_mine c m ≡ true → not (c == j) ≡ true → all_leave j (commit_fact m) ≡ true
unfolding all_leave
commit-leaves c j None e o = refl
commit-leaves c j (Some m) e o = grind (arith, nat_tests, e, o)

other-holds : (c j : ℕ) (s t : CoreState) (cs : List Noted) (o : Out) (fs rest : List Fact) (k : CoreCounts) → Own c s o fs
    → all_leave j rest ≡ true → not (c == j) ≡ true → Holds j t cs k
    → Holds j t (and_noted o.commit cs) (row_after (Core c) j (fs ++ (commit_fact o.commit ++ rest)) k)
other-holds c j s t cs o fs rest k own e other h =
    let leave = leave-append j fs (commit_fact o.commit ++ rest) (own.others j other)
    (leave-append j (commit_fact o.commit) rest (commit-leaves c j o.commit own.mine other) e) in
    record {
      starts = h.starts;
      kept = all-leave-kept (Core c) j t.n (commits_of j (and_noted o.commit cs)) (instructions_of j (and_noted o.commit cs))
          (fs ++ (commit_fact o.commit ++ rest)) k leave
          (kept-at t.n t.n (commits_of j cs) (commits_of j (and_noted o.commit cs)) (instructions_of j cs)
          (instructions_of j (and_noted o.commit cs)) k refl (sym (commits-other c j o.commit cs own.mine other))
          (sym (instructions-other c j o.commit cs own.mine other)) h.kept);
    }

core-holds : (c j : ℕ) (cores : ℕ → CoreState) (cs : List Noted) (o : Out) (fs rest : List Fact) (k : CoreCounts) → Own c (cores c) o fs
    → all_leave j rest ≡ true → Holds j (cores j) cs k
    → Holds j (put cores c o.core j) (and_noted o.commit cs) (row_after (Core c) j (fs ++ (commit_fact o.commit ++ rest)) k)
core-holds c j cores cs o fs rest k own e h = go (j == c) refl
  where
    go : (b : Bool) → (j == c) ≡ b
        → Holds j (if b then o.core else cores j) (and_noted o.commit cs) (row_after (Core c) j (fs ++ (commit_fact o.commit ++ rest)) k)
    go true f =
        let same : c ≡ j = grind (arith, nat_tests, f) in
        subst (λ i. all_leave i rest ≡ true → Holds i (cores i) cs k
        → Holds i o.core (and_noted o.commit cs) (row_after (Core c) i (fs ++ (commit_fact o.commit ++ rest)) k)) same
        (λ e h. own-holds c (cores c) cs o fs rest k own e h) e h
    go false f = other-holds c j (cores c) (cores j) cs o fs rest k own e (grind (arith, nat_tests, f)) h

put-same : (cores : ℕ → CoreState) (c : ℕ) (s : CoreState) → s ≡ put cores c s c
put-same cores c s = grind (arith, nat_tests)

-- ---- in the whole machine

-- what holds of core j after a step of node a, at which this happened
abbrev After : Shape → History → (a : Node) → (j : ℕ) → CoreCounts → (World → List Fact) → Stepped → Type 0
After sh h a j k facts t =
    Holds j (t.world.cores j) (and_noted t.noted h.commits)
    (row_after a j (facts t.world ++ (commit_fact t.noted ++ (moved h.world t.world a ++ sent sh h.world t.world a))) k)

moves-hold : (sh : Shape) (h : History) (c j : ℕ) (k : CoreCounts) (facts : CoreState → List Fact) (o : Option Out)
    → IfSome o (λ o. Own c (h.world.cores c) o (facts o.core)) → Holds j (h.world.cores j) h.commits k
    → IfSome (if_core_moves h.world c o) (After sh h (Core c) j k (λ v. facts (v.cores c)))
unfolding core_moves
moves-hold sh h c j k facts None own held = tt
moves-hold sh h c j k facts (Some o) own held =
    core-holds c j h.world.cores h.commits o (facts (put h.world.cores c o.core c))
    (moved h.world (core_moves h.world c o) (Core c) ++ sent sh h.world (core_moves h.world c o) (Core c)) k
    (subst (λ t. Own c (h.world.cores c) o (facts t)) (put-same h.world.cores c o.core) own)
    (rest-leave j sh h.world (core_moves h.world c o) (Core c)) held

takes-hold : (sh : Shape) (h : History) (src : Node) (c i j : ℕ) (k : CoreCounts) (facts : CoreState → List Fact) (o : Option Out)
    → IfSome o (λ o. Own c (h.world.cores c) o (facts o.core)) → Holds j (h.world.cores j) h.commits k
    → IfSome (if_core_takes h.world src c i o) (After sh h (Core c) j k (λ v. facts (v.cores c)))
unfolding core_takes
takes-hold sh h src c i j k facts None own held = tt
takes-hold sh h src c i j k facts (Some o) own held =
    core-holds c j h.world.cores h.commits o (facts (put h.world.cores c o.core c))
    (moved h.world (core_takes h.world src c i o) (Core c) ++ sent sh h.world (core_takes h.world src c i o) (Core c)) k
    (subst (λ t. Own c (h.world.cores c) o (facts t)) (put-same h.world.cores c o.core) own)
    (rest-leave j sh h.world (core_takes h.world src c i o) (Core c)) held

-- cores and commits are as before
still-holds : (sh : Shape) (h : History) (a : Node) (j : ℕ) (k : CoreCounts) (facts : List Fact) (v : World) → all_leave j facts ≡ true
    → Holds j (h.world.cores j) h.commits k
    → Holds j (h.world.cores j) h.commits (row_after a j (facts ++ ([] ++ (moved h.world v a ++ sent sh h.world v a))) k)
still-holds sh h a j k facts v e held =
    let rest = moved h.world v a ++ sent sh h.world v a in
    quiet-holds a j (h.world.cores j) h.commits (facts ++ ([] ++ rest)) k
    (leave-append j facts ([] ++ rest) e (rest-leave j sh h.world v a)) held

answers-hold : (sh : Shape) (h : History) (c d i j : ℕ) (k : CoreCounts) (m : Msg) (a : Answer) → Holds j (h.world.cores j) h.commits k
    → IfSome (answered h.world c d i a) (After sh h (Dir d) j k (λ v. told_answered m a))
unfolding dir_takes dir_asks all_leave
answers-hold sh h c d i j k m Waits held = tt
answers-hold sh h c d i j k m Drops held =
    still-holds sh h (Dir d) j k (told_answered m Drops) (dir_takes h.world c d i (h.world.dirs d) (λ dst. [])) refl held
answers-hold sh h c d i j k m (Asks s sends) held =
    still-holds sh h (Dir d) j k (told_answered m (Asks s sends)) (dir_asks h.world d s sends) refl held
answers-hold sh h c d i j k m (Takes s sends) held =
    still-holds sh h (Dir d) j k (told_answered m (Takes s sends)) (dir_takes h.world c d i s sends) refl held

gives-hold : (sh : Shape) (h : History) (c i j : ℕ) (k : CoreCounts) (m : Msg) (g : Option Granted) → Holds j (h.world.cores j) h.commits k
    → IfSome (if_vendor_gives h.world c i g) (After sh h Vendor j k (λ v. Took m ∷ []))
unfolding vendor_gives all_leave
gives-hold sh h c i j k m None held = tt
gives-hold sh h c i j k m (Some g) held = still-holds sh h Vendor j k (Took m ∷ []) (vendor_gives h.world c i g) refl held

delivers-hold : (sh : Shape) (h : History) (src dst : Node) (i j : ℕ) (k : CoreCounts) (m : Msg)
    → ((c : ℕ) → Started (h.world.cores c)) → Holds j (h.world.cores j) h.commits k
    → IfSome (delivered sh h.world src dst i m) (After sh h dst j k (λ v. told_delivered sh h.commits h.world v src dst m))
delivers-hold sh h src (Core c) i j k m all held =
    let s = h.world.cores c in
    takes-hold sh h src c i j k (λ t. taken src m s ++ (violated c h.commits m s t ++ grant_given_up c m s.phase)) (core_deliver sh s src m)
    (deliver-own sh c h.commits src m s (all c)) held
delivers-hold sh h (Core c) (Dir d) i j k m all held = answers-hold sh h c d i j k m (dir_deliver sh (h.world.dirs d) c m) held
delivers-hold sh h (Core c) Vendor i j k m all held = gives-hold sh h c i j k m (vendor_deliver h.world.next c m) held
delivers-hold sh h _ _ i j k m all held = tt

flying-holds : (sh : Shape) (h : History) (src dst : Node) (i j : ℕ) (k : CoreCounts) (m : Option Msg)
    → ((c : ℕ) → Started (h.world.cores c)) → Holds j (h.world.cores j) h.commits k
    → IfSome (if_in_flight sh h.world src dst i m) (After sh h dst j k (λ v. told_if_in_flight sh h.commits h.world v src dst m))
flying-holds sh h src dst i j k None all held = tt
flying-holds sh h src dst i j k (Some m) all held = delivers-hold sh h src dst i j k m all held

happens-holds : (sh : Shape) (p : Program) (h : History) (e : Event) (j : ℕ) (k : CoreCounts)
    → ((c : ℕ) → Started (h.world.cores c)) → Holds j (h.world.cores j) h.commits k
    → IfSome (happens sh p h.world e) (After sh h (actor e) j k (λ v. acted sh p h.commits h.world v e))
unfolding happens
happens-holds sh p h (Exec c) j k all held =
    let s = h.world.cores c in moves-hold sh h c j k (λ t. executed sh p c s t) (core_exec sh p c s) (exec-own sh p c s (all c)) held
happens-holds sh p h (Evict c x y) j k all held =
    let s = h.world.cores c in moves-hold sh h c j k (λ t. evicted c x y s) (core_evict sh x y s) (evict-own sh c x y s (all c)) held
happens-holds sh p h (Deliver src dst i) j k all held = flying-holds sh h src dst i j k (in_flight h.world.net src dst i) all held

pub step-holds : (sh : Shape) (p : Program) (h : History) (e : Event) (j : ℕ) (k : CoreCounts)
    → ((c : ℕ) → Started (h.world.cores c)) → Holds j (h.world.cores j) h.commits k
    → IfSome (step sh p h.world e) (λ t. Holds j (t.world.cores j) (and_noted t.noted h.commits)
    (row_after (actor e) j (facts_of sh p h e (Some t)) k))
unfolding step
step-holds sh p h e j k all held = go (names_nodes sh e)
  where
    go : (b : Bool) → IfSome (if b then happens sh p h.world e else None) (λ t. Holds j (t.world.cores j) (and_noted t.noted h.commits)
        (row_after (actor e) j (facts_of sh p h e (Some t)) k))
    go true = happens-holds sh p h e j k all held
    go false = tt
