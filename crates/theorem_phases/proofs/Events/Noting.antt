-- What an event notes: a commit by a core that has its TID.
use Rattle.std.specs.Prelude.{ℕ, ◌≡◌, ◌<◌, Bool, true, false, ◌&&◌, Option, Some, None, IfSome, nat_lt, if◌then◌else◌}
use Rattle.std.proofs.Common.{arith, refl}
use Rattle.std.proofs.lemmas.Bool.Decides.{nat_tests}
use Rattle.tcc_base.specs.declared.access.Commit.{Commit as Noted}
use Rattle.tcc_base.specs.declared.access.Size.TheVariants.{Byte, Half, Word}
use Rattle.rules_program.specs.Program.{Need, Nothing, Loads, Stores, Changes, Prints, Ends, Halts, Traps, Program}
use Rattle.rules_program.specs.Ram.{word_of}
use Rattle.rules_maps.specs.Nodes.{Node, Core, Dir, Vendor, Event, Exec, Evict, Deliver, Msg}
use Rattle.rules_maps.specs.Shape.{Shape}
use Rattle.rules_tcc.specs.State.{CoreState, Awaited, Phase, Running, Ready, Solo, World}
use Rattle.rules_tcc.specs.Attempt.{Out, finished}
use Rattle.rules_tcc.specs.Commit.{commit, solo_commit, noted}
use Rattle.rules_tcc.specs.CoreDeliver.{core_deliver, grant, probe_reply, fill, data_request, invalidate, acknowledged, if_violated}
use Rattle.rules_tcc.specs.CoreEvict.{core_evict}
use Rattle.rules_tcc.specs.CoreExec.{core_exec, exec_in_phase, unless_awaiting}
use Rattle.rules_tcc.specs.DirDeliver.{Answer, Waits, Drops, Asks, Takes, dir_deliver}
use Rattle.rules_tcc.specs.Execute.{overflow, full_set, request_line, miss, load, word_store, partial_store, end_transaction, execute_need}
use Rattle.rules_tcc.specs.Execute.{execute}
use Rattle.rules_tcc.specs.Links.{in_flight}
use Rattle.rules_tcc.specs.Step.{Stepped, if_core_moves, if_core_takes, answered, if_vendor_gives, delivered, if_in_flight, names_nodes}
use Rattle.rules_tcc.specs.Step.{happens, step}
use Rattle.rules_tcc.specs.VendorDeliver.{Granted, vendor_deliver}
use Rattle.theorem_serial.specs.Tids.{has_tid}

-- what is noted, where the event is enabled
abbrev commit_in : Option Out → Option Noted
commit_in None = None
commit_in (Some o) = o.commit

quiet-load : (sh : Shape) (p : Program) (n : Need) (w : ℕ) (s : CoreState) → commit_in (load sh p n w s) ≡ None
unfolding load miss full_set request_line overflow
quiet-load sh p n w s = grind (arith, nat_tests)

quiet-word_store : (sh : Shape) (p : Program) (n : Need) (w x : ℕ) (s : CoreState) → commit_in (word_store sh p n w x s) ≡ None
unfolding word_store full_set overflow
quiet-word_store sh p n w x s = grind (arith, nat_tests)

quiet-partial_store : (sh : Shape) (p : Program) (n : Need) (w : ℕ) (s : CoreState) → commit_in (partial_store sh p n w s) ≡ None
unfolding partial_store miss full_set request_line overflow
quiet-partial_store sh p n w s = grind (arith, nat_tests)

quiet-evict : (sh : Shape) (x y : ℕ) (s : CoreState) → commit_in (core_evict sh x y s) ≡ None
unfolding core_evict
quiet-evict sh x y s = grind (arith, nat_tests)

quiet-deliver : (sh : Shape) (s : CoreState) (n : Node) (m : Msg) → commit_in (core_deliver sh s n m) ≡ None
unfolding core_deliver grant probe_reply fill data_request invalidate acknowledged if_violated
quiet-deliver sh s n m = grind (arith, nat_tests)

-- a commit, by a core that has its TID
pub record NotedAt (c : ℕ) (q : Phase) (x : Noted) : Type 0 where
  pub core : x.core.0 ≡ c
  pub has : has_tid q x.tid.0 ≡ true

abbrev Notes : (core : ℕ) → Phase → Option Noted → Type 0
Notes c q n = IfSome n (NotedAt c q)

nothing : (c : ℕ) (q : Phase) (n : Option Noted) → n ≡ None → Notes c q n
nothing c q n e = rw e tt

close-notes : (sh : Shape) (c : ℕ) (q : Phase) (s : CoreState) → Notes c q (end_transaction sh c q s).commit
unfolding solo_commit noted has_tid
close-notes sh c (Solo t) s = record { core = refl; has = grind (arith, nat_tests) }
close-notes sh c _ s = tt

exec-notes : (sh : Shape) (p : Program) (c : ℕ) (s : CoreState) → Notes c s.phase (commit_in (core_exec sh p c s))
unfolding core_exec execute commit noted has_tid
exec-notes sh p c s = go s.phase refl
  where
    need : (n : Need) → Notes c s.phase (commit_in (execute_need sh p c s n))
    need Nothing = tt
    need (Loads addr size) = nothing c s.phase _ (quiet-load sh p (Loads addr size) (word_of sh.base addr) s)
    need (Stores addr Word value) = nothing c s.phase _ (quiet-word_store sh p (Stores addr Word value) (word_of sh.base addr) value s)
    need (Stores addr Half value) = nothing c s.phase _ (quiet-partial_store sh p (Stores addr Half value) (word_of sh.base addr) s)
    need (Stores addr Byte value) = nothing c s.phase _ (quiet-partial_store sh p (Stores addr Byte value) (word_of sh.base addr) s)
    need (Changes addr changed) = nothing c s.phase _ (quiet-partial_store sh p (Changes addr changed) (word_of sh.base addr) s)
    need (Prints byte) = tt
    need Ends = close-notes sh c s.phase (finished p Ends 0 s)
    need (Halts code) = close-notes sh c s.phase (finished p (Halts code) 0 s)
    need (Traps code) = close-notes sh c s.phase (finished p (Traps code) 0 s)

    awaiting : (a : Option Awaited) → Notes c s.phase (commit_in (unless_awaiting sh p c s a))
    awaiting None = need (p.need s.local)
    awaiting (Some a) = tt

    go : (q : Phase) → s.phase ≡ q → Notes c s.phase (commit_in (exec_in_phase sh p c s q))
    go Running e = awaiting s.awaited
    go (Solo t) e = awaiting s.awaited
    go (Ready t) e = record { core = refl; has = rw e (grind (arith, nat_tests)) }
    go _ e = tt

-- in the whole machine

-- a commit that is noted is by a core of the machine that has its TID
pub record NotedIn (sh : Shape) (w : World) (x : Noted) : Type 0 where
  pub core : x.core.0 < sh.cores
  pub has : has_tid (w.cores x.core.0).phase x.tid.0 ≡ true

abbrev pub NotedBy : Shape → World → Option Stepped → Type 0
NotedBy sh w o = IfSome o (λ t. IfSome t.noted (NotedIn sh w))

noted-in : (sh : Shape) (w : World) (c : ℕ) (n : Option Noted) → c < sh.cores → Notes c (w.cores c).phase n
    → IfSome n (NotedIn sh w)
noted-in sh w c None l k = tt
noted-in sh w c (Some x) l k = record { core = rw k.core l; has = rw k.core k.has }

moved-notes : (sh : Shape) (w : World) (c : ℕ) (o : Option Out) → c < sh.cores → Notes c (w.cores c).phase (commit_in o)
    → NotedBy sh w (if_core_moves w c o)
moved-notes sh w c None l k = tt
moved-notes sh w c (Some o) l k = noted-in sh w c o.commit l k

taken-notes : (sh : Shape) (w : World) (src : Node) (c k : ℕ) (o : Option Out) → commit_in o ≡ None
    → NotedBy sh w (if_core_takes w src c k o)
taken-notes sh w src c k None e = tt
taken-notes sh w src c k (Some o) e = rw e tt

answered-notes : (sh : Shape) (w : World) (c d k : ℕ) (a : Answer) → NotedBy sh w (answered w c d k a)
answered-notes sh w c d k Waits = tt
answered-notes sh w c d k Drops = tt
answered-notes sh w c d k (Asks s sends) = tt
answered-notes sh w c d k (Takes s sends) = tt

granted-notes : (sh : Shape) (w : World) (c k : ℕ) (g : Option Granted) → NotedBy sh w (if_vendor_gives w c k g)
granted-notes sh w c k None = tt
granted-notes sh w c k (Some g) = tt

delivered-notes : (sh : Shape) (w : World) (src dst : Node) (k : ℕ) (m : Msg) → NotedBy sh w (delivered sh w src dst k m)
delivered-notes sh w src (Core c) k m = taken-notes sh w src c k (core_deliver sh (w.cores c) src m) (quiet-deliver sh (w.cores c) src m)
delivered-notes sh w (Core c) (Dir d) k m = answered-notes sh w c d k (dir_deliver sh (w.dirs d) c m)
delivered-notes sh w (Core c) Vendor k m = granted-notes sh w c k (vendor_deliver w.next c m)
delivered-notes sh w _ _ k m = tt

flying-notes : (sh : Shape) (w : World) (src dst : Node) (k : ℕ) (m : Option Msg) → NotedBy sh w (if_in_flight sh w src dst k m)
flying-notes sh w src dst k None = tt
flying-notes sh w src dst k (Some m) = delivered-notes sh w src dst k m

pub step-notes : (sh : Shape) (p : Program) (w : World) (e : Event) → NotedBy sh w (step sh p w e)
unfolding step names_nodes happens
step-notes sh p w (Exec c) = go (nat_lt c sh.cores) refl
  where
    go : (b : Bool) → nat_lt c sh.cores ≡ b → NotedBy sh w (if b then if_core_moves w c (core_exec sh p c (w.cores c)) else None)
    go true e = moved-notes sh w c (core_exec sh p c (w.cores c)) (grind (arith, nat_tests)) (exec-notes sh p c (w.cores c))
    go false e = tt
step-notes sh p w (Evict c x y) = go (nat_lt c sh.cores) refl (nat_lt x sh.sets && nat_lt y sh.ways)
  where
    go : (b : Bool) → nat_lt c sh.cores ≡ b → (a : Bool)
        → NotedBy sh w (if b && a then if_core_moves w c (core_evict sh x y (w.cores c)) else None)
    go true e true = moved-notes sh w c (core_evict sh x y (w.cores c)) (grind (arith, nat_tests))
        (nothing c (w.cores c).phase _ (quiet-evict sh x y (w.cores c)))
    go true e false = tt
    go false e a = tt
step-notes sh p w (Deliver src dst k) = go (names_nodes sh (Deliver src dst k))
  where
    go : (b : Bool) → NotedBy sh w (if b then if_in_flight sh w src dst k (in_flight w.net src dst k) else None)
    go true = flying-notes sh w src dst k (in_flight w.net src dst k)
    go false = tt
