-- What an event leaves as it was: without a commit, who has halted; and each core's messages to the vendor, unless the core executes or
-- one of them is delivered.
use Rattle.std.specs.Prelude.{ℕ, ◌≡◌, ◌==◌, ◌&&◌, ◌++◌, Bool, true, false, List, [], Option, Some, None, IfSome, slice_set, if◌then◌else◌}
use Rattle.std.proofs.Common.{append-nil, arith, refl, ap, sym, ◌∙◌}
use Rattle.std.proofs.lemmas.Bool.Decides.{nat_tests}
use Rattle.tcc_base.specs.declared.access.Size.TheVariants.{Byte, Half, Word}
use Rattle.base_lemmas.proofs.Lemmas.{and-false}
use Rattle.rules_program.specs.Program.{Need, Nothing, Loads, Stores, Changes, Prints, Ends, Halts, Traps, Program}
use Rattle.rules_program.specs.Ram.{word_of}
use Rattle.rules_maps.specs.Nodes.{Node, Core, Dir, Vendor, Event, Exec, Evict, Deliver, Msg, node_eq}
use Rattle.rules_maps.specs.Shape.{Shape}
use Rattle.rules_tcc.specs.State.{CoreState, Awaited, Link, World}
use Rattle.rules_tcc.specs.State.{Phase, Running, AwaitTid, DoomedTid, Probing, Ready, Overflowing, Solo, Halted}
use Rattle.rules_tcc.specs.Attempt.{Out, finished, roll_back, one_more_instruction}
use Rattle.rules_tcc.specs.Commit.{commit, solo_commit}
use Rattle.rules_tcc.specs.CoreDeliver.{core_deliver, grant, grant_sends, probe_reply, fill, data_request, invalidate, acknowledged}
use Rattle.rules_tcc.specs.CoreDeliver.{if_violated, words_invalidated}
use Rattle.rules_tcc.specs.CoreEvict.{core_evict}
use Rattle.rules_tcc.specs.CoreExec.{core_exec, exec_in_phase, unless_awaiting}
use Rattle.rules_tcc.specs.DirDeliver.{Answer, Waits, Drops, Asks, Takes, dir_deliver}
use Rattle.rules_tcc.specs.Execute.{overflow, full_set, request_line, miss, place, load, with_read_mark, word_store, partial_store}
use Rattle.rules_tcc.specs.Execute.{stored_in_buffer, stored_in_frame}
use Rattle.rules_tcc.specs.Execute.{end_transaction, execute_need, execute}
use Rattle.rules_tcc.specs.Links.{in_flight, sent_all, taking}
use Rattle.rules_tcc.specs.Sends.{write_back_line, flush_line, skip_all, probe_all, abort_written}
use Rattle.rules_tcc.specs.Step.{Stepped, core_moves, core_takes, dir_takes, dir_asks, vendor_gives, if_core_moves, if_core_takes, answered}
use Rattle.rules_tcc.specs.Step.{if_vendor_gives}
use Rattle.rules_tcc.specs.Step.{delivered, if_in_flight, names_nodes, happens, step}
use Rattle.rules_tcc.specs.VendorDeliver.{Granted, vendor_deliver}
use Rattle.theorem_phases.specs.Laws.{HaltsStay, RequestsStay, asks, executes}
use Rattle.rules_phases.specs.Phased.{has_halted}

-- ---- one core

-- whether it has halted after an event, where that is enabled
abbrev halted_in : (was : Bool) → Option Out → Bool
halted_in b None = b
halted_in b (Some o) = has_halted o.core.phase

-- what it sends to the vendor
abbrev asked_in : Option Out → List Msg
asked_in None = []
asked_in (Some o) = o.sends Vendor

evict-halts : (sh : Shape) (x y : ℕ) (s : CoreState) → halted_in (has_halted s.phase) (core_evict sh x y s) ≡ has_halted s.phase
unfolding core_evict
evict-halts sh x y s = grind (arith, nat_tests)

evict-asks : (sh : Shape) (x y : ℕ) (s : CoreState) → asked_in (core_evict sh x y s) ≡ []
unfolding core_evict write_back_line
evict-asks sh x y s = grind (arith, nat_tests)

deliver-halts : (sh : Shape) (s : CoreState) (n : Node) (m : Msg)
    → halted_in (has_halted s.phase) (core_deliver sh s n m) ≡ has_halted s.phase
unfolding core_deliver grant probe_reply fill data_request invalidate acknowledged if_violated words_invalidated roll_back
deliver-halts sh s n m = grind (arith, nat_tests)

deliver-asks : (sh : Shape) (s : CoreState) (n : Node) (m : Msg) → asked_in (core_deliver sh s n m) ≡ []
unfolding core_deliver grant grant_sends probe_reply fill data_request invalidate acknowledged if_violated words_invalidated flush_line
    skip_all
    probe_all abort_written
deliver-asks sh s n m = grind (arith, nat_tests)

-- nothing is noted, or it hasn't halted
abbrev Goes : (was : Bool) → Option Out → Type 0
Goes b o = IfSome o (λ r. r.commit ≡ None → has_halted r.core.phase ≡ b)

finished-phase : (p : Program) (n : Need) (x : ℕ) (s : CoreState) → (finished p n x s).phase ≡ s.phase
unfolding finished one_more_instruction
finished-phase p n x s = grind (arith, nat_tests)

finished-halts : (p : Program) (n : Need) (x : ℕ) (s : CoreState) → has_halted s.phase ≡ false
    → has_halted (finished p n x s).phase ≡ false
finished-halts p n x s e = ap has_halted (finished-phase p n x s) ∙ e

load-goes : (sh : Shape) (p : Program) (n : Need) (w : ℕ) (s : CoreState) → has_halted s.phase ≡ false
    → halted_in false (load sh p n w s) ≡ false
unfolding load with_read_mark miss full_set request_line overflow place
load-goes sh p n w s e = grind (arith, nat_tests, finished-phase)

word_store-goes : (sh : Shape) (p : Program) (n : Need) (w x : ℕ) (s : CoreState) → has_halted s.phase ≡ false
    → halted_in false (word_store sh p n w x s) ≡ false
unfolding word_store full_set overflow stored_in_buffer stored_in_frame place
word_store-goes sh p n w x s e = grind (arith, nat_tests, finished-phase)

partial_store-goes : (sh : Shape) (p : Program) (n : Need) (w : ℕ) (s : CoreState) → has_halted s.phase ≡ false
    → halted_in false (partial_store sh p n w s) ≡ false
unfolding partial_store stored_in_buffer stored_in_frame miss full_set request_line overflow place
partial_store-goes sh p n w s e = grind (arith, nat_tests, finished-phase)

goes : (b : Bool) (o : Option Out) → halted_in b o ≡ b → Goes b o
goes b None e = tt
goes b (Some o) e = λ n. e

close-goes : (sh : Shape) (c : ℕ) (q : Phase) (s : CoreState) → Goes false (Some (end_transaction sh c q s))
unfolding solo_commit
close-goes sh c (Solo t) s = λ n. absurd (cc)
close-goes sh c Running s = λ n. refl
close-goes sh c AwaitTid s = λ n. refl
close-goes sh c DoomedTid s = λ n. refl
close-goes sh c (Probing t) s = λ n. refl
close-goes sh c (Ready t) s = λ n. refl
close-goes sh c (Overflowing t) s = λ n. refl
close-goes sh c Halted s = λ n. refl

exec-goes : (sh : Shape) (p : Program) (c : ℕ) (s : CoreState) → Goes (has_halted s.phase) (core_exec sh p c s)
unfolding core_exec execute commit
exec-goes sh p c s = go s.phase refl
  where
    need : (n : Need) → has_halted s.phase ≡ false → Goes false (execute_need sh p c s n)
    need Nothing e = λ n. finished-halts p Nothing 0 s e
    need (Loads addr size) e = goes false _ (load-goes sh p (Loads addr size) (word_of sh.base addr) s e)
    need (Stores addr Word value) e = goes false _ (word_store-goes sh p (Stores addr Word value) (word_of sh.base addr) value s e)
    need (Stores addr Half value) e = goes false _ (partial_store-goes sh p (Stores addr Half value) (word_of sh.base addr) s e)
    need (Stores addr Byte value) e = goes false _ (partial_store-goes sh p (Stores addr Byte value) (word_of sh.base addr) s e)
    need (Changes addr changed) e = goes false _ (partial_store-goes sh p (Changes addr changed) (word_of sh.base addr) s e)
    need (Prints byte) e = λ n. finished-halts p (Prints byte) 0 s e
    need Ends e = close-goes sh c s.phase (finished p Ends 0 s)
    need (Halts code) e = close-goes sh c s.phase (finished p (Halts code) 0 s)
    need (Traps code) e = close-goes sh c s.phase (finished p (Traps code) 0 s)

    awaiting : (a : Option Awaited) → has_halted s.phase ≡ false → Goes false (unless_awaiting sh p c s a)
    awaiting None e = need (p.need s.local) e
    awaiting (Some a) e = tt

    go : (q : Phase) → s.phase ≡ q → Goes (has_halted q) (exec_in_phase sh p c s q)
    go Running e = awaiting s.awaited (ap has_halted e)
    go (Solo t) e = awaiting s.awaited (ap has_halted e)
    go (Ready t) e = λ n. absurd (cc)
    go AwaitTid e = tt
    go DoomedTid e = tt
    go (Probing t) e = tt
    go (Overflowing t) e = tt
    go Halted e = tt

-- ---- who has halted

abbrev SameHalts : World → World → Type 0
SameHalts w v = (j : ℕ) → has_halted (v.cores j).phase ≡ has_halted (w.cores j).phase

abbrev HaltStays : World → Option Stepped → Type 0
HaltStays w o = IfSome o (λ t. t.noted ≡ None → SameHalts w t.world)

put-halts : (w : World) (c : ℕ) (s : CoreState) → has_halted s.phase ≡ has_halted (w.cores c).phase → (j : ℕ)
    → has_halted (if j == c then s else w.cores j).phase ≡ has_halted (w.cores j).phase
put-halts w c s f j = go (j == c) refl
  where
    go : (b : Bool) → (j == c) ≡ b → has_halted (if b then s else w.cores j).phase ≡ has_halted (w.cores j).phase
    go true q = let z : j ≡ c = grind (arith, nat_tests) in f ∙ ap (λ d. has_halted (w.cores d).phase) (sym z)
    go false q = refl

moved-halts : (w : World) (c : ℕ) (o : Option Out) → Goes (has_halted (w.cores c).phase) o → HaltStays w (if_core_moves w c o)
unfolding core_moves
moved-halts w c None f = tt
moved-halts w c (Some o) f = λ n. put-halts w c o.core (f n)

taken-halts : (w : World) (src : Node) (c k : ℕ) (o : Option Out) → Goes (has_halted (w.cores c).phase) o
    → HaltStays w (if_core_takes w src c k o)
unfolding core_takes
taken-halts w src c k None f = tt
taken-halts w src c k (Some o) f = λ n. put-halts w c o.core (f n)

answered-halts : (w : World) (c d k : ℕ) (a : Answer) → HaltStays w (answered w c d k a)
unfolding dir_takes dir_asks
answered-halts w c d k Waits = tt
answered-halts w c d k Drops = λ n j. refl
answered-halts w c d k (Asks s sends) = λ n j. refl
answered-halts w c d k (Takes s sends) = λ n j. refl

granted-halts : (w : World) (c k : ℕ) (g : Option Granted) → HaltStays w (if_vendor_gives w c k g)
unfolding vendor_gives
granted-halts w c k None = tt
granted-halts w c k (Some g) = λ n j. refl

delivered-halts : (sh : Shape) (w : World) (src dst : Node) (k : ℕ) (m : Msg) → HaltStays w (delivered sh w src dst k m)
delivered-halts sh w src (Core c) k m =
    taken-halts w src c k (core_deliver sh (w.cores c) src m)
    (goes (has_halted (w.cores c).phase) (core_deliver sh (w.cores c) src m) (deliver-halts sh (w.cores c) src m))
delivered-halts sh w (Core c) (Dir d) k m = answered-halts w c d k (dir_deliver sh (w.dirs d) c m)
delivered-halts sh w (Core c) Vendor k m = granted-halts w c k (vendor_deliver w.next c m)
delivered-halts sh w _ _ k m = tt

flying-halts : (sh : Shape) (w : World) (src dst : Node) (k : ℕ) (m : Option Msg) → HaltStays w (if_in_flight sh w src dst k m)
flying-halts sh w src dst k None = tt
flying-halts sh w src dst k (Some m) = delivered-halts sh w src dst k m

happens-halts : (sh : Shape) (p : Program) (w : World) (e : Event) → HaltStays w (happens sh p w e)
unfolding happens
happens-halts sh p w (Exec c) = moved-halts w c (core_exec sh p c (w.cores c)) (exec-goes sh p c (w.cores c))
happens-halts sh p w (Evict c x y) =
    moved-halts w c (core_evict sh x y (w.cores c))
    (goes (has_halted (w.cores c).phase) (core_evict sh x y (w.cores c)) (evict-halts sh x y (w.cores c)))
happens-halts sh p w (Deliver src dst k) = flying-halts sh w src dst k (in_flight w.net src dst k)

pub halts_stay : HaltsStay
unfolding step
halts_stay sh p w e = go (names_nodes sh e)
  where
    go : (b : Bool) → HaltStays w (if b then happens sh p w e else None)
    go true = happens-halts sh p w e
    go false = tt

-- ---- what was said to the vendor

abbrev RequestStays : World → Event → Option Stepped → Type 0
RequestStays w e o =
    IfSome o (λ t. (c : ℕ) → executes c e ≡ false → asks c e ≡ false → t.world.net (Core c) Vendor ≡ w.net (Core c) Vendor)

-- nothing is sent
unsent : (b : Bool) (l : Link) (ms : List Msg) → ms ≡ [] → (if b then l ++ sent_all ms else l) ≡ l
unfolding sent_all
unsent true l ms e = ap (λ xs. l ++ sent_all xs) e ∙ append-nil l
unsent false l ms e = refl

-- nothing is taken on its way to the vendor
pub untaken : (net : Node → Node → Link) (src dst : Node) (c k : ℕ) → node_eq Vendor dst ≡ false
    → taking net src dst k (Core c) Vendor ≡ net (Core c) Vendor
untaken net src dst c k e =
    ap (λ b. if node_eq (Core c) src && b then slice_set (net (Core c) Vendor) k None else net (Core c) Vendor) e
    ∙ ap (λ b. if b then slice_set (net (Core c) Vendor) k None else net (Core c) Vendor) (and-false (node_eq (Core c) src))

evicted-stays : (w : World) (d x y : ℕ) (o : Option Out) → asked_in o ≡ [] → RequestStays w (Evict d x y) (if_core_moves w d o)
unfolding core_moves
evicted-stays w d x y None e = tt
evicted-stays w d x y (Some o) e = λ c a b. unsent (c == d) (w.net (Core c) Vendor) (o.sends Vendor) e

taken-stays : (w : World) (src : Node) (d k : ℕ) (o : Option Out) → asked_in o ≡ []
    → RequestStays w (Deliver src (Core d) k) (if_core_takes w src d k o)
unfolding core_takes
taken-stays w src d k None e = tt
taken-stays w src d k (Some o) e = λ c a b.
    unsent (c == d) (taking w.net src (Core d) k (Core c) Vendor) (o.sends Vendor) e ∙ untaken w.net src (Core d) c k refl

answered-stays : (w : World) (b d k : ℕ) (a : Answer) → RequestStays w (Deliver (Core b) (Dir d) k) (answered w b d k a)
unfolding dir_takes dir_asks
answered-stays w b d k Waits = tt
answered-stays w b d k Drops = λ c x y. untaken w.net (Core b) (Dir d) c k refl
answered-stays w b d k (Asks s sends) = λ c x y. refl
answered-stays w b d k (Takes s sends) = λ c x y. untaken w.net (Core b) (Dir d) c k refl

granted-stays : (w : World) (b k : ℕ) (g : Option Granted) → RequestStays w (Deliver (Core b) Vendor k) (if_vendor_gives w b k g)
unfolding vendor_gives
granted-stays w b k None = tt
granted-stays w b k (Some g) = λ c x y. ap (λ t. if t && true then slice_set (w.net (Core c) Vendor) k None else w.net (Core c) Vendor) y

delivered-stays : (sh : Shape) (w : World) (src dst : Node) (k : ℕ) (m : Msg)
    → RequestStays w (Deliver src dst k) (delivered sh w src dst k m)
delivered-stays sh w src (Core c) k m = taken-stays w src c k (core_deliver sh (w.cores c) src m) (deliver-asks sh (w.cores c) src m)
delivered-stays sh w (Core c) (Dir d) k m = answered-stays w c d k (dir_deliver sh (w.dirs d) c m)
delivered-stays sh w (Core c) Vendor k m = granted-stays w c k (vendor_deliver w.next c m)
delivered-stays sh w (Dir c) (Dir d) k m = tt
delivered-stays sh w (Dir c) Vendor k m = tt
delivered-stays sh w Vendor (Dir d) k m = tt
delivered-stays sh w Vendor Vendor k m = tt

flying-stays : (sh : Shape) (w : World) (src dst : Node) (k : ℕ) (m : Option Msg)
    → RequestStays w (Deliver src dst k) (if_in_flight sh w src dst k m)
flying-stays sh w src dst k None = tt
flying-stays sh w src dst k (Some m) = delivered-stays sh w src dst k m

moved-stays : (w : World) (d : ℕ) (o : Option Out) → RequestStays w (Exec d) (if_core_moves w d o)
unfolding core_moves
moved-stays w d None = tt
moved-stays w d (Some o) = λ c a b. ap (λ t. if t then w.net (Core c) Vendor ++ sent_all (o.sends Vendor) else w.net (Core c) Vendor) a

happens-stays : (sh : Shape) (p : Program) (w : World) (e : Event) → RequestStays w e (happens sh p w e)
unfolding happens
happens-stays sh p w (Exec c) = moved-stays w c (core_exec sh p c (w.cores c))
happens-stays sh p w (Evict c x y) = evicted-stays w c x y (core_evict sh x y (w.cores c)) (evict-asks sh x y (w.cores c))
happens-stays sh p w (Deliver src dst k) = flying-stays sh w src dst k (in_flight w.net src dst k)

pub requests_stay : RequestsStay
unfolding step
requests_stay sh p w e = go (names_nodes sh e)
  where
    go : (b : Bool) → RequestStays w e (if b then happens sh p w e else None)
    go true = happens-stays sh p w e
    go false = tt
