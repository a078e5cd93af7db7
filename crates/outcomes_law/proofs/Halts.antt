-- A core that has halted did so by a halt or a trap, in each state that a run leads to.
use Rattle.std.proofs.Common.{◌≡◌, ◌==◌, ℕ, Bool, true, false, List, [], ◌∷◌, Option, Some, None, IfSome, if◌then◌else◌}
use Rattle.std.proofs.Common.{refl, sym, subst, arith}
use Rattle.std.proofs.lemmas.Bool.Decides.{nat_tests}
use Rattle.tcc_base.specs.declared.access.Size.{Size}
use Rattle.tcc_base.specs.declared.access.Size.TheVariants.{Byte, Half, Word}
use Rattle.rules_maps.specs.Nodes.{Node, Core, Dir, Vendor, Event, Exec, Evict, Deliver, Msg, TidGrant, Fill, ProbeReply, DataReq, Inv}
use Rattle.rules_maps.specs.Shape.{Shape}
use Rattle.rules_maps.specs.Words.{line_of}
use Rattle.rules_program.specs.Plain.{Outcome, Goes, Ended, Halted as HaltedWith, Trapped as TrappedWith}
use Rattle.rules_program.specs.Program.{Local, Need, Nothing, Loads, Stores, Changes, Prints, Ends, Halts, Traps, Program}
use Rattle.rules_program.specs.Ram.{word_of}
use Rattle.rules_tcc.specs.Attempt.{Out, finished, one_more_instruction, roll_back, new_word}
use Rattle.rules_tcc.specs.Commit.{commit, committed_core, ended_after_commit, phase_after_commit, solo_commit}
use Rattle.rules_tcc.specs.CoreDeliver.{core_deliver, grant, grant_in_phase, probe_reply, reply_in_phase, fill, fill_awaited, data_request}
use Rattle.rules_tcc.specs.CoreDeliver.{invalidate, acknowledged, if_violated, violated_in_phase, words_invalidated}
use Rattle.rules_tcc.specs.CoreEvict.{core_evict, evict_line}
use Rattle.rules_tcc.specs.CoreExec.{core_exec, exec_in_phase, unless_awaiting}
use Rattle.rules_tcc.specs.DirDeliver.{Answer, Waits, Drops, Asks, Takes, dir_deliver}
use Rattle.rules_tcc.specs.Execute.{execute, execute_need, load, load_spilled, load_valid, miss, request_line, place, overflow, full_set}
use Rattle.rules_tcc.specs.Execute.{with_read_mark, word_store, partial_store, change_spilled, change_valid, store_by_size, end_transaction}
use Rattle.rules_tcc.specs.Execute.{stored_in_buffer, stored_in_frame}
use Rattle.rules_tcc.specs.Links.{in_flight}
use Rattle.rules_tcc.specs.State.{Awaited, CoreState, Phase, Running, AwaitTid, DoomedTid, Probing, Ready, Overflowing, Solo, Halted, World}
use Rattle.rules_tcc.specs.State.{start, core_start}
use Rattle.rules_tcc.specs.Step.{History, Stepped, core_moves, core_takes, dir_takes, dir_asks, vendor_gives, if_core_moves, if_core_takes}
use Rattle.rules_tcc.specs.Step.{answered, if_vendor_gives, delivered, if_in_flight, names_nodes, happens, step, next_history, recorded}
use Rattle.rules_tcc.specs.Step.{and_then, run_from, run}
use Rattle.rules_tcc.specs.VendorDeliver.{Granted, vendor_deliver}

-- how a core ended that has halted
abbrev pub is_end : Outcome → Bool
is_end (HaltedWith code) = true
is_end (TrappedWith code) = true
is_end _ = false

abbrev pub fits : Phase → Outcome → Bool
fits Halted o = is_end o
fits _ o = true

abbrev pub Fits : CoreState → Type 0
Fits s = fits s.phase s.ended ≡ true

-- however the core's attempt may have ended
abbrev Goes_in : Phase → Type 0
Goes_in q = (o : Outcome) → fits q o ≡ true

abbrev Goes_on : CoreState → Type 0
Goes_on s = Goes_in s.phase

abbrev pub out_fits : Option Out → Bool
out_fits None = true
out_fits (Some o) = fits o.core.phase o.core.ended

abbrev pub OutFits : Option Out → Type 0
OutFits o = out_fits o ≡ true

-- ---- a core commits

committed-fits : (o : Outcome) → fits (phase_after_commit o) (ended_after_commit o) ≡ true
committed-fits Goes = refl
committed-fits Ended = refl
committed-fits (HaltedWith code) = refl
committed-fits (TrappedWith code) = refl

pub commit-fits : (sh : Shape) (c t : ℕ) (s : CoreState) → Fits (commit sh c t s).core
unfolding commit committed_core
commit-fits sh c t s = committed-fits s.ended

pub solo-fits : (sh : Shape) (c t : ℕ) (s : CoreState) → Fits (solo_commit sh c t s).core
unfolding solo_commit committed_core
solo-fits sh c t s = committed-fits s.ended

-- ---- a core executes

finished-fits : (p : Program) (need : Need) (x : ℕ) (s : CoreState) → Goes_on s → Fits (finished p need x s)
unfolding finished one_more_instruction
finished-fits p Nothing x s f = f s.ended
finished-fits p (Loads addr size) x s f = f s.ended
finished-fits p (Stores addr size value) x s f = f s.ended
finished-fits p (Changes addr changed) x s f = f s.ended
finished-fits p (Prints byte) x s f = f s.ended
finished-fits p Ends x s f = f Ended
finished-fits p (Halts code) x s f = f (HaltedWith code)
finished-fits p (Traps code) x s f = f (TrappedWith code)

marked-goes : (w : ℕ) (s : CoreState) → Goes_on s → Goes_on (with_read_mark w s)
unfolding with_read_mark
marked-goes w s f o = let here = f o in grind (arith, nat_tests, here)

full-fits : (sh : Shape) (l : ℕ) (s : CoreState) → OutFits (full_set sh l s)
unfolding full_set overflow
full-fits sh l s = grind (arith, nat_tests)

miss-fits : (sh : Shape) (l : ℕ) (s : CoreState) → Goes_on s → OutFits (miss sh l s)
unfolding miss request_line place
miss-fits sh l s f =
    let here = f s.ended in
    let full = full-fits sh l s in grind (arith, nat_tests, here, full)

valid-fits : (sh : Shape) (p : Program) (need : Need) (w : ℕ) (s : CoreState) → Goes_on s → (v : Option ℕ)
    → OutFits (load_valid sh p need w s v)
valid-fits sh p need w s f (Some x) = finished-fits p need x (with_read_mark w s) (marked-goes w s f)
valid-fits sh p need w s f None = miss-fits sh (line_of w) s f

load-fits : (sh : Shape) (p : Program) (need : Need) (w : ℕ) (s : CoreState) → Goes_on s → OutFits (load sh p need w s)
unfolding load
load-fits sh p need w s f = go (s.spilled w)
  where
    go : (v : Option ℕ) → OutFits (load_spilled sh p need w s v)
    go (Some x) = finished-fits p need x s f
    go None = valid-fits sh p need w s f (s.cache.value w)

store-fits : (sh : Shape) (p : Program) (need : Need) (w x : ℕ) (s : CoreState) → Goes_on s → OutFits (word_store sh p need w x s)
unfolding word_store stored_in_buffer stored_in_frame place
store-fits sh p need w x s f =
    let here : (t : CoreState) → t.phase ≡ s.phase → Fits (finished p need x t)
    = λ t e. finished-fits p need x t (subst Goes_in (sym e) f) in
    let full = full-fits sh (line_of w) s in grind (arith, nat_tests, here, full)

changed-fits : (sh : Shape) (p : Program) (need : Need) (w : ℕ) (s : CoreState) → Goes_on s → (v : Option ℕ)
    → OutFits (change_valid sh p need w s v)
unfolding stored_in_buffer stored_in_frame
changed-fits sh p need w s f None = miss-fits sh (line_of w) s f
changed-fits sh p need w s f (Some x) =
    let here : (t : CoreState) → t.phase ≡ s.phase → Fits (finished p need x t)
    = λ t e. finished-fits p need x t (subst Goes_in (sym e) f) in
    grind (arith, nat_tests, here)

partial-fits : (sh : Shape) (p : Program) (need : Need) (w : ℕ) (s : CoreState) → Goes_on s → OutFits (partial_store sh p need w s)
unfolding partial_store stored_in_buffer
partial-fits sh p need w s f = go (s.spilled w)
  where
    go : (v : Option ℕ) → OutFits (change_spilled sh p need w s v)
    go (Some x) = finished-fits p need x (stored_in_buffer w (new_word need x) s) f
    go None = changed-fits sh p need w s f (s.cache.value w)

sized-fits : (sh : Shape) (p : Program) (addr : ℕ) (size : Size) (value : ℕ) (s : CoreState) → Goes_on s
    → OutFits (store_by_size sh p addr size value s)
sized-fits sh p addr Word value s f = store-fits sh p (Stores addr Word value) (word_of sh.base addr) value s f
sized-fits sh p addr Half value s f = partial-fits sh p (Stores addr Half value) (word_of sh.base addr) s f
sized-fits sh p addr Byte value s f = partial-fits sh p (Stores addr Byte value) (word_of sh.base addr) s f

end-fits : (sh : Shape) (c : ℕ) (q : Phase) (s : CoreState) → Fits (end_transaction sh c q s).core
end-fits sh c (Solo t) s = solo-fits sh c t s
end-fits sh c _ s = refl

need-fits : (sh : Shape) (p : Program) (c : ℕ) (s : CoreState) → Goes_on s → (need : Need) → OutFits (execute_need sh p c s need)
need-fits sh p c s f Nothing = finished-fits p Nothing 0 s f
need-fits sh p c s f (Loads addr size) = load-fits sh p (Loads addr size) (word_of sh.base addr) s f
need-fits sh p c s f (Stores addr size value) = sized-fits sh p addr size value s f
need-fits sh p c s f (Changes addr changed) = partial-fits sh p (Changes addr changed) (word_of sh.base addr) s f
need-fits sh p c s f (Prints byte) = finished-fits p (Prints byte) 0 s f
need-fits sh p c s f Ends = end-fits sh c s.phase (finished p Ends 0 s)
need-fits sh p c s f (Halts code) = end-fits sh c s.phase (finished p (Halts code) 0 s)
need-fits sh p c s f (Traps code) = end-fits sh c s.phase (finished p (Traps code) 0 s)

awaiting-fits : (sh : Shape) (p : Program) (c : ℕ) (s : CoreState) → Goes_on s → (a : Option Awaited)
    → OutFits (unless_awaiting sh p c s a)
unfolding execute
awaiting-fits sh p c s f (Some a) = refl
awaiting-fits sh p c s f None = need-fits sh p c s f (p.need s.local)

phase-fits : (sh : Shape) (p : Program) (c : ℕ) (s : CoreState) (q : Phase) → s.phase ≡ q → OutFits (exec_in_phase sh p c s q)
phase-fits sh p c s Running e = awaiting-fits sh p c s (λ o. rw e refl) s.awaited
phase-fits sh p c s (Solo t) e = awaiting-fits sh p c s (λ o. rw e refl) s.awaited
phase-fits sh p c s (Ready t) e = commit-fits sh c t s
phase-fits sh p c s _ e = refl

pub exec-fits : (sh : Shape) (p : Program) (c : ℕ) (s : CoreState) → OutFits (core_exec sh p c s)
unfolding core_exec
exec-fits sh p c s = phase-fits sh p c s s.phase refl

-- ---- a core evicts, or takes a message

pub evict-fits : (sh : Shape) (x y : ℕ) (s : CoreState) → Fits s → OutFits (core_evict sh x y s)
unfolding core_evict
evict-fits sh x y s f = go (s.cache.at x y)
  where
    go : (l : Option ℕ) → OutFits (evict_line sh x y s l)
    go None = refl
    go (Some l) = grind (arith, nat_tests, f)

granted-fits : (sh : Shape) (t : ℕ) (s : CoreState) → Fits s → (q : Phase) → Fits (grant_in_phase sh t s q).core
granted-fits sh t s f AwaitTid = grind (arith, nat_tests)
granted-fits sh t s f DoomedTid = refl
granted-fits sh t s f (Overflowing None) = refl
granted-fits sh t s f _ = f

replied-fits : (sh : Shape) (d t : ℕ) (s : CoreState) → Fits s → (q : Phase) → Fits (reply_in_phase sh d t s q).core
replied-fits sh d t s f (Probing u) = grind (arith, nat_tests, f)
replied-fits sh d t s f (Overflowing (Some u)) = grind (arith, nat_tests, f)
replied-fits sh d t s f _ = f

filled-fits : (l : ℕ) (ws : List ℕ) (s : CoreState) → Fits s → (a : Option Awaited) → Fits (fill_awaited l ws s a).core
filled-fits l ws s f None = f
filled-fits l ws s f (Some a) = grind (arith, nat_tests, f)

violated-fits : (sh : Shape) (s : CoreState) → Fits s → (q : Phase) → s.phase ≡ q → Fits (violated_in_phase sh s q).core
unfolding roll_back
violated-fits sh s f Running e = rw e refl
violated-fits sh s f AwaitTid e = refl
violated-fits sh s f (Overflowing None) e = refl
violated-fits sh s f (Probing t) e = refl
violated-fits sh s f (Ready t) e = refl
violated-fits sh s f (Overflowing (Some t)) e = refl
violated-fits sh s f (Solo t) e = refl
violated-fits sh s f _ e = f

invalidated-fits : (sh : Shape) (l m u : ℕ) (s : CoreState) → Fits s → Fits (invalidate sh l m u s).core
unfolding invalidate acknowledged if_violated words_invalidated
invalidated-fits sh l m u s f =
    let here = violated-fits sh (words_invalidated l m s) f s.phase refl in grind (arith, nat_tests, f, here)

deliver-fits : (sh : Shape) (s : CoreState) (n : Node) (m : Msg) → Fits s → OutFits (core_deliver sh s n m)
unfolding core_deliver probe_reply fill data_request grant
deliver-fits sh s (Dir d) (ProbeReply t serving) f = replied-fits sh d t s f s.phase
deliver-fits sh s (Dir d) (Fill l ws) f = filled-fits l ws s f s.awaited
deliver-fits sh s (Dir d) (DataReq l) f = f
deliver-fits sh s (Dir d) (Inv l m t) f = invalidated-fits sh l m t s f
deliver-fits sh s (Dir d) _ f = refl
deliver-fits sh s Vendor (TidGrant t) f = granted-fits sh t s f s.phase
deliver-fits sh s Vendor _ f = refl
deliver-fits sh s (Core c) m f = refl

-- ---- in the whole machine

abbrev pub AllFit : World → Type 0
AllFit w = (c : ℕ) → Fits (w.cores c)

abbrev StepFits : Option Stepped → Type 0
StepFits o = IfSome o (λ t. AllFit t.world)

put-fits : (w : World) (c : ℕ) (s : CoreState) → AllFit w → Fits s → (j : ℕ) → Fits (if j == c then s else w.cores j)
put-fits w c s all f j = let there = all j in grind (arith, nat_tests, f, there)

moved-fits : (w : World) (c : ℕ) (o : Option Out) → AllFit w → OutFits o → StepFits (if_core_moves w c o)
unfolding core_moves
moved-fits w c None all f = tt
moved-fits w c (Some o) all f = put-fits w c o.core all f

taken-fits : (w : World) (src : Node) (c k : ℕ) (o : Option Out) → AllFit w → OutFits o → StepFits (if_core_takes w src c k o)
unfolding core_takes
taken-fits w src c k None all f = tt
taken-fits w src c k (Some o) all f = put-fits w c o.core all f

answered-fits : (w : World) (c d k : ℕ) (a : Answer) → AllFit w → StepFits (answered w c d k a)
unfolding dir_takes dir_asks
answered-fits w c d k Waits all = tt
answered-fits w c d k Drops all = all
answered-fits w c d k (Asks s sends) all = all
answered-fits w c d k (Takes s sends) all = all

given-fits : (w : World) (c k : ℕ) (g : Option Granted) → AllFit w → StepFits (if_vendor_gives w c k g)
unfolding vendor_gives
given-fits w c k None all = tt
given-fits w c k (Some g) all = all

delivered-fits : (sh : Shape) (w : World) (src dst : Node) (k : ℕ) (m : Msg) → AllFit w → StepFits (delivered sh w src dst k m)
delivered-fits sh w src (Core c) k m all =
    taken-fits w src c k (core_deliver sh (w.cores c) src m) all (deliver-fits sh (w.cores c) src m (all c))
delivered-fits sh w (Core c) (Dir d) k m all = answered-fits w c d k (dir_deliver sh (w.dirs d) c m) all
delivered-fits sh w (Core c) Vendor k m all = given-fits w c k (vendor_deliver w.next c m) all
delivered-fits sh w _ _ k m all = tt

flying-fits : (sh : Shape) (w : World) (src dst : Node) (k : ℕ) (m : Option Msg) → AllFit w → StepFits (if_in_flight sh w src dst k m)
flying-fits sh w src dst k None all = tt
flying-fits sh w src dst k (Some m) all = delivered-fits sh w src dst k m all

happens-fits : (sh : Shape) (p : Program) (w : World) (e : Event) → AllFit w → StepFits (happens sh p w e)
unfolding happens
happens-fits sh p w (Exec c) all = moved-fits w c (core_exec sh p c (w.cores c)) all (exec-fits sh p c (w.cores c))
happens-fits sh p w (Evict c x y) all = moved-fits w c (core_evict sh x y (w.cores c)) all (evict-fits sh x y (w.cores c) (all c))
happens-fits sh p w (Deliver src dst k) all = flying-fits sh w src dst k (in_flight w.net src dst k) all

step-fits : (sh : Shape) (p : Program) (w : World) (e : Event) → AllFit w → StepFits (step sh p w e)
unfolding step
step-fits sh p w e all = go (names_nodes sh e)
  where
    go : (b : Bool) → StepFits (if b then happens sh p w e else None)
    go true = happens-fits sh p w e all
    go false = tt

runs-fit : (sh : Shape) (p : Program) (es : List Event) (h : History) → AllFit h.world
    → IfSome (run_from sh p es h) (λ g. AllFit g.world)
unfolding run_from next_history
runs-fit sh p [] h all = all
runs-fit sh p (e ∷ es) h all = go (step sh p h.world e) (step-fits sh p h.world e all) (runs-fit sh p es)
  where
    go : (o : Option Stepped) → StepFits o → ((g : History) → AllFit g.world → IfSome (run_from sh p es g) (λ r. AllFit r.world))
        → IfSome (and_then (run_from sh p es) (recorded h o)) (λ r. AllFit r.world)
    go None f rest = tt
    go (Some t) f rest = rest _ f

-- from the start on
pub run-fits : (sh : Shape) (p : Program) (entries : ℕ → Local) (ram : ℕ → ℕ) (es : List Event)
    → IfSome (run sh p (start entries ram) es) (λ h. AllFit h.world)
unfolding run start core_start
run-fits sh p entries ram es = runs-fit sh p es (record { world = start entries ram; commits = [] }) (λ c. refl)
