-- An event of a core changes only the frames that it reaches.
use Rattle.std.proofs.Common.{◌≡◌, ℕ, ◌<◌, ◌==◌, ◌&&◌, ◌||◌, Bool, true, false, not, List, Option, Some, None, is_some}
use Rattle.std.proofs.Common.{if◌then◌else◌, refl, ap, subst, sym, ◌∙◌, arith}
use Rattle.std.proofs.lemmas.Bool.Decides.{nat_tests}
use Rattle.tcc_base.specs.declared.access.Size.{Size}
use Rattle.tcc_base.specs.declared.access.Size.TheVariants.{Byte, Half, Word}
use Rattle.base_lemmas.proofs.Lemmas.{neither-left, neither-right, none_below}
use Rattle.rules_program.specs.Program.{Need, Nothing, Loads, Stores, Changes, Prints, Ends, Halts, Traps, Program}
use Rattle.rules_program.specs.Ram.{word_of}
use Rattle.rules_maps.specs.Cache.{Cache, all_marked, free_way, is_marked}
use Rattle.rules_maps.specs.CacheChange.{cleaned, committed, evicted, evicted_line, filled, invalidated, marked, placed, placed_at}
use Rattle.rules_maps.specs.CacheChange.{read_cleared, rolled_back, stored, words_dropped}
use Rattle.rules_maps.specs.CacheLook.{reads_masked}
use Rattle.rules_maps.specs.CacheUse.{is_number}
use Rattle.rules_maps.specs.Nodes.{Node, Core, Dir, Vendor, Msg, TidReq, TidGrant, LoadReq, Fill, Skip, Probe, ProbeReply, Mark}
use Rattle.rules_maps.specs.Nodes.{Commit, Abort, WriteBack, Flush, DataReq, Inv, InvAck}
use Rattle.rules_maps.specs.Shape.{Shape, set_of}
use Rattle.rules_maps.specs.Spilled.{holds}
use Rattle.rules_maps.specs.Words.{any_below, line_of}
use Rattle.rules_tcc.specs.Attempt.{Out, finished, is_running, is_solo, new_word, roll_back}
use Rattle.rules_tcc.specs.Commit.{commit, committed_core, solo_commit}
use Rattle.rules_tcc.specs.CoreDeliver.{acknowledged, core_deliver, data_request, fill, fill_awaited, from_dir, from_vendor, grant}
use Rattle.rules_tcc.specs.CoreDeliver.{grant_in_phase, if_violated, invalidate, is_violated, may_be_above, probe_reply}
use Rattle.rules_tcc.specs.CoreDeliver.{all_replied, replied, reply_in_phase, violated_in_phase, words_invalidated}
use Rattle.rules_tcc.specs.CoreEvict.{core_evict, evict_line, is_awaited}
use Rattle.rules_tcc.specs.CoreExec.{core_exec, exec_in_phase, unless_awaiting}
use Rattle.rules_tcc.specs.Execute.{change_spilled, change_valid, end_transaction, execute, execute_need, full_set, load, load_spilled}
use Rattle.rules_tcc.specs.Execute.{load_valid, marks_read, miss, overflow, partial_store, place, request_line, store_by_size}
use Rattle.rules_tcc.specs.Execute.{stored_in_buffer, stored_in_frame, with_read_mark, word_store}
use Rattle.rules_tcc.specs.State.{Awaited, CoreState, Phase, Running, AwaitTid, DoomedTid, Probing, Ready, Overflowing, Solo, Halted}
use Rattle.watch_changes.specs.Touched.{More, NoMore, Marked, Every, Reach, frame_of_line, marked_frames, may_hold, more_if_read, no_frame}
use Rattle.watch_changes.specs.Touched.{reach_of_end, reach_of_exec, reach_of_msg, reach_of_need, reach_of_reply}
use Rattle.watch_changes.proofs.KeptFrames.{IsKept, cleaned-keeps, committed-keeps, evicted-keeps, filled-keeps, invalidated-keeps}
use Rattle.watch_changes.proofs.KeptFrames.{kept-self, kept-then, marked-keeps, placed-keeps, read_cleared-keeps}
use Rattle.watch_changes.proofs.KeptFrames.{rolled_back-keeps, stored-keeps}
use Rattle.core_node.proofs.Lemmas.{cache-finished}

-- a line is among those that may change
abbrev pub more_reaches : Cache → More → (line : ℕ) → Bool
more_reaches c NoMore l = false
more_reaches c Marked l = is_marked c l
more_reaches c Every l = true

abbrev pub line_reached : Cache → Reach → (line : ℕ) → Bool
line_reached c r l = is_number r.line l || more_reaches c r.more l

-- the ways of other sets hold what they held, and the frames of other lines are as they were
pub record IsWithin (sh : Shape) (r : Reach) (c d : Cache) : Type 0 where
  pub at : (x y : ℕ) → may_hold sh c r.line x ≡ false → y < sh.ways → c.at x y ≡ d.at x y
  pub kept : (l : ℕ) → line_reached c r l ≡ false → IsKept c d l

abbrev pub OutWithin : Shape → Reach → CoreState → Option Out → Type 0
OutWithin sh r s None = Unit {0}
OutWithin sh r s (Some o) = IsWithin sh r s.cache o.core.cache

within-same : (sh : Shape) (r : Reach) (c d : Cache) → c ≡ d → IsWithin sh r c d
within-same sh r c d e =
    subst (λ b. IsWithin sh r c b) e (record { at = λ x y h b. refl; kept = λ l h. kept-self c l })

if-within : (sh : Shape) (r : Reach) (s : CoreState) (b : Bool) (x y : Option Out) → OutWithin sh r s x → OutWithin sh r s y
    → OutWithin sh r s (if b then x else y)
if-within sh r s true x y p q = p
if-within sh r s false x y p q = q

-- ---- a line alone

-- a change of the words of a line, or of a line and of marked frames, where all ways hold what they held
of-line : (sh : Shape) (l : ℕ) (m : More) (c d : Cache) → c.at ≡ d.at → ((j : ℕ) → (l == j) ≡ false → IsKept c d j)
    → IsWithin sh (record { line = Some l; more = m }) c d
of-line sh l m c d e kept = record {
  at = λ x y h b. ap (λ f. f x y) e;
  kept = λ j h. kept j (neither-left (l == j) (more_reaches c m j) h);
}

of-marks : (sh : Shape) (c d : Cache) → c.at ≡ d.at → ((j : ℕ) → is_marked c j ≡ false → IsKept c d j) → IsWithin sh marked_frames c d
of-marks sh c d e kept = record { at = λ x y h b. ap (λ f. f x y) e; kept = λ j h. kept j h }

set-apart : (sh : Shape) (c : Cache) (l x : ℕ) → may_hold sh c (Some l) x ≡ false → (x == set_of sh l) ≡ false
set-apart sh c l x h =
    let e = neither-left (set_of sh l == x) (any_below (λ y. is_number (c.at x y) l) sh.ways) h in
    turned (set_of sh l) x e
  where
    turned : (a b : ℕ) → (a == b) ≡ false → (b == a) ≡ false
    turned a b e = grind (arith, nat_tests)

-- the line gets a way of its own set, and then its words change
place-at : (sh : Shape) (l : ℕ) (c : Cache) (x y : ℕ) → may_hold sh c (Some l) x ≡ false → c.at x y ≡ (placed sh l c).at x y
unfolding placed placed_at
place-at sh l c x y h = go (free_way sh c (set_of sh l))
  where
    go : (o : Option ℕ) → c.at x y ≡ (placed_at o (set_of sh l) l c).at x y
    go None = refl
    go (Some z) = rw (set-apart sh c l x h) refl

of-place : (sh : Shape) (l : ℕ) (c d : Cache) → (placed sh l c).at ≡ d.at → ((j : ℕ) → (l == j) ≡ false → IsKept (placed sh l c) d j)
    → IsWithin sh (frame_of_line l) c d
of-place sh l c d e kept = record {
  at = λ x y h b. place-at sh l c x y h ∙ ap (λ f. f x y) e;
  kept = λ j h. kept-then c (placed sh l c) d j (placed-keeps sh l j c) (kept j (neither-left (l == j) false h));
}

-- ---- an instruction

-- where the instruction is finished after a change of the cache
finish-within : (sh : Shape) (r : Reach) (p : Program) (need : Need) (x : ℕ) (c : Cache) (s : CoreState) → IsWithin sh r c s.cache
    → IsWithin sh r c (finished p need x s).cache
finish-within sh r p need x c s h = subst (λ d. IsWithin sh r c d) (sym (cache-finished p need x s)) h

full-within : (sh : Shape) (r : Reach) (l : ℕ) (s : CoreState) → OutWithin sh r s (full_set sh l s)
unfolding full_set overflow
full-within sh r l s =
    if-within sh r s (is_solo s.phase || not (all_marked sh s.cache (set_of sh l))) None (Some (overflow s)) (record {})
    (within-same sh r s.cache s.cache refl)

miss-within : (sh : Shape) (l : ℕ) (s : CoreState) → OutWithin sh (frame_of_line l) s (miss sh l s)
unfolding miss request_line place
miss-within sh l s =
    let r : Reach = frame_of_line l in
    if-within sh r s (s.cache.held l) (Some (request_line sh l s)) _ (within-same sh r s.cache s.cache refl)
    (if-within sh r s (is_some (free_way sh s.cache (set_of sh l))) (Some (request_line sh l (place sh l s))) (full_set sh l s)
    (of-place sh l s.cache (placed sh l s.cache) refl (λ j h. kept-self (placed sh l s.cache) j)) (full-within sh r l s))

mark-within : (sh : Shape) (w : ℕ) (s : CoreState) → IsWithin sh (frame_of_line (line_of w)) s.cache (with_read_mark w s).cache
unfolding with_read_mark marked
mark-within sh w s = go (is_running s.phase)
  where
    go : (b : Bool) → IsWithin sh (frame_of_line (line_of w)) s.cache (if b then record s { cache = marked w s.cache } else s).cache
    go true = of-line sh (line_of w) NoMore s.cache (marked w s.cache) refl (λ j h. marked-keeps w j s.cache h)
    go false = within-same sh (frame_of_line (line_of w)) s.cache s.cache refl

load-within : (sh : Shape) (p : Program) (need : Need) (w : ℕ) (s : CoreState)
    → OutWithin sh (frame_of_line (line_of w)) s (load sh p need w s)
unfolding load
load-within sh p need w s = go (s.spilled w)
  where
    valid : (o : Option ℕ) → OutWithin sh (frame_of_line (line_of w)) s (load_valid sh p need w s o)
    valid None = miss-within sh (line_of w) s
    valid (Some x) = finish-within sh (frame_of_line (line_of w)) p need x s.cache (with_read_mark w s) (mark-within sh w s)

    go : (o : Option ℕ) → OutWithin sh (frame_of_line (line_of w)) s (load_spilled sh p need w s o)
    go None = valid (s.cache.value w)
    go (Some x) =
        finish-within sh (frame_of_line (line_of w)) p need x s.cache s
        (within-same sh (frame_of_line (line_of w)) s.cache s.cache refl)

buffer-within : (sh : Shape) (r : Reach) (w x : ℕ) (s : CoreState) → IsWithin sh r s.cache (stored_in_buffer w x s).cache
unfolding stored_in_buffer
buffer-within sh r w x s = within-same sh r s.cache s.cache refl

frame-within : (sh : Shape) (w x : ℕ) (read : Bool) (s : CoreState)
    → IsWithin sh (frame_of_line (line_of w)) s.cache (stored_in_frame w x read s).cache
unfolding stored_in_frame stored
frame-within sh w x read s =
    of-line sh (line_of w) NoMore s.cache (stored w x read s.cache) refl (λ j h. stored-keeps w x read j s.cache h)

new-frame-within : (sh : Shape) (w x : ℕ) (s : CoreState)
    → IsWithin sh (frame_of_line (line_of w)) s.cache (stored_in_frame w x false (place sh (line_of w) s)).cache
unfolding stored_in_frame place stored
new-frame-within sh w x s =
    let c = placed sh (line_of w) s.cache in
    of-place sh (line_of w) s.cache (stored w x false c) refl (λ j h. stored-keeps w x false j c h)

store-within : (sh : Shape) (p : Program) (need : Need) (w x : ℕ) (s : CoreState)
    → OutWithin sh (frame_of_line (line_of w)) s (word_store sh p need w x s)
unfolding word_store
store-within sh p need w x s =
    let l = line_of w in
    let r : Reach = frame_of_line l in
    if-within sh r s (holds s.spilled l) _ _
    (finish-within sh r p need x s.cache (stored_in_buffer w x s) (buffer-within sh r w x s))
    (if-within sh r s (s.cache.held l) _ _
    (finish-within sh r p need x s.cache (stored_in_frame w x false s) (frame-within sh w x false s))
    (if-within sh r s (is_some (free_way sh s.cache (set_of sh l))) _ (full_set sh l s)
    (finish-within sh r p need x s.cache (stored_in_frame w x false (place sh l s)) (new-frame-within sh w x s))
    (full-within sh r l s)))

partial-within : (sh : Shape) (p : Program) (need : Need) (w : ℕ) (s : CoreState)
    → OutWithin sh (frame_of_line (line_of w)) s (partial_store sh p need w s)
unfolding partial_store
partial-within sh p need w s = go (s.spilled w)
  where
    valid : (o : Option ℕ) → OutWithin sh (frame_of_line (line_of w)) s (change_valid sh p need w s o)
    valid None = miss-within sh (line_of w) s
    valid (Some x) =
        if-within sh (frame_of_line (line_of w)) s (holds s.spilled (line_of w)) _ _
        (finish-within sh (frame_of_line (line_of w)) p need x s.cache (stored_in_buffer w (new_word need x) s)
        (buffer-within sh (frame_of_line (line_of w)) w (new_word need x) s))
        (finish-within sh (frame_of_line (line_of w)) p need x s.cache (stored_in_frame w (new_word need x) (marks_read w s) s)
        (frame-within sh w (new_word need x) (marks_read w s) s))

    go : (o : Option ℕ) → OutWithin sh (frame_of_line (line_of w)) s (change_spilled sh p need w s o)
    go None = valid (s.cache.value w)
    go (Some x) =
        finish-within sh (frame_of_line (line_of w)) p need x s.cache (stored_in_buffer w (new_word need x) s)
        (buffer-within sh (frame_of_line (line_of w)) w (new_word need x) s)

-- the end of a transaction, whose last instruction left the cache
end-within : (sh : Shape) (id : ℕ) (s t : CoreState) (f : Phase) → t.cache ≡ s.cache
    → OutWithin sh (reach_of_end f) s (Some (end_transaction sh id f t))
unfolding solo_commit words_dropped committed
end-within sh id s t (Solo u) e = record {
  at = λ x y h b. ap (λ c. c.at x y) (sym e);
  kept = λ l h. absurd (cc);
}
end-within sh id s t Running e = within-same sh no_frame s.cache t.cache (sym e)
end-within sh id s t AwaitTid e = within-same sh no_frame s.cache t.cache (sym e)
end-within sh id s t DoomedTid e = within-same sh no_frame s.cache t.cache (sym e)
end-within sh id s t (Probing u) e = within-same sh no_frame s.cache t.cache (sym e)
end-within sh id s t (Ready u) e = within-same sh no_frame s.cache t.cache (sym e)
end-within sh id s t (Overflowing u) e = within-same sh no_frame s.cache t.cache (sym e)
end-within sh id s t Halted e = within-same sh no_frame s.cache t.cache (sym e)

size-within : (sh : Shape) (p : Program) (addr : ℕ) (size : Size) (value : ℕ) (s : CoreState)
    → OutWithin sh (frame_of_line (line_of (word_of sh.base addr))) s (store_by_size sh p addr size value s)
size-within sh p addr Word value s = store-within sh p (Stores addr Word value) (word_of sh.base addr) value s
size-within sh p addr Half value s = partial-within sh p (Stores addr Half value) (word_of sh.base addr) s
size-within sh p addr Byte value s = partial-within sh p (Stores addr Byte value) (word_of sh.base addr) s

need-within : (sh : Shape) (p : Program) (id : ℕ) (s : CoreState) (need : Need)
    → OutWithin sh (reach_of_need sh s.phase need) s (execute_need sh p id s need)
need-within sh p id s Nothing = within-same sh no_frame s.cache _ (sym (cache-finished p Nothing 0 s))
need-within sh p id s (Loads addr size) = load-within sh p (Loads addr size) (word_of sh.base addr) s
need-within sh p id s (Stores addr size value) = size-within sh p addr size value s
need-within sh p id s (Changes addr changed) = partial-within sh p (Changes addr changed) (word_of sh.base addr) s
need-within sh p id s (Prints byte) = within-same sh no_frame s.cache _ (sym (cache-finished p (Prints byte) 0 s))
need-within sh p id s Ends = end-within sh id s (finished p Ends 0 s) s.phase (cache-finished p Ends 0 s)
need-within sh p id s (Halts code) = end-within sh id s (finished p (Halts code) 0 s) s.phase (cache-finished p (Halts code) 0 s)
need-within sh p id s (Traps code) = end-within sh id s (finished p (Traps code) 0 s) s.phase (cache-finished p (Traps code) 0 s)

-- ---- Exec

commit-within : (sh : Shape) (id t : ℕ) (s : CoreState) → IsWithin sh marked_frames s.cache (commit sh id t s).core.cache
unfolding commit committed_core committed
commit-within sh id t s = of-marks sh s.cache (committed t s.cache) refl (λ j h. committed-keeps t s.cache j h)

pub exec-within : (sh : Shape) (p : Program) (id : ℕ) (s : CoreState)
    → OutWithin sh (reach_of_exec sh (p.need s.local) s.phase) s (core_exec sh p id s)
unfolding core_exec execute
exec-within sh p id s = go s.phase refl
  where
    executes : (f : Phase) → s.phase ≡ f → OutWithin sh (reach_of_need sh f (p.need s.local)) s (execute sh p id s)
    executes f e =
        subst (λ g. OutWithin sh (reach_of_need sh g (p.need s.local)) s (execute sh p id s)) e (need-within sh p id s (p.need s.local))

    awaiting : (f : Phase) → s.phase ≡ f → (a : Option Awaited)
        → OutWithin sh (reach_of_need sh f (p.need s.local)) s (unless_awaiting sh p id s a)
    awaiting f e None = executes f e
    awaiting f e (Some a) = record {}

    go : (f : Phase) → s.phase ≡ f → OutWithin sh (reach_of_exec sh (p.need s.local) f) s (exec_in_phase sh p id s f)
    go Running e = awaiting Running e s.awaited
    go (Solo t) e = awaiting (Solo t) e s.awaited
    go (Ready t) e = commit-within sh id t s
    go AwaitTid e = record {}
    go DoomedTid e = record {}
    go (Probing t) e = record {}
    go (Overflowing t) e = record {}
    go Halted e = record {}

-- ---- Evict

held-there : (sh : Shape) (c : Cache) (x y l : ℕ) → c.at x y ≡ Some l → may_hold sh c (Some l) x ≡ false → y < sh.ways → Unit {0} → ⊥
held-there sh c x y l e h b u =
    let none = none_below (λ z. is_number (c.at x z) l) sh.ways y
    (neither-right (set_of sh l == x) (any_below (λ z. is_number (c.at x z) l) sh.ways) h) b in
    let same : (l == l) ≡ false = sym (ap (λ o. is_number o l) e) ∙ none in
    grind (arith, nat_tests)

emptied : (sh : Shape) (x y l : ℕ) (c : Cache) → c.at x y ≡ Some l → IsWithin sh (frame_of_line l) c (evicted_line (Some l) x y c)
unfolding evicted_line
emptied sh x y l c e = record {
  at = λ v z h b. go v z h b (v == x) (z == y) refl refl;
  kept = λ j h. evicted-keeps l x y j c (neither-left (l == j) false h);
}
  where
    go : (v z : ℕ) → may_hold sh c (Some l) v ≡ false → z < sh.ways → (a b : Bool) → (v == x) ≡ a → (z == y) ≡ b
        → c.at v z ≡ (if a && b then None else c.at v z)
    go v z h k false b p q = refl
    go v z h k true false p q = refl
    go v z h k true true p q =
        let set : v ≡ x = grind (arith, nat_tests) in
        let way : z ≡ y = grind (arith, nat_tests) in
        absurd (held-there sh c v z l ((λ i. c.at (set i) (way i)) ∙ e) h k (record {}))

pub evict-within : (sh : Shape) (x y : ℕ) (s : CoreState)
    → OutWithin sh (record { line = s.cache.at x y; more = NoMore }) s (core_evict sh x y s)
unfolding core_evict evicted
evict-within sh x y s = go (s.cache.at x y) refl
  where
    go : (o : Option ℕ) → s.cache.at x y ≡ o → OutWithin sh (record { line = o; more = NoMore }) s (evict_line sh x y s o)
    go None e = record {}
    go (Some l) e =
        if-within sh (frame_of_line l) s (is_awaited s.awaited l || (is_marked s.cache l && not (is_solo s.phase))) None _ (record {})
        (subst (λ o. IsWithin sh (frame_of_line l) s.cache (evicted_line o x y s.cache)) (sym e) (emptied sh x y l s.cache e))

-- ---- Deliver

grant-within : (sh : Shape) (r : Reach) (t : ℕ) (s : CoreState) → IsWithin sh r s.cache (grant sh t s).core.cache
unfolding grant
grant-within sh r t s = go s.phase
  where
    go : (f : Phase) → IsWithin sh r s.cache (grant_in_phase sh t s f).core.cache
    go Running = within-same sh r s.cache s.cache refl
    go AwaitTid = within-same sh r s.cache s.cache refl
    go DoomedTid = within-same sh r s.cache s.cache refl
    go (Probing u) = within-same sh r s.cache s.cache refl
    go (Ready u) = within-same sh r s.cache s.cache refl
    go (Overflowing None) = within-same sh r s.cache s.cache refl
    go (Overflowing (Some u)) = within-same sh r s.cache s.cache refl
    go (Solo u) = within-same sh r s.cache s.cache refl
    go Halted = within-same sh r s.cache s.cache refl

one-within : (sh : Shape) (r : Reach) (c : Cache) (b : Bool) (x y : Out) → IsWithin sh r c x.core.cache → IsWithin sh r c y.core.cache
    → IsWithin sh r c (if b then x else y).core.cache
one-within sh r c true x y p q = p
one-within sh r c false x y p q = q

state-within : (sh : Shape) (r : Reach) (c : Cache) (b : Bool) (x y : CoreState) → IsWithin sh r c x.cache → IsWithin sh r c y.cache
    → IsWithin sh r c (if b then x else y).cache
state-within sh r c true x y p q = p
state-within sh r c false x y p q = q

reply-within : (sh : Shape) (d t : ℕ) (s : CoreState) → IsWithin sh (reach_of_reply s.phase) s.cache (probe_reply sh d t s).core.cache
unfolding probe_reply read_cleared
reply-within sh d t s = go s.phase
  where
    go : (f : Phase) → IsWithin sh (reach_of_reply f) s.cache (reply_in_phase sh d t s f).core.cache
    go Running = within-same sh no_frame s.cache s.cache refl
    go AwaitTid = within-same sh no_frame s.cache s.cache refl
    go DoomedTid = within-same sh no_frame s.cache s.cache refl
    go (Probing u) =
        one-within sh no_frame s.cache (u == t && s.owing d) _ _
        (state-within sh no_frame s.cache (all_replied sh (replied d s).owing) (record (replied d s) { phase = Ready t }) (replied d s)
        (within-same sh no_frame s.cache s.cache refl) (within-same sh no_frame s.cache s.cache refl))
        (within-same sh no_frame s.cache s.cache refl)
    go (Ready u) = within-same sh no_frame s.cache s.cache refl
    go (Overflowing None) = within-same sh marked_frames s.cache s.cache refl
    go (Overflowing (Some u)) =
        one-within sh marked_frames s.cache (u == t && s.owing d) _ _
        (state-within sh marked_frames s.cache (all_replied sh (replied d s).owing)
        (record (replied d s) { phase = Solo t; cache = read_cleared s.cache }) (replied d s)
        (of-marks sh s.cache (read_cleared s.cache) refl (λ j h. read_cleared-keeps s.cache j h))
        (within-same sh marked_frames s.cache s.cache refl))
        (within-same sh marked_frames s.cache s.cache refl)
    go (Solo u) = within-same sh no_frame s.cache s.cache refl
    go Halted = within-same sh no_frame s.cache s.cache refl

fill-within : (sh : Shape) (l : ℕ) (ws : List ℕ) (s : CoreState) → IsWithin sh (frame_of_line l) s.cache (fill l ws s).core.cache
unfolding fill filled
fill-within sh l ws s = go s.awaited
  where
    r : Reach
    r = frame_of_line l

    filled-or-stale : (b : Bool) → IsWithin sh r s.cache (if b then s.cache else filled l ws s.cache)
    filled-or-stale true = within-same sh r s.cache s.cache refl
    filled-or-stale false = of-line sh l NoMore s.cache (filled l ws s.cache) refl (λ j h. filled-keeps l ws j s.cache h)

    go : (o : Option Awaited) → IsWithin sh r s.cache (fill_awaited l ws s o).core.cache
    go None = within-same sh r s.cache s.cache refl
    go (Some a) = one-within sh r s.cache (a.line == l) _ _ (filled-or-stale a.stale) (within-same sh r s.cache s.cache refl)

request-within : (sh : Shape) (l : ℕ) (s : CoreState) → IsWithin sh (frame_of_line l) s.cache (data_request sh l s).core.cache
unfolding data_request cleaned
request-within sh l s = of-line sh l NoMore s.cache (cleaned l s.cache) refl (λ j h. cleaned-keeps l j s.cache h)

-- words become invalid, and the core may roll back then
invalid-within : (sh : Shape) (l m : ℕ) (more : More) (c : Cache)
    → IsWithin sh (record { line = Some l; more = more }) c (invalidated l m c)
unfolding invalidated
invalid-within sh l m more c = of-line sh l more c (invalidated l m c) refl (λ j h. invalidated-keeps l m j c h)

marks-stay : (l m j : ℕ) (c : Cache) → is_marked (invalidated l m c) j ≡ is_marked c j
unfolding is_marked invalidated
marks-stay l m j c = refl

back-within : (sh : Shape) (l m : ℕ) (c : Cache)
    → IsWithin sh (record { line = Some l; more = Marked }) c (rolled_back (invalidated l m c))
unfolding invalidated rolled_back
back-within sh l m c = record {
  at = λ x y h b. refl;
  kept = λ j h. kept-then c (invalidated l m c) (rolled_back (invalidated l m c)) j
      (invalidated-keeps l m j c (neither-left (l == j) (is_marked c j) h))
      (rolled_back-keeps (invalidated l m c) j (marks-stay l m j c ∙ neither-right (l == j) (is_marked c j) h));
}

violated-within : (sh : Shape) (l m : ℕ) (s t : CoreState) → t.cache ≡ invalidated l m s.cache → (f : Phase)
    → IsWithin sh (record { line = Some l; more = Marked }) s.cache (violated_in_phase sh t f).core.cache
unfolding roll_back
violated-within sh l m s t e f = go f
  where
    r : Reach
    r = record { line = Some l; more = Marked }

    back : IsWithin sh r s.cache (rolled_back t.cache)
    back = subst (λ c. IsWithin sh r s.cache (rolled_back c)) (sym e) (back-within sh l m s.cache)

    stays : IsWithin sh r s.cache t.cache
    stays = subst (λ c. IsWithin sh r s.cache c) (sym e) (invalid-within sh l m Marked s.cache)

    go : (f : Phase) → IsWithin sh r s.cache (violated_in_phase sh t f).core.cache
    go Running = back
    go AwaitTid = back
    go DoomedTid = stays
    go (Probing u) = back
    go (Ready u) = back
    go (Overflowing None) = back
    go (Overflowing (Some u)) = back
    go (Solo u) = back
    go Halted = stays

inv-within : (sh : Shape) (l m u : ℕ) (s : CoreState)
    → IsWithin sh (record { line = Some l; more = more_if_read (reads_masked l m s.cache) }) s.cache (invalidate sh l m u s).core.cache
unfolding invalidate acknowledged if_violated is_violated words_invalidated
inv-within sh l m u s = go (reads_masked l m s.cache)
  where
    t : CoreState
    t = words_invalidated l m s

    go : (b : Bool) → IsWithin sh (record { line = Some l; more = more_if_read b }) s.cache
        (if_violated sh (b && may_be_above u s.phase) t).core.cache
    go true =
        one-within sh (record { line = Some l; more = Marked }) s.cache (may_be_above u s.phase) _ _
        (violated-within sh l m s t refl t.phase) (invalid-within sh l m Marked s.cache)
    go false = invalid-within sh l m NoMore s.cache

from-dir-within : (sh : Shape) (d : ℕ) (s : CoreState) (m : Msg) → OutWithin sh (reach_of_msg s m) s (from_dir sh d s m)
from-dir-within sh d s TidReq = record {}
from-dir-within sh d s (TidGrant t) = record {}
from-dir-within sh d s (LoadReq l after) = record {}
from-dir-within sh d s (Fill l ws) = fill-within sh l ws s
from-dir-within sh d s (Skip t) = record {}
from-dir-within sh d s (Probe t) = record {}
from-dir-within sh d s (ProbeReply t v) = reply-within sh d t s
from-dir-within sh d s (Mark l m t) = record {}
from-dir-within sh d s (Commit t count) = record {}
from-dir-within sh d s (Abort t) = record {}
from-dir-within sh d s (WriteBack l m ws g) = record {}
from-dir-within sh d s (Flush l m ws g) = record {}
from-dir-within sh d s (DataReq l) = request-within sh l s
from-dir-within sh d s (Inv l m t) = inv-within sh l m t s
from-dir-within sh d s (InvAck l keeps) = record {}

from-vendor-within : (sh : Shape) (s : CoreState) (m : Msg) → OutWithin sh (reach_of_msg s m) s (from_vendor sh s m)
from-vendor-within sh s TidReq = record {}
from-vendor-within sh s (TidGrant t) = grant-within sh no_frame t s
from-vendor-within sh s (LoadReq l after) = record {}
from-vendor-within sh s (Fill l ws) = record {}
from-vendor-within sh s (Skip t) = record {}
from-vendor-within sh s (Probe t) = record {}
from-vendor-within sh s (ProbeReply t v) = record {}
from-vendor-within sh s (Mark l m t) = record {}
from-vendor-within sh s (Commit t count) = record {}
from-vendor-within sh s (Abort t) = record {}
from-vendor-within sh s (WriteBack l m ws g) = record {}
from-vendor-within sh s (Flush l m ws g) = record {}
from-vendor-within sh s (DataReq l) = record {}
from-vendor-within sh s (Inv l m t) = record {}
from-vendor-within sh s (InvAck l keeps) = record {}

pub deliver-within : (sh : Shape) (s : CoreState) (src : Node) (m : Msg) → OutWithin sh (reach_of_msg s m) s (core_deliver sh s src m)
unfolding core_deliver
deliver-within sh s (Dir d) m = from-dir-within sh d s m
deliver-within sh s Vendor m = from-vendor-within sh s m
deliver-within sh s (Core c) m = record {}
