-- What a core sends fits: to directories that the machine has, and to the vendor requests for TIDs.
use Rattle.std.specs.Prelude.{ℕ, ◌≡◌, ◌<◌, ◌≤◌, Bool, true, false, not, ◌==◌, ◌&&◌, ◌||◌, List, [], ◌∷◌, ◌++◌, Option, Some, None, is_some}
use Rattle.std.specs.Prelude.{IfSome, if◌then◌else◌}
use Rattle.std.specs.List.{flat_map}
use Rattle.std.proofs.Common.{arith, refl}
use Rattle.tcc_base.specs.declared.access.Size.TheVariants.{Byte, Half, Word}
use Rattle.rules_program.specs.Program.{Need, Nothing, Loads, Stores, Changes, Prints, Ends, Halts, Traps, Program}
use Rattle.rules_program.specs.Ram.{word_of}
use Rattle.rules_maps.specs.Words.{line_of, those, count_below}
use Rattle.rules_maps.specs.Cache.{Cache, free_way, all_marked, modified_mask, is_modified, dirty_copy, written_lines, writes_at, reads_at}
use Rattle.rules_maps.specs.Nodes.{Core, Dir, Vendor, Msg, TidReq, LoadReq, Fill, Skip, Probe, ProbeReply, Mark, Commit, Abort, WriteBack}
use Rattle.rules_maps.specs.Nodes.{Flush, DataReq, Inv, InvAck, Tagged}
use Rattle.rules_maps.specs.Shape.{Shape, home, lines, set_of}
use Rattle.rules_maps.specs.Spilled.{Spilled, holds, spilled_mask, spilled_words}
use Rattle.rules_tcc.specs.State.{CoreState, Awaited, Phase, Running, AwaitTid, DoomedTid, Probing, Ready, Overflowing, Solo}
use Rattle.rules_tcc.specs.Attempt.{Out, is_solo, finished}
use Rattle.rules_tcc.specs.Commit.{commit_sends, commit, is_written, written_mask, solo_writes_at, solo_marks_or_skip, solo_write_backs}
use Rattle.rules_tcc.specs.Commit.{solo_sends, solo_commit}
use Rattle.rules_tcc.specs.CoreDeliver.{grant_sends, grant_in_phase, grant, reply_in_phase, probe_reply, fill_awaited, fill, data_request}
use Rattle.rules_tcc.specs.CoreDeliver.{violated_in_phase, if_violated, is_violated, words_invalidated, acknowledged, invalidate, from_dir}
use Rattle.rules_tcc.specs.CoreDeliver.{ignored}
use Rattle.rules_tcc.specs.CoreEvict.{core_evict}
use Rattle.rules_tcc.specs.CoreExec.{unless_awaiting, exec_in_phase, core_exec}
use Rattle.rules_tcc.specs.Execute.{request_line, place, overflow, full_set, miss, load_valid, load_spilled, load, word_store, change_valid}
use Rattle.rules_tcc.specs.Execute.{change_spilled, partial_store, end_transaction, execute_need, execute}
use Rattle.rules_tcc.specs.Sends.{to, when, write_back_of, flush_of, write_back_line, flush_line, skip_all, probe_all, abort_written}
use Rattle.rules_tcc.specs.Sends.{marks_for}
use Rattle.rules_tcc.proofs.Lemmas.{each-evict}
use Rattle.theorem_live.proofs.Strays.{strays, AllFit, strays-append, strays-none, strays-flat, strays-when, out_fits, ask_fits}
use Rattle.theorem_live.proofs.Strays.{fit-nothing}
use Rattle.theorem_live.proofs.Strays.{fit-then, fit-to, fit-dirs}

-- a core of a machine that has a directory
pub record IsCore (sh : Shape) (c : ℕ) : Type 0 where
  pub core : c < sh.cores
  pub dirs : 1 ≤ sh.dirs

abbrev pub Fit : Shape → ℕ → Out → Type 0
Fit sh c o = AllFit sh (Core c) o.sends

-- what goes to all directories

skips : (sh : Shape) (c t : ℕ) → IsCore sh c → AllFit sh (Core c) (skip_all sh t)
unfolding skip_all
skips sh c t k = fit-dirs sh (Core c) (λ d. Skip t ∷ []) (λ d i. out_fits sh c d (Skip t) k.core i refl)

probes : (sh : Shape) (c t : ℕ) → IsCore sh c → AllFit sh (Core c) (probe_all sh t)
unfolding probe_all
probes sh c t k = fit-dirs sh (Core c) (λ d. Probe t ∷ []) (λ d i. out_fits sh c d (Probe t) k.core i refl)

aborts : (sh : Shape) (c : ℕ) (s : Cache) (t : ℕ) → IsCore sh c → AllFit sh (Core c) (abort_written sh s t)
unfolding abort_written
aborts sh c s t k = fit-dirs sh (Core c) (λ d. when (writes_at sh s d) (Abort t ∷ []))
    (λ d i. strays-when sh (Core c) (Dir d) (writes_at sh s d) (Abort t ∷ []) (out_fits sh c d (Abort t) k.core i refl))

grants : (sh : Shape) (c : ℕ) (s : Cache) (t : ℕ) → IsCore sh c → AllFit sh (Core c) (grant_sends sh s t)
unfolding grant_sends
grants sh c s t k = fit-dirs sh (Core c) (λ d. skip d ++ probe d) each
  where
    skip : ℕ → List Msg
    skip d = when (not (writes_at sh s d)) (Skip t ∷ [])

    probe : ℕ → List Msg
    probe d = when (writes_at sh s d || reads_at sh s d) (Probe t ∷ [])

    each : (d : ℕ) → d < sh.dirs → strays sh (Core c) (Dir d) (skip d ++ probe d) ≡ 0
    each d i = omega (
      arith,
      strays-append sh (Core c) (Dir d) (skip d) (probe d),
      strays-when sh (Core c) (Dir d) (not (writes_at sh s d)) (Skip t ∷ []) (out_fits sh c d (Skip t) k.core i refl),
      strays-when sh (Core c) (Dir d) (writes_at sh s d || reads_at sh s d) (Probe t ∷ []) (out_fits sh c d (Probe t) k.core i refl),
    )

commits : (sh : Shape) (c : ℕ) (s : Cache) (t : ℕ) → IsCore sh c → AllFit sh (Core c) (commit_sends sh s t)
unfolding commit_sends
commits sh c s t k = fit-dirs sh (Core c) (λ d. when (writes_at sh s d) (done d ∷ []))
    (λ d i. strays-when sh (Core c) (Dir d) (writes_at sh s d) (done d ∷ []) (out_fits sh c d (done d) k.core i refl))
  where
    done : ℕ → Msg
    done d = Commit t (count_below (λ l. d == home sh l && is_modified s l) (lines sh))

-- Marks to one directory
marks : (sh : Shape) (c d t : ℕ) (mask : ℕ → ℕ) (ls : List ℕ) → IsCore sh c → d < sh.dirs
    → strays sh (Core c) (Dir d) (flat_map (λ l. Mark l (mask l) t ∷ []) ls) ≡ 0
marks sh c d t mask ls k i = strays-flat sh (Core c) (Dir d) (λ l. Mark l (mask l) t ∷ [])
    (λ l. out_fits sh c d (Mark l (mask l) t) k.core i refl) ls

solos : (sh : Shape) (c : ℕ) (s : Cache) (sp : Spilled) (t : ℕ) → IsCore sh c → AllFit sh (Core c) (solo_sends sh s sp t)
unfolding solo_sends solo_marks_or_skip solo_write_backs
solos sh c s sp t k = fit-dirs sh (Core c) (λ d. solo_marks_or_skip sh s sp t d ++ solo_write_backs sh sp t d) each
  where
    back : ℕ → Msg
    back l = WriteBack l (spilled_mask sp l) (spilled_words sp l) t

    written : ℕ → List ℕ
    written d = those (λ l. d == home sh l && is_written s sp l) (lines sh)

    marked : ℕ → List Msg
    marked d = flat_map (λ l. Mark l (written_mask s sp l) t ∷ []) (written d)

    done : ℕ → Msg
    done d = Commit t (count_below (λ l. d == home sh l && is_written s sp l) (lines sh))

    backs : (d : ℕ) → d < sh.dirs → strays sh (Core c) (Dir d) (solo_write_backs sh sp t d) ≡ 0
    backs d i = strays-flat sh (Core c) (Dir d) (λ l. back l ∷ []) (λ l. out_fits sh c d (back l) k.core i refl)
        (those (λ l. d == home sh l && holds sp l) (lines sh))

    first : (d : ℕ) → d < sh.dirs → (b : Bool) → strays sh (Core c) (Dir d) (if b then marked d ++ done d ∷ [] else Skip t ∷ []) ≡ 0
    first d i false = out_fits sh c d (Skip t) k.core i refl
    first d i true = omega (
      arith,
      strays-append sh (Core c) (Dir d) (marked d) (done d ∷ []),
      marks sh c d t (written_mask s sp) (written d) k i,
      out_fits sh c d (done d) k.core i refl,
    )

    each : (d : ℕ) → d < sh.dirs → strays sh (Core c) (Dir d) (solo_marks_or_skip sh s sp t d ++ solo_write_backs sh sp t d) ≡ 0
    each d i = omega (
      arith,
      strays-append sh (Core c) (Dir d) (solo_marks_or_skip sh s sp t d) (solo_write_backs sh sp t d),
      first d i (solo_writes_at sh s sp d),
      backs d i,
    )

-- to a line's home

at_home : (sh : Shape) (c l : ℕ) (ms : List Msg) → IsCore sh c → ((d : ℕ) → d < sh.dirs → strays sh (Core c) (Dir d) ms ≡ 0)
    → AllFit sh (Core c) (to (Dir (home sh l)) ms)
at_home sh c l ms k h = fit-to sh (Core c) (Dir (home sh l)) ms (h (home sh l) (let n = k.dirs in omega arith))

flushes : (sh : Shape) (c : ℕ) (s : Cache) (l : ℕ) → IsCore sh c → AllFit sh (Core c) (flush_line sh s l)
unfolding flush_line
flushes sh c s l k = at_home sh c l (flush_of (dirty_copy s l)) k (λ d i. go d i (dirty_copy s l))
  where
    go : (d : ℕ) → d < sh.dirs → (o : Option Tagged) → strays sh (Core c) (Dir d) (flush_of o) ≡ 0
    go d i None = strays-none sh (Core c) (Dir d)
    go d i (Some t) = out_fits sh c d (Flush t.line t.mask t.words t.tag) k.core i refl

backs : (sh : Shape) (c : ℕ) (s : Cache) (l : ℕ) → IsCore sh c → AllFit sh (Core c) (write_back_line sh s l)
unfolding write_back_line
backs sh c s l k = at_home sh c l (write_back_of (dirty_copy s l)) k (λ d i. go d i (dirty_copy s l))
  where
    go : (d : ℕ) → d < sh.dirs → (o : Option Tagged) → strays sh (Core c) (Dir d) (write_back_of o) ≡ 0
    go d i None = strays-none sh (Core c) (Dir d)
    go d i (Some t) = out_fits sh c d (WriteBack t.line t.mask t.words t.tag) k.core i refl

asks : (sh : Shape) (c l : ℕ) (s : CoreState) → IsCore sh c → Fit sh c (request_line sh l s)
unfolding request_line
asks sh c l s k = at_home sh c l (LoadReq l (s.last_commit (home sh l)) ∷ []) k
    (λ d i. out_fits sh c d (LoadReq l (s.last_commit (home sh l))) k.core i refl)

requests : (sh : Shape) (c : ℕ) → IsCore sh c → AllFit sh (Core c) (to Vendor (TidReq ∷ []))
requests sh c k = fit-to sh (Core c) Vendor (TidReq ∷ []) (ask_fits sh c k.core)

-- Exec

full : (sh : Shape) (c l : ℕ) (s : CoreState) → IsCore sh c → IfSome (full_set sh l s) (Fit sh c)
unfolding full_set overflow
full sh c l s k = go (is_solo s.phase || not (all_marked sh s.cache (set_of sh l)))
  where
    go : (b : Bool) → IfSome (if b then None else Some (overflow s)) (Fit sh c)
    go true = tt
    go false = requests sh c k

fetches : (sh : Shape) (c l : ℕ) (s : CoreState) → IsCore sh c → IfSome (miss sh l s) (Fit sh c)
unfolding miss
fetches sh c l s k = go (s.cache.held l) (is_some (free_way sh s.cache (set_of sh l)))
  where
    go : (a b : Bool) → IfSome
        (if a then Some (request_line sh l s) else (if b then Some (request_line sh l (place sh l s)) else full_set sh l s)) (Fit sh c)
    go true b = asks sh c l s k
    go false true = asks sh c l (place sh l s) k
    go false false = full sh c l s k

loads : (sh : Shape) (p : Program) (c w : ℕ) (need : Need) (s : CoreState) → IsCore sh c → IfSome (load sh p need w s) (Fit sh c)
unfolding load
loads sh p c w need s k = go (s.spilled w) (s.cache.value w)
  where
    valid : (b : Option ℕ) → IfSome (load_valid sh p need w s b) (Fit sh c)
    valid (Some x) = fit-nothing sh (Core c)
    valid None = fetches sh c (line_of w) s k

    go : (a b : Option ℕ) → IfSome (load_spilled sh p need w s a) (Fit sh c)
    go (Some x) b = fit-nothing sh (Core c)
    go None b = valid (s.cache.value w)

partly : (sh : Shape) (p : Program) (c w : ℕ) (need : Need) (s : CoreState) → IsCore sh c → IfSome (partial_store sh p need w s) (Fit sh c)
unfolding partial_store
partly sh p c w need s k = go (s.spilled w)
  where
    in_frame : (x : ℕ) (b : Bool) (o q : Out) → Fit sh c o → Fit sh c q → IfSome (if b then Some o else Some q) (Fit sh c)
    in_frame x true o q f g = f
    in_frame x false o q f g = g

    valid : (b : Option ℕ) → IfSome (change_valid sh p need w s b) (Fit sh c)
    valid None = fetches sh c (line_of w) s k
    valid (Some x) = in_frame x (holds s.spilled (line_of w)) _ _ (fit-nothing sh (Core c)) (flushes sh c s.cache (line_of w) k)

    go : (a : Option ℕ) → IfSome (change_spilled sh p need w s a) (Fit sh c)
    go (Some x) = fit-nothing sh (Core c)
    go None = valid (s.cache.value w)

stores_word : (sh : Shape) (p : Program) (c w x : ℕ) (need : Need) (s : CoreState) → IsCore sh c
    → IfSome (word_store sh p need w x s) (Fit sh c)
unfolding word_store
stores_word sh p c w x need s k = go (holds s.spilled (line_of w)) (s.cache.held (line_of w))
    (is_some (free_way sh s.cache (set_of sh (line_of w)))) _ _ _ (fit-nothing sh (Core c)) (flushes sh c s.cache (line_of w) k)
    (fit-nothing sh (Core c))
  where
    go : (a b d : Bool) (o q r : Out) → Fit sh c o → Fit sh c q → Fit sh c r
        → IfSome (if a then Some o else (if b then Some q else (if d then Some r else full_set sh (line_of w) s))) (Fit sh c)
    go true b d o q r f g h = f
    go false true d o q r f g h = g
    go false false true o q r f g h = h
    go false false false o q r f g h = full sh c (line_of w) s k

closes : (sh : Shape) (c : ℕ) (q : Phase) (s : CoreState) → IsCore sh c → Fit sh c (end_transaction sh c q s)
unfolding solo_commit
closes sh c (Solo t) s k = solos sh c s.cache s.spilled t k
closes sh c _ s k = requests sh c k

needs : (sh : Shape) (p : Program) (c : ℕ) (s : CoreState) (n : Need) → IsCore sh c → IfSome (execute_need sh p c s n) (Fit sh c)
needs sh p c s Nothing k = fit-nothing sh (Core c)
needs sh p c s (Loads addr size) k = loads sh p c (word_of sh.base addr) (Loads addr size) s k
needs sh p c s (Stores addr Word x) k = stores_word sh p c (word_of sh.base addr) x (Stores addr Word x) s k
needs sh p c s (Stores addr Half x) k = partly sh p c (word_of sh.base addr) (Stores addr Half x) s k
needs sh p c s (Stores addr Byte x) k = partly sh p c (word_of sh.base addr) (Stores addr Byte x) s k
needs sh p c s (Changes addr f) k = partly sh p c (word_of sh.base addr) (Changes addr f) s k
needs sh p c s (Prints byte) k = fit-nothing sh (Core c)
needs sh p c s Ends k = closes sh c s.phase (finished p Ends 0 s) k
needs sh p c s (Halts code) k = closes sh c s.phase (finished p (Halts code) 0 s) k
needs sh p c s (Traps code) k = closes sh c s.phase (finished p (Traps code) 0 s) k

pub fit-exec : (sh : Shape) (p : Program) (c : ℕ) (s : CoreState) → IsCore sh c → IfSome (core_exec sh p c s) (Fit sh c)
unfolding core_exec execute commit
fit-exec sh p c s k = go s.phase
  where
    awaiting : (a : Option Awaited) → IfSome (unless_awaiting sh p c s a) (Fit sh c)
    awaiting (Some x) = tt
    awaiting None = needs sh p c s (p.need s.local) k

    go : (q : Phase) → IfSome (exec_in_phase sh p c s q) (Fit sh c)
    go Running = awaiting s.awaited
    go (Solo t) = awaiting s.awaited
    go (Ready t) = commits sh c s.cache t k
    go _ = tt

-- Evict

pub fit-evict : (sh : Shape) (c x y : ℕ) (s : CoreState) → IsCore sh c → IfSome (core_evict sh x y s) (Fit sh c)
fit-evict sh c x y s k = each-evict sh x y s (Fit sh c) (λ l e n m. backs sh c s.cache l k)

-- messages

pub fit-grant : (sh : Shape) (c t : ℕ) (s : CoreState) → IsCore sh c → Fit sh c (grant sh t s)
unfolding grant
fit-grant sh c t s k = go s.phase
  where
    go : (q : Phase) → Fit sh c (grant_in_phase sh t s q)
    go AwaitTid = grants sh c s.cache t k
    go DoomedTid = skips sh c t k
    go (Overflowing None) = probes sh c t k
    go _ = fit-nothing sh (Core c)

-- one of two
either : (sh : Shape) (c : ℕ) (b : Bool) (o q : Out) → Fit sh c o → Fit sh c q → Fit sh c (if b then o else q)
either sh c true o q f g = f
either sh c false o q f g = g

reply : (sh : Shape) (c d t : ℕ) (s : CoreState) → IsCore sh c → d < sh.dirs → Fit sh c (probe_reply sh d t s)
unfolding probe_reply marks_for
reply sh c d t s k i = go s.phase
  where
    go : (q : Phase) → Fit sh c (reply_in_phase sh d t s q)
    go (Probing u) = either sh c (u == t && s.owing d) _ (ignored s)
        (fit-to sh (Core c) (Dir d) (marks_for sh s.cache t d) (marks sh c d t (modified_mask s.cache) (written_lines sh s.cache d) k i))
        (fit-nothing sh (Core c))
    go (Overflowing (Some u)) = either sh c (u == t && s.owing d) _ (ignored s) (fit-nothing sh (Core c)) (fit-nothing sh (Core c))
    go _ = fit-nothing sh (Core c)

filled : (sh : Shape) (c l : ℕ) (ws : List ℕ) (s : CoreState) → Fit sh c (fill l ws s)
unfolding fill
filled sh c l ws s = go s.awaited
  where
    go : (o : Option Awaited) → Fit sh c (fill_awaited l ws s o)
    go None = fit-nothing sh (Core c)
    go (Some a) = either sh c (a.line == l) _ (ignored s) (fit-nothing sh (Core c)) (fit-nothing sh (Core c))

violated : (sh : Shape) (c : ℕ) (s : CoreState) (b : Bool) → IsCore sh c → Fit sh c (if_violated sh b s)
unfolding if_violated
violated sh c s false k = fit-nothing sh (Core c)
violated sh c s true k = go s.phase
  where
    go : (q : Phase) → Fit sh c (violated_in_phase sh s q)
    go (Probing t) = aborts sh c s.cache t k
    go (Ready t) = aborts sh c s.cache t k
    go (Overflowing (Some t)) = skips sh c t k
    go (Solo t) = skips sh c t k
    go _ = fit-nothing sh (Core c)

invalidates : (sh : Shape) (c l m u : ℕ) (s : CoreState) → IsCore sh c → Fit sh c (invalidate sh l m u s)
unfolding invalidate acknowledged
invalidates sh c l m u s k = fit-then sh (Core c) _ _ (violated sh c (words_invalidated l m s) (is_violated l m u s) k)
    (at_home sh c l _ k (λ d i. out_fits sh c d (InvAck l _) k.core i refl))

pub fit-back : (sh : Shape) (c d : ℕ) (s : CoreState) (m : Msg) → IsCore sh c → d < sh.dirs → IfSome (from_dir sh d s m) (Fit sh c)
unfolding data_request
fit-back sh c d s (ProbeReply t v) k i = reply sh c d t s k i
fit-back sh c d s (Fill l ws) k i = filled sh c l ws s
fit-back sh c d s (DataReq l) k i = flushes sh c s.cache l k
fit-back sh c d s (Inv l m u) k i = invalidates sh c l m u s k
fit-back sh c d s _ k i = tt
