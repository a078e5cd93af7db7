-- What a core's event keeps: it sends of lines of memory only, and its attempt and what it commits have one instruction more at most.
use Rattle.std.specs.Prelude.{ℕ, ◌+◌, ◌≡◌, ◌<◌, ◌≤◌, Bool, true, false, not, ◌==◌, ◌&&◌, ◌||◌, List, [], ◌∷◌, ◌++◌, Option, Some, None}
use Rattle.std.specs.Prelude.{is_some, IfSome, if◌then◌else◌}
use Rattle.std.specs.List.{flat_map}
use Rattle.std.proofs.Common.{arith, refl}
use Rattle.std.proofs.lemmas.Bool.Decides.{nat_tests}
use Rattle.tcc_base.specs.declared.access.Size.TheVariants.{Byte, Half, Word}
use Rattle.rules_program.specs.Program.{Need, Nothing, Loads, Stores, Changes, Prints, Ends, Halts, Traps, Program}
use Rattle.rules_program.specs.Ram.{word_of}
use Rattle.rules_maps.specs.Words.{line_of, those, count_below}
use Rattle.rules_maps.specs.Cache.{Cache, free_way, all_marked, modified_mask, is_modified, dirty_copy, written_lines, writes_at, reads_at}
use Rattle.rules_maps.specs.Nodes.{Dir, Vendor, Msg, TidReq, LoadReq, Fill, Skip, Probe, ProbeReply, Mark, Commit, Abort, WriteBack, Flush}
use Rattle.rules_maps.specs.Nodes.{DataReq, Inv, InvAck, Tagged}
use Rattle.rules_maps.specs.Shape.{Shape, home, lines, set_of}
use Rattle.rules_maps.specs.Spilled.{Spilled, holds, spilled_mask, spilled_words}
use Rattle.rules_tcc.specs.State.{CoreState, Awaited, Phase, Running, AwaitTid, DoomedTid, Probing, Ready, Overflowing, Solo}
use Rattle.rules_tcc.specs.Attempt.{Out, moves, is_solo, new_word, finished}
use Rattle.rules_tcc.specs.Commit.{noted, committed_core, commit_sends, commit, is_written, written_mask, solo_writes_at}
use Rattle.rules_tcc.specs.Commit.{solo_marks_or_skip, solo_write_backs, solo_sends, solo_commit}
use Rattle.rules_tcc.specs.CoreDeliver.{grant_sends, grant_in_phase, grant, replied, all_replied, ready_once_replied, solo_once_replied}
use Rattle.rules_tcc.specs.CoreDeliver.{reply_in_phase, probe_reply, fill_awaited, fill, data_request, violated_in_phase, if_violated}
use Rattle.rules_tcc.specs.CoreDeliver.{is_violated, words_invalidated, acknowledged, invalidate, from_dir, ignored}
use Rattle.rules_tcc.specs.CoreEvict.{core_evict}
use Rattle.rules_tcc.specs.CoreExec.{unless_awaiting, exec_in_phase, core_exec}
use Rattle.rules_tcc.specs.Execute.{request_line, place, overflow, full_set, miss, with_read_mark, load_valid, load_spilled, load}
use Rattle.rules_tcc.specs.Execute.{stored_in_buffer, stored_in_frame, word_store, marks_read, change_valid, change_spilled, partial_store}
use Rattle.rules_tcc.specs.Execute.{end_transaction, execute_need, execute}
use Rattle.rules_tcc.specs.Sends.{Sends, nothing, to, when, write_back_of, flush_of, write_back_line, flush_line, skip_all, probe_all}
use Rattle.rules_tcc.specs.Sends.{abort_written, marks_for}
use Rattle.rules_tcc.proofs.Lemmas.{each-evict}
use Rattle.theorem_serial.specs.InMemory.{NeedInMemory, WordInMemory}
use Rattle.theorem_bounds.specs.Bounds.{most_sent, AttemptCounted, CommitCounted}
use Rattle.theorem_bounds.proofs.Outside.{is_inside, Inside, SendsInside, no-message, one-message, some, and-messages, when-messages, wider}
use Rattle.theorem_bounds.proofs.Outside.{those-messages, nothing-inside, then-inside, to-inside, dirs-inside, below}
use Rattle.theorem_bounds.proofs.Counted.{weak, none, rolled, finishes, placed, marked_read, in_buffer, in_frame}

-- with so many messages to a node at most; before this event there were so many events
pub record CoreKeeps (sh : Shape) (most events : ℕ) (o : Out) : Type 0 where
  pub sends : SendsInside sh most o.sends
  pub attempt : AttemptCounted (events + 1) o.core
  pub commit : IfSome o.commit (CommitCounted (events + 1))

-- what an event at most sends to a node
abbrev Keeps : Shape → ℕ → Out → Type 0
Keeps sh n o = CoreKeeps sh (most_sent sh) n o

-- nothing of the attempt changes, or its next instruction is done
still : (sh : Shape) (most n : ℕ) (s : CoreState) (sends : Sends) → SendsInside sh most sends → AttemptCounted n s
    → CoreKeeps sh most n (moves s sends)
still sh most n s sends f k = record { sends = f; attempt = weak n s.n s.loads s.stores s.console k; commit = tt }

steps : (sh : Shape) (most n : ℕ) (s : CoreState) (sends : Sends) → SendsInside sh most sends → AttemptCounted (n + 1) s
    → CoreKeeps sh most n (moves s sends)
steps sh most n s sends f k = record { sends = f; attempt = k; commit = tt }

ignores : (sh : Shape) (most n : ℕ) (s : CoreState) → AttemptCounted n s → CoreKeeps sh most n (ignored s)
ignores sh most n s k = still sh most n s nothing (nothing-inside sh most) k

-- one of two
either : (sh : Shape) (most n : ℕ) (b : Bool) (o q : Out) → CoreKeeps sh most n o → CoreKeeps sh most n q
    → CoreKeeps sh most n (if b then o else q)
either sh most n true o q f g = f
either sh most n false o q f g = g

-- what is sent of no line, or of words on their way home: to each node one message, or two

skips : (sh : Shape) (most t : ℕ) → 1 ≤ most → SendsInside sh most (skip_all sh t)
unfolding skip_all is_inside
skips sh most t i = dirs-inside sh most (λ d. Skip t ∷ []) (λ d. one-message sh most (Skip t) i refl)

probes : (sh : Shape) (t : ℕ) → SendsInside sh (most_sent sh) (probe_all sh t)
unfolding probe_all is_inside
probes sh t = dirs-inside sh _ (λ d. Probe t ∷ []) (λ d. one-message sh _ (Probe t) (some sh) refl)

aborts : (sh : Shape) (s : Cache) (t : ℕ) → SendsInside sh 1 (abort_written sh s t)
unfolding abort_written is_inside
aborts sh s t = dirs-inside sh 1 (λ d. when (writes_at sh s d) (Abort t ∷ []))
    (λ d. when-messages sh 1 (writes_at sh s d) (Abort t ∷ []) (one-message sh 1 (Abort t) (omega arith) refl))

grants : (sh : Shape) (s : Cache) (t : ℕ) → SendsInside sh (most_sent sh) (grant_sends sh s t)
unfolding grant_sends is_inside
grants sh s t = dirs-inside sh _ (λ d. skip d ++ probe d) each
  where
    skip : ℕ → List Msg
    skip d = when (not (writes_at sh s d)) (Skip t ∷ [])

    probe : ℕ → List Msg
    probe d = when (writes_at sh s d || reads_at sh s d) (Probe t ∷ [])

    each : (d : ℕ) → Inside sh (most_sent sh) (skip d ++ probe d)
    each d = wider sh 2 (most_sent sh) _ (omega arith)
        (and-messages sh 1 1 (skip d) (probe d)
        (when-messages sh 1 (not (writes_at sh s d)) (Skip t ∷ []) (one-message sh 1 (Skip t) (omega arith) refl))
        (when-messages sh 1 (writes_at sh s d || reads_at sh s d) (Probe t ∷ []) (one-message sh 1 (Probe t) (omega arith) refl)))

commits : (sh : Shape) (s : Cache) (t : ℕ) → SendsInside sh (most_sent sh) (commit_sends sh s t)
unfolding commit_sends is_inside
commits sh s t = dirs-inside sh _ (λ d. when (writes_at sh s d) (done d ∷ []))
    (λ d. when-messages sh _ (writes_at sh s d) (done d ∷ []) (one-message sh _ (done d) (some sh) refl))
  where
    done : ℕ → Msg
    done d = Commit t (count_below (λ l. d == home sh l && is_modified s l) (lines sh))

requests : (sh : Shape) → SendsInside sh (most_sent sh) (to Vendor (TidReq ∷ []))
unfolding is_inside
requests sh = to-inside sh _ Vendor (TidReq ∷ []) (one-message sh _ TidReq (some sh) refl)

flushes : (sh : Shape) (s : Cache) (l : ℕ) → SendsInside sh (most_sent sh) (flush_line sh s l)
unfolding flush_line is_inside
flushes sh s l = to-inside sh _ (Dir (home sh l)) (flush_of (dirty_copy s l)) (go (dirty_copy s l))
  where
    go : (o : Option Tagged) → Inside sh (most_sent sh) (flush_of o)
    go None = no-message sh _
    go (Some t) = one-message sh _ (Flush t.line t.mask t.words t.tag) (some sh) refl

backs : (sh : Shape) (s : Cache) (l : ℕ) → SendsInside sh (most_sent sh) (write_back_line sh s l)
unfolding write_back_line is_inside
backs sh s l = to-inside sh _ (Dir (home sh l)) (write_back_of (dirty_copy s l)) (go (dirty_copy s l))
  where
    go : (o : Option Tagged) → Inside sh (most_sent sh) (write_back_of o)
    go None = no-message sh _
    go (Some t) = one-message sh _ (WriteBack t.line t.mask t.words t.tag) (some sh) refl

-- Marks: of lines that were looked for among those of memory, one each

marks : (sh : Shape) (p : ℕ → Bool) (mask : ℕ → ℕ) (t : ℕ)
    → Inside sh (lines sh) (flat_map (λ l. Mark l (mask l) t ∷ []) (those p (lines sh)))
unfolding is_inside
marks sh p mask t = those-messages sh (λ l. Mark l (mask l) t) p (lines sh) (λ l i. below sh l i)

solos : (sh : Shape) (s : Cache) (sp : Spilled) (t : ℕ) → SendsInside sh (most_sent sh) (solo_sends sh s sp t)
unfolding solo_sends solo_marks_or_skip solo_write_backs is_inside
solos sh s sp t = dirs-inside sh _ (λ d. solo_marks_or_skip sh s sp t d ++ solo_write_backs sh sp t d) each
  where
    back : ℕ → Msg
    back l = WriteBack l (spilled_mask sp l) (spilled_words sp l) t

    marked : ℕ → List Msg
    marked d = flat_map (λ l. Mark l (written_mask s sp l) t ∷ []) (those (λ l. d == home sh l && is_written s sp l) (lines sh))

    done : ℕ → Msg
    done d = Commit t (count_below (λ l. d == home sh l && is_written s sp l) (lines sh))

    behind : (d : ℕ) → Inside sh (lines sh) (solo_write_backs sh sp t d)
    behind d = those-messages sh back (λ l. d == home sh l && holds sp l) (lines sh) (λ l i. refl)

    first : (d : ℕ) (b : Bool) → Inside sh (lines sh + 1) (if b then marked d ++ done d ∷ [] else Skip t ∷ [])
    first d false = one-message sh (lines sh + 1) (Skip t) (omega arith) refl
    first d true = and-messages sh (lines sh) 1 (marked d) (done d ∷ [])
        (marks sh (λ l. d == home sh l && is_written s sp l) (written_mask s sp) t) (one-message sh 1 (done d) (omega arith) refl)

    each : (d : ℕ) → Inside sh (most_sent sh) (solo_marks_or_skip sh s sp t d ++ solo_write_backs sh sp t d)
    each d = wider sh (lines sh + 1 + lines sh) (most_sent sh) _ (omega arith)
        (and-messages sh (lines sh + 1) (lines sh) (solo_marks_or_skip sh s sp t d) (solo_write_backs sh sp t d)
        (first d (solo_writes_at sh s sp d)) (behind d))

-- Exec

asks : (sh : Shape) (n l : ℕ) (s : CoreState) → l < lines sh → AttemptCounted n s → Keeps sh n (request_line sh l s)
unfolding request_line is_inside
asks sh n l s i k = still sh _ n _ _
    (to-inside sh _ (Dir (home sh l)) _ (one-message sh _ (LoadReq l (s.last_commit (home sh l))) (some sh) (below sh l i))) k

full : (sh : Shape) (n l : ℕ) (s : CoreState) → AttemptCounted n s → IfSome (full_set sh l s) (Keeps sh n)
unfolding full_set overflow
full sh n l s k = go (is_solo s.phase || not (all_marked sh s.cache (set_of sh l)))
  where
    go : (b : Bool) → IfSome (if b then None else Some (overflow s)) (Keeps sh n)
    go true = tt
    go false = still sh _ n _ _ (requests sh) k

fetches : (sh : Shape) (n l : ℕ) (s : CoreState) → l < lines sh → AttemptCounted n s → IfSome (miss sh l s) (Keeps sh n)
unfolding miss
fetches sh n l s i k = go (s.cache.held l) (is_some (free_way sh s.cache (set_of sh l)))
  where
    go : (a b : Bool)
        → IfSome (if a then Some (request_line sh l s) else (if b then Some (request_line sh l (place sh l s)) else full_set sh l s))
        (Keeps sh n)
    go true b = asks sh n l s i k
    go false true = asks sh n l (place sh l s) i (placed n sh l s k)
    go false false = full sh n l s k

-- an instruction that found its word
done_with : (sh : Shape) (n : ℕ) (p : Program) (need : Need) (x : ℕ) (s : CoreState) (sends : Sends) → SendsInside sh (most_sent sh) sends
    → AttemptCounted n s → Keeps sh n (moves (finished p need x s) sends)
done_with sh n p need x s sends f k = steps sh _ n (finished p need x s) sends f (finishes n p need x s k)

loads : (sh : Shape) (n : ℕ) (p : Program) (w : ℕ) (need : Need) (s : CoreState) → WordInMemory sh w → AttemptCounted n s
    → IfSome (load sh p need w s) (Keeps sh n)
unfolding load
loads sh n p w need s i k = go (s.spilled w)
  where
    valid : (b : Option ℕ) → IfSome (load_valid sh p need w s b) (Keeps sh n)
    valid (Some x) = done_with sh n p need x (with_read_mark w s) nothing (nothing-inside sh _) (marked_read n w s k)
    valid None = fetches sh n (line_of w) s i k

    go : (a : Option ℕ) → IfSome (load_spilled sh p need w s a) (Keeps sh n)
    go (Some x) = done_with sh n p need x s nothing (nothing-inside sh _) k
    go None = valid (s.cache.value w)

partly : (sh : Shape) (n : ℕ) (p : Program) (w : ℕ) (need : Need) (s : CoreState) → WordInMemory sh w → AttemptCounted n s
    → IfSome (partial_store sh p need w s) (Keeps sh n)
unfolding partial_store
partly sh n p w need s i k = go (s.spilled w)
  where
    one : (b : Bool) (o q : Out) → Keeps sh n o → Keeps sh n q → IfSome (if b then Some o else Some q) (Keeps sh n)
    one true o q f g = f
    one false o q f g = g

    into_buffer : (x : ℕ) → Keeps sh n (moves (finished p need x (stored_in_buffer w (new_word need x) s)) nothing)
    into_buffer x = done_with sh n p need x (stored_in_buffer w (new_word need x) s) nothing (nothing-inside sh _)
        (in_buffer n w (new_word need x) s k)

    valid : (b : Option ℕ) → IfSome (change_valid sh p need w s b) (Keeps sh n)
    valid None = fetches sh n (line_of w) s i k
    valid (Some x) = one (holds s.spilled (line_of w)) _ _ (into_buffer x)
        (done_with sh n p need x (stored_in_frame w (new_word need x) (marks_read w s) s) (flush_line sh s.cache (line_of w))
        (flushes sh s.cache (line_of w)) (in_frame n w (new_word need x) (marks_read w s) s k))

    go : (a : Option ℕ) → IfSome (change_spilled sh p need w s a) (Keeps sh n)
    go (Some x) = into_buffer x
    go None = valid (s.cache.value w)

stores_word : (sh : Shape) (n : ℕ) (p : Program) (w x : ℕ) (need : Need) (s : CoreState) → AttemptCounted n s
    → IfSome (word_store sh p need w x s) (Keeps sh n)
unfolding word_store
stores_word sh n p w x need s k = go (holds s.spilled (line_of w)) (s.cache.held (line_of w))
    (is_some (free_way sh s.cache (set_of sh (line_of w)))) _ _ _
    (done_with sh n p need x (stored_in_buffer w x s) nothing (nothing-inside sh _) (in_buffer n w x s k))
    (done_with sh n p need x (stored_in_frame w x false s) (flush_line sh s.cache (line_of w)) (flushes sh s.cache (line_of w))
    (in_frame n w x false s k))
    (done_with sh n p need x (stored_in_frame w x false (place sh (line_of w) s)) nothing (nothing-inside sh _)
    (in_frame n w x false (place sh (line_of w) s) (placed n sh (line_of w) s k)))
  where
    go : (a b d : Bool) (o q r : Out) → Keeps sh n o → Keeps sh n q → Keeps sh n r
        → IfSome (if a then Some o else (if b then Some q else (if d then Some r else full_set sh (line_of w) s))) (Keeps sh n)
    go true b d o q r f g h = f
    go false true d o q r f g h = g
    go false false true o q r f g h = h
    go false false false o q r f g h = full sh n (line_of w) s k

closes : (sh : Shape) (n id : ℕ) (q : Phase) (s : CoreState) → AttemptCounted (n + 1) s → Keeps sh n (end_transaction sh id q s)
unfolding solo_commit committed_core noted
closes sh n id (Solo t) s k = record { sends = solos sh s.cache s.spilled t; attempt = none (n + 1); commit = k }
closes sh n id _ s k = steps sh _ n _ _ (requests sh) k

needs : (sh : Shape) (n : ℕ) (p : Program) (id : ℕ) (s : CoreState) (m : Need) → NeedInMemory sh m → AttemptCounted n s
    → IfSome (execute_need sh p id s m) (Keeps sh n)
needs sh n p id s Nothing i k = done_with sh n p Nothing 0 s nothing (nothing-inside sh _) k
needs sh n p id s (Loads addr size) i k = loads sh n p (word_of sh.base addr) (Loads addr size) s i k
needs sh n p id s (Stores addr Word x) i k = stores_word sh n p (word_of sh.base addr) x (Stores addr Word x) s k
needs sh n p id s (Stores addr Half x) i k = partly sh n p (word_of sh.base addr) (Stores addr Half x) s i k
needs sh n p id s (Stores addr Byte x) i k = partly sh n p (word_of sh.base addr) (Stores addr Byte x) s i k
needs sh n p id s (Changes addr f) i k = partly sh n p (word_of sh.base addr) (Changes addr f) s i k
needs sh n p id s (Prints byte) i k = done_with sh n p (Prints byte) 0 s nothing (nothing-inside sh _) k
needs sh n p id s Ends i k = closes sh n id s.phase (finished p Ends 0 s) (finishes n p Ends 0 s k)
needs sh n p id s (Halts code) i k = closes sh n id s.phase (finished p (Halts code) 0 s) (finishes n p (Halts code) 0 s k)
needs sh n p id s (Traps code) i k = closes sh n id s.phase (finished p (Traps code) 0 s) (finishes n p (Traps code) 0 s k)

pub exec-keeps : (sh : Shape) (n : ℕ) (p : Program) (id : ℕ) (s : CoreState) → NeedInMemory sh (p.need s.local) → AttemptCounted n s
    → IfSome (core_exec sh p id s) (Keeps sh n)
unfolding core_exec execute commit committed_core noted
exec-keeps sh n p id s i k = go s.phase
  where
    awaiting : (a : Option Awaited) → IfSome (unless_awaiting sh p id s a) (Keeps sh n)
    awaiting (Some x) = tt
    awaiting None = needs sh n p id s (p.need s.local) i k

    go : (q : Phase) → IfSome (exec_in_phase sh p id s q) (Keeps sh n)
    go Running = awaiting s.awaited
    go (Solo t) = awaiting s.awaited
    go (Ready t) = record {
      sends = commits sh s.cache t;
      attempt = none (n + 1);
      commit = weak n s.n s.loads s.stores s.console k;
    }
    go _ = tt

-- Evict

pub evict-keeps : (sh : Shape) (n x y : ℕ) (s : CoreState) → AttemptCounted n s → IfSome (core_evict sh x y s) (Keeps sh n)
evict-keeps sh n x y s k = each-evict sh x y s (Keeps sh n) (λ l e u m. still sh _ n _ _ (backs sh s.cache l) k)

-- messages

pub grant-keeps : (sh : Shape) (n t : ℕ) (s : CoreState) → AttemptCounted n s → Keeps sh n (grant sh t s)
unfolding grant
grant-keeps sh n t s k = go s.phase
  where
    go : (q : Phase) → Keeps sh n (grant_in_phase sh t s q)
    go AwaitTid = still sh _ n _ _ (grants sh s.cache t) k
    go DoomedTid = still sh _ n _ _ (skips sh (most_sent sh) t (some sh)) k
    go (Overflowing None) = still sh _ n _ _ (probes sh t) k
    go _ = ignores sh _ n s k

reply : (sh : Shape) (n d t : ℕ) (s : CoreState) → AttemptCounted n s → Keeps sh n (probe_reply sh d t s)
unfolding probe_reply marks_for written_lines
reply sh n d t s k = go s.phase
  where
    one : (b : Bool) (x y : CoreState) → AttemptCounted n x → AttemptCounted n y → AttemptCounted n (if b then x else y)
    one true x y f g = f
    one false x y f g = g

    go : (q : Phase) → Keeps sh n (reply_in_phase sh d t s q)
    go (Probing u) = either sh _ n (u == t && s.owing d) _ (ignored s)
        (still sh _ n (ready_once_replied sh t (replied d s)) _ (to-inside sh _ (Dir d) _
        (wider sh (lines sh) (most_sent sh) _ (omega arith) (marks sh _ (modified_mask s.cache) t)))
        (one (all_replied sh (replied d s).owing) _ _ k k))
        (ignores sh _ n s k)
    go (Overflowing (Some u)) = either sh _ n (u == t && s.owing d) _ (ignored s)
        (still sh _ n (solo_once_replied sh t (replied d s)) _ (nothing-inside sh _) (one (all_replied sh (replied d s).owing) _ _ k k))
        (ignores sh _ n s k)
    go _ = ignores sh _ n s k

filled : (sh : Shape) (n l : ℕ) (ws : List ℕ) (s : CoreState) → AttemptCounted n s → Keeps sh n (fill l ws s)
unfolding fill
filled sh n l ws s k = go s.awaited
  where
    go : (o : Option Awaited) → Keeps sh n (fill_awaited l ws s o)
    go None = ignores sh _ n s k
    go (Some a) = either sh _ n (a.line == l) _ (ignored s) (still sh _ n _ _ (nothing-inside sh _) k) (ignores sh _ n s k)

-- at most one message to each node, and with the acknowledgement two
violated : (sh : Shape) (n : ℕ) (s : CoreState) (b : Bool) → AttemptCounted n s → CoreKeeps sh 1 n (if_violated sh b s)
unfolding if_violated
violated sh n s false k = ignores sh 1 n s k
violated sh n s true k = go s.phase
  where
    go : (q : Phase) → CoreKeeps sh 1 n (violated_in_phase sh s q)
    go Running = steps sh 1 n _ _ (nothing-inside sh 1) (rolled (n + 1) s)
    go AwaitTid = steps sh 1 n _ _ (nothing-inside sh 1) (rolled (n + 1) s)
    go (Overflowing None) = steps sh 1 n _ _ (nothing-inside sh 1) (rolled (n + 1) s)
    go (Probing t) = steps sh 1 n _ _ (aborts sh s.cache t) (rolled (n + 1) s)
    go (Ready t) = steps sh 1 n _ _ (aborts sh s.cache t) (rolled (n + 1) s)
    go (Overflowing (Some t)) = steps sh 1 n _ _ (skips sh 1 t (omega arith)) (rolled (n + 1) s)
    go (Solo t) = steps sh 1 n _ _ (skips sh 1 t (omega arith)) (rolled (n + 1) s)
    go _ = ignores sh 1 n s k

invalidates : (sh : Shape) (n l m u : ℕ) (s : CoreState) → l < lines sh → AttemptCounted n s → Keeps sh n (invalidate sh l m u s)
unfolding invalidate acknowledged words_invalidated is_inside
invalidates sh n l m u s i k =
    let v = violated sh n (words_invalidated l m s) (is_violated l m u s) k in
    record {
      sends = λ dst. wider sh 2 (most_sent sh) _ (omega arith) (then-inside sh 1 1 _ _ v.sends
          (to-inside sh 1 (Dir (home sh l)) _ (one-message sh 1 (InvAck l _) (omega arith) (below sh l i))) dst);
      attempt = v.attempt;
      commit = v.commit;
    }

inv-below : (sh : Shape) (l m u : ℕ) → is_inside sh (Inv l m u) ≡ true → l < lines sh
unfolding is_inside
inv-below sh l m u e = grind (arith, nat_tests)

pub back-keeps : (sh : Shape) (n d : ℕ) (s : CoreState) (m : Msg) → is_inside sh m ≡ true → AttemptCounted n s
    → IfSome (from_dir sh d s m) (Keeps sh n)
unfolding data_request
back-keeps sh n d s (ProbeReply t v) e k = reply sh n d t s k
back-keeps sh n d s (Fill l ws) e k = filled sh n l ws s k
back-keeps sh n d s (DataReq l) e k = still sh _ n _ _ (flushes sh s.cache l) k
back-keeps sh n d s (Inv l m u) e k = invalidates sh n l m u s (inv-below sh l m u e) k
back-keeps sh n d s _ e k = tt
