-- What an event of a core comes to: one constructor for each outcome, with the whole new state and what is sent. Each rule of a core is
-- walked here once; a fact about all events of a core is proved from their outcomes.
use Rattle.rules_program.specs.Program.{unreserved}
use Rattle.rules_program.specs.Ram.{part}
use Rattle.rules_tcc.specs.Sends.{then_send}
pub use Rattle.rules_tcc.proofs.Lemmas.{each-evict, emptied}
use Rattle.theorem_serial.proofs
use proofs.Names
use Names.{◌∙◌, sym, one_more_instruction, ready_once_replied, solo_once_replied, violated_in_phase, words_invalidated, Kind}
use Names.{stored_in_buffer, probing_or_ready, any_below-found, stored_in_frame, end_transaction, unless_awaiting, with_read_mark}
use Names.{change_spilled, grant_in_phase, reply_in_phase, if◌then◌else◌, abort_written, partial_store, exec_in_phase, waits_for_tid}
use Names.{read_cleared, none_spilled, request_line, load_spilled, [], change_valid, execute_need, fill_awaited, data_request, acknowledged}
use Names.{is_modified, invalidated, is_some, rolled_back, Overflowing, solo_commit, probe_reply, all_replied, if_violated, is_violated}
use Names.{TrappedWith, HaltedWith, ProbeReply, all_marked, flush_line, is_running, load_valid, word_store, Program, marks_read}
use Names.{is_awaited, invalidate, any_below, writes_at, CoreState, DoomedTid, marks_for, roll_back}
use Names.{core_exec, is_probed, store_of, any_word, free_way, AwaitTid, finished, new_word, overflow, full_set, from_dir, Nothing, Changes}
use Names.{Outcome, load_of, word_of, line_of, DataReq, cleaned, Spilled, Awaited, Running, Probing, nothing, to_dirs, is_solo}
use Names.{execute, replied, Bool, ignored, passes, Option, IfSome, nat_lt, Stored, Stores, Prints, InvAck, set_of, marked, stored, placed}
use Names.{filled, commit, staled, among, false, arith, subst, Local, Loads, Halts, Traps, Ended, Abort, Shape, ap, lines, Cache, keeps}
use Names.{holds, Phase, Ready, Sends, moves, place, grant, rests, true, List, ◌++◌, ◌==◌, to, ◌&&◌, ◌||◌, Some, None, refl, Load, Size}
use Names.{Byte, Half, Word, Need, Ends, Goes, Fill, home, Solo, when, ℕ, miss, load, fill, ◌+◌, ◌*◌, ◌≡◌, not, ◌∷◌, inl, inr, put, Dir}
use Names.{Msg, Inv, Out, ◌⊎◌, nats}
use proofs.OneCore.Said.{Silent, Flushes, Requests, Wants, say, Aborts_all, Answers, Marks_at, Probes_all, Skips_all, Said}
use proofs.OneCore.Said.{Tells_alone, Tells_commit, Unheard, acked-quiet, quiet}

-- what holds under a condition holds where the condition does
pub given : (a : Option Out) (H : Type 0) (R : Out → Type 0) → IfSome a (λ o. H → R o) → H → IfSome a R
given None H R f h = tt
given (Some o) H R f h = f h

-- a core executes in these phases
abbrev pub Acts : Phase → Type 0
Acts Running = Unit {0}
Acts (Solo t) = Unit {0}
Acts _ = ⊥

-- the core executes the instruction at hand, awaiting nothing
pub record Acting (p : Program) (s : CoreState) (n : Need) : Type 0 where
  pub acts : Acts s.phase
  pub idle : s.awaited ≡ None
  pub need : p.need s.local ≡ n

-- an instruction that stores there, that loads or stores there, that ends the transaction
abbrev pub StoresAt : (addr : ℕ) → Need → Type 0
StoresAt a (Stores b z v) = b ≡ a
StoresAt a (Changes b f) = b ≡ a
StoresAt a _ = ⊥

abbrev pub AccessAt : (addr : ℕ) → Need → Type 0
AccessAt a (Loads b z) = b ≡ a
AccessAt a need = StoresAt a need

pub stores-access : (need : Need) (a : ℕ) → StoresAt a need → AccessAt a need
stores-access (Loads b z) a e = absurd e
stores-access _ a e = e

-- what an instruction that stores leaves in the attempt
pub record Storing (s : CoreState) (a : ℕ) : Type 0 where
  pub local : Local
  pub loads : List Load
  pub loaded : (loads ≡ s.loads) ⊎ ((m : Load) × (m.addr ≡ a) × (loads ≡ s.loads ++ m ∷ []))
  pub store : Stored
  pub addr : store.addr ≡ a

-- the word goes into its frame, and is read too where this says so
pub record Framing (sh : Shape) (s : CoreState) (a : ℕ) (also : Bool) : Type 0 where
  pub held : (s.cache.held (line_of (word_of sh.base a)) ≡ true) ⊎ (is_some (s.cache.value (word_of sh.base a)) ≡ true)
  pub unspilled : holds s.spilled (line_of (word_of sh.base a)) ≡ false
  pub alone : is_solo s.phase ≡ true → also ≡ false
  pub read : also ≡ true → (is_some (s.cache.value (word_of sh.base a)) ≡ true) × (s.cache.modified (word_of sh.base a) ≡ false)

abbrev pub after_store : (s : CoreState) (a : ℕ) → Storing s a → Cache → Spilled → CoreState
after_store s a k c sp = record s {
  n = s.n + 1;
  local = k.local;
  loads = k.loads;
  stores = s.stores ++ k.store ∷ [];
  cache = c;
  spilled = sp;
}

abbrev pub after_load : CoreState → Local → Load → Cache → CoreState
after_load s l m c = record s { n = s.n + 1; local = l; loads = s.loads ++ m ∷ []; cache = c }

abbrev pub after_end : CoreState → Local → Outcome → CoreState
after_end s l e = record s { n = s.n + 1; local = l; ended = e }

-- an instruction that ends the transaction, and what it leaves
abbrev pub IsEnd : Need → Type 0
IsEnd Ends = Unit {0}
IsEnd (Halts k) = Unit {0}
IsEnd (Traps k) = Unit {0}
IsEnd _ = ⊥

pub record Ending (p : Program) (s : CoreState) (l : Local) (e : Outcome) : Type 0 where
  pub need : Need
  pub at : p.need s.local ≡ need
  pub end : IsEnd need
  pub is : finished p need 0 s ≡ after_end s l e

abbrev pub awaiting : ℕ → Option Awaited
awaiting l = Some (record { line = l; stale = false })

-- Exec. The access is at address a, of word w and line l.
pub data Did (sh : Shape) (p : Program) (c : ℕ) (s : CoreState) : Type 0 where
  Idles : (need : Need) (l : Local) (bytes : List ℕ) → Acting p s need → Did sh p c s
  Finds : (a x : ℕ) (z : Size) (l : Local) → Acting p s (Loads a z) → (is_some (s.spilled (word_of sh.base a)) ≡ true)
      ⊎ (is_running s.phase ≡ false) → Did sh p c s
  Reads : (a x : ℕ) (z : Size) (l : Local) → Acting p s (Loads a z) → s.phase ≡ Running → s.cache.value (word_of sh.base a) ≡ Some x
      → Did sh p c s
  Buffers : (a y v : ℕ) (need : Need) (k : Storing s a) → Acting p s need → StoresAt a need → line_of v ≡ line_of (word_of sh.base a)
      → is_some (s.spilled v) ≡ true → Did sh p c s
  Frames : (a y : ℕ) (also : Bool) (need : Need) (k : Storing s a) → Acting p s need → StoresAt a need → Framing sh s a also → Did sh p c s
  Frames_anew : (a y : ℕ) (need : Need) (k : Storing s a) → Acting p s need → StoresAt a need
      → s.cache.held (line_of (word_of sh.base a)) ≡ false → is_some (free_way sh s.cache (set_of sh (line_of (word_of sh.base a)))) ≡ true
      → holds s.spilled (line_of (word_of sh.base a)) ≡ false → Did sh p c s
  Misses : (a : ℕ) (need : Need) → Acting p s need → AccessAt a need → s.cache.held (line_of (word_of sh.base a)) ≡ true → Did sh p c s
  Misses_anew : (a : ℕ) (need : Need) → Acting p s need → AccessAt a need → s.cache.held (line_of (word_of sh.base a)) ≡ false
      → is_some (free_way sh s.cache (set_of sh (line_of (word_of sh.base a)))) ≡ true → Did sh p c s
  Room_wanted : s.phase ≡ Running → s.awaited ≡ None → Did sh p c s
  Ends_run : (l : Local) (e : Outcome) → Ending p s l e → s.phase ≡ Running → s.awaited ≡ None → Did sh p c s
  Ends_alone : (t : ℕ) (l : Local) (e : Outcome) → Ending p s l e → s.phase ≡ Solo t → s.awaited ≡ None → Did sh p c s
  Commits_now : (t : ℕ) → s.phase ≡ Ready t → Did sh p c s

abbrev pub out : {sh : Shape} {p : Program} {c : ℕ} {s : CoreState} → Did sh p c s → Out
out {sh} {s} (Idles need l bytes g) = moves (record s { n = s.n + 1; local = l; console = bytes }) (say sh s Silent)
out {sh} {s} (Finds a x z l g f) = moves (after_load s l (load_of a z (part x a z)) s.cache) (say sh s Silent)
out {sh} {s} (Reads a x z l g r f) = moves (after_load s l (load_of a z (part x a z)) (marked (word_of sh.base a) s.cache))
    (say sh s Silent)
out {sh} {s} (Buffers a y v need k g at q h) = moves (after_store s a k s.cache (put s.spilled (word_of sh.base a) (Some y)))
    (say sh s Silent)
out {sh} {s} (Frames a y also need k g at f) = moves (after_store s a k (stored (word_of sh.base a) y also s.cache) s.spilled)
    (say sh s (Flushes (line_of (word_of sh.base a))))
out {sh} {s} (Frames_anew a y need k g at q f h) =
    moves (after_store s a k (stored (word_of sh.base a) y false (placed sh (line_of (word_of sh.base a)) s.cache)) s.spilled)
    (say sh s Silent)
out {sh} {s} (Misses a need g at q) = moves (record s { awaited = awaiting (line_of (word_of sh.base a)) })
    (say sh s (Requests (line_of (word_of sh.base a))))
out {sh} {s} (Misses_anew a need g at q f) =
    moves (record s { awaited = awaiting (line_of (word_of sh.base a)); cache = placed sh (line_of (word_of sh.base a)) s.cache })
    (say sh s (Requests (line_of (word_of sh.base a))))
out {sh} {s} (Room_wanted r i) = moves (record s { phase = Overflowing None }) (say sh s Wants)
out {sh} {s} (Ends_run l e f r i) = moves (record (after_end s l e) { phase = AwaitTid }) (say sh s Wants)
out {sh} {c} {s} (Ends_alone t l e f r i) = solo_commit sh c t (after_end s l e)
out {sh} {c} {s} (Commits_now t r) = commit sh c t s

abbrev pub said : {sh : Shape} {p : Program} {c : ℕ} {s : CoreState} → Did sh p c s → Said
said {sh} (Frames a y also need k g at f) = Flushes (line_of (word_of sh.base a))
said {sh} (Misses a need g at q) = Requests (line_of (word_of sh.base a))
said {sh} (Misses_anew a need g at q f) = Requests (line_of (word_of sh.base a))
said (Room_wanted r i) = Wants
said (Ends_run l e f r i) = Wants
said (Ends_alone t l e f r i) = Tells_alone t
said (Commits_now t r) = Tells_commit t
said _ = Silent

-- the rules, walked

-- what finishing an instruction that stores leaves
storing : (p : Program) (need : Need) (x a : ℕ) (s : CoreState) → StoresAt a need
    → (k : Storing s a) × ((c : Cache) (sp : Spilled) → finished p need x (record s { cache = c; spilled = sp }) ≡ after_store s a k c sp)
unfolding finished one_more_instruction
storing p (Stores b z v) x a s e =
    (record { local = p.after s.local None; loads = s.loads; loaded = inl refl; store = store_of b z v; addr = e }, λ c sp. refl)
storing p (Changes b f) x a s e = (
  record {
    local = p.after s.local (Some (part x b Word));
    loads = s.loads ++ load_of b Word (part x b Word) ∷ [];
    loaded = inr (load_of b Word (part x b Word), e, refl);
    store = store_of b Word (f (part x b Word));
    addr = e;
  },
  λ c sp. refl,
)
storing p _ x a s e = absurd e

holds-word : (sp : Spilled) (l : ℕ) → holds sp l ≡ true → (v : ℕ) × (line_of v ≡ l) × (is_some (sp v) ≡ true)
unfolding holds any_word
holds-word sp l h = let f = any_below-found (λ k. is_some (sp (8 * l + k))) 8 h in (8 * l + f.0, omega arith, f.2)

also-alone : (q : Phase) (b : Bool) → is_solo q ≡ true → (is_running q && b) ≡ false
also-alone a b e = grind nats

unmodified : (b m : Bool) → (b && not m) ≡ true → m ≡ false
unmodified b m q = grind nats

-- each outcome of Exec has what all outcomes have
pub each-exec : (sh : Shape) (p : Program) (c : ℕ) (s : CoreState) (P : Out → Type 0) → ((d : Did sh p c s) → P (out d))
    → IfSome (core_exec sh p c s) P
unfolding core_exec execute load with_read_mark partial_store word_store miss full_set request_line place overflow stored_in_buffer
    stored_in_frame finished one_more_instruction storing
each-exec sh p c s P k = go s.phase refl
  where
    w : ℕ → ℕ
    w a = word_of sh.base a

    full : s.awaited ≡ None → (q : Phase) → s.phase ≡ q → Acts q → (b : Bool)
        → IfSome (if is_solo q || not b then None else Some (overflow s)) P
    full n Running e a false = tt
    full n Running e a true = k (Room_wanted e n)
    full n (Solo t) e a b = tt
    full n _ e a b = absurd a

    fetched : (a : ℕ) {need : Need} → Acting p s need → AccessAt a need → IfSome (miss sh (line_of (w a)) s) P
    fetched a {need} g at = go (s.cache.held (line_of (w a))) refl (is_some (free_way sh s.cache (set_of sh (line_of (w a))))) refl
      where
        go : (x : Bool) → s.cache.held (line_of (w a)) ≡ x → (y : Bool) → is_some (free_way sh s.cache (set_of sh (line_of (w a)))) ≡ y
            → IfSome (if x then Some (request_line sh (line_of (w a)) s)
            else (if y then Some (request_line sh (line_of (w a)) (place sh (line_of (w a)) s)) else full_set sh (line_of (w a)) s)) P
        go true e y f = k (Misses a need g at e)
        go false e true f = k (Misses_anew a need g at e f)
        go false e false f = full g.idle s.phase refl g.acts (all_marked sh s.cache (set_of sh (line_of (w a))))

    -- an instruction that stores is finished with these words
    stores : (need : Need) (x a : ℕ) (at : StoresAt a need) (c : Cache) (sp : Spilled) (sends : Sends)
        → P (moves (after_store s a (storing p need x a s at).0 c sp) sends)
        → P (moves (finished p need x (record s { cache = c; spilled = sp })) sends)
    stores need x a at c sp sends h = subst (λ r. P (moves r sends)) (sym ((storing p need x a s at).1 c sp)) h

    buffers : {need : Need} (x a y v : ℕ) → Acting p s need → (at : StoresAt a need) → line_of v ≡ line_of (w a)
        → is_some (s.spilled v) ≡ true → P (moves (finished p need x (stored_in_buffer (w a) y s)) nothing)
    buffers {need} x a y v g at e f = stores need x a at s.cache (put s.spilled (w a) (Some y)) nothing
        (k (Buffers a y v need (storing p need x a s at).0 g at e f))

    buffers_held : {need : Need} (x a y : ℕ) → Acting p s need → (at : StoresAt a need) → holds s.spilled (line_of (w a)) ≡ true
        → P (moves (finished p need x (stored_in_buffer (w a) y s)) nothing)
    buffers_held x a y g at h = let f = holds-word s.spilled (line_of (w a)) h in buffers x a y f.0 g at f.1 f.2

    frames : {need : Need} (x a y : ℕ) (also : Bool) → Acting p s need → (at : StoresAt a need) → Framing sh s a also
        → P (moves (finished p need x (stored_in_frame (w a) y also s)) (flush_line sh s.cache (line_of (w a))))
    frames {need} x a y also g at f = stores need x a at (stored (w a) y also s.cache) s.spilled (flush_line sh s.cache (line_of (w a)))
        (k (Frames a y also need (storing p need x a s at).0 g at f))

    partly : {need : Need} (a : ℕ) → Acting p s need → StoresAt a need → AccessAt a need → IfSome (partial_store sh p need (w a) s) P
    partly {need} a g at acc = spilled (s.spilled (w a)) refl
      where
        held : (x : ℕ) → s.cache.value (w a) ≡ Some x → (b : Bool) → holds s.spilled (line_of (w a)) ≡ b
            → IfSome (if b then Some (moves (finished p need x (stored_in_buffer (w a) (new_word need x) s)) nothing)
            else Some (moves (finished p need x (stored_in_frame (w a) (new_word need x) (marks_read (w a) s) s))
            (flush_line sh s.cache (line_of (w a))))) P
        held x e true h = buffers_held x a (new_word need x) g at h
        held x e false h = frames x a (new_word need x) (marks_read (w a) s) g
            at (record {
              held = inr (rw e);
              unspilled = h;
              alone = also-alone s.phase (not (s.cache.modified (w a)));
              read = λ q. (rw e, unmodified (is_running s.phase) (s.cache.modified (w a)) q);
            })

        valid : (b : Option ℕ) → s.cache.value (w a) ≡ b → IfSome (change_valid sh p need (w a) s b) P
        valid (Some x) e = held x e (holds s.spilled (line_of (w a))) refl
        valid None e = fetched a g acc

        spilled : (b : Option ℕ) → s.spilled (w a) ≡ b → IfSome (change_spilled sh p need (w a) s b) P
        spilled (Some x) e = buffers x a (new_word need x) (w a) g at refl (rw e)
        spilled None e = valid (s.cache.value (w a)) refl

    wholly : (a v : ℕ) → Acting p s (Stores a Word v) → IfSome (word_store sh p (Stores a Word v) (w a) v s) P
    wholly a v g = go (holds s.spilled (line_of (w a))) refl (s.cache.held (line_of (w a))) refl
        (is_some (free_way sh s.cache (set_of sh (line_of (w a))))) refl
      where
        need : Need
        need = Stores a Word v

        go : (i : Bool) → holds s.spilled (line_of (w a)) ≡ i → (j : Bool) → s.cache.held (line_of (w a)) ≡ j → (f : Bool)
            → is_some (free_way sh s.cache (set_of sh (line_of (w a)))) ≡ f → IfSome (
            if i then Some (moves (finished p need v (stored_in_buffer (w a) v s)) nothing)
            else (if j then Some (moves (finished p need v (stored_in_frame (w a) v false s)) (flush_line sh s.cache (line_of (w a))))
            else (if f then Some (moves (finished p need v (stored_in_frame (w a) v false (place sh (line_of (w a)) s))) nothing)
            else full_set sh (line_of (w a)) s))) P
        go true h j e f i = buffers_held v a v g refl h
        go false h true e f i =
            frames v a v false g refl (record { held = inl e; unspilled = h; alone = λ q. refl; read = λ q. absurd (cc) })
        go false h false e true i = k (Frames_anew a v need (storing p need v a s refl).0 g refl e i h)
        go false h false e false i = full g.idle s.phase refl g.acts (all_marked sh s.cache (set_of sh (line_of (w a))))

    loads : (a : ℕ) (z : Size) → Acting p s (Loads a z) → IfSome (load sh p (Loads a z) (w a) s) P
    loads a z g = spilled (s.spilled (w a)) refl
      where
        uses : (x : ℕ) → s.cache.value (w a) ≡ Some x → (q : Phase) → s.phase ≡ q
            → P (moves (finished p (Loads a z) x (if is_running q then record s { cache = marked (w a) s.cache } else s)) nothing)
        uses x e Running i = k (Reads a x z (p.after s.local (Some (part x a z))) g i e)
        uses x e _ i = k (Finds a x z (p.after s.local (Some (part x a z))) g (inr (rw i)))

        valid : (b : Option ℕ) → s.cache.value (w a) ≡ b → IfSome (load_valid sh p (Loads a z) (w a) s b) P
        valid (Some x) e = uses x e s.phase refl
        valid None e = fetched a g refl

        spilled : (b : Option ℕ) → s.spilled (w a) ≡ b → IfSome (load_spilled sh p (Loads a z) (w a) s b) P
        spilled (Some x) e = k (Finds a x z (p.after s.local (Some (part x a z))) g (inl (rw e)))
        spilled None e = valid (s.cache.value (w a)) refl

    closes : (l : Local) (e : Outcome) → Ending p s l e → s.awaited ≡ None → (q : Phase) → s.phase ≡ q → Acts q
        → P (end_transaction sh c q (after_end s l e))
    closes l e f n Running r a = k (Ends_run l e f r n)
    closes l e f n (Solo t) r a = k (Ends_alone t l e f r n)
    closes l e f n _ r a = absurd a

    needs : (need : Need) → Acting p s need → IfSome (execute_need sh p c s need) P
    needs Nothing g = k (Idles Nothing (p.after s.local None) s.console g)
    needs (Prints b) g = k (Idles (Prints b) (p.after s.local None) (s.console ++ b ∷ []) g)
    needs (Loads a z) g = loads a z g
    needs (Stores a Word v) g = wholly a v g
    needs (Stores a Half v) g = partly a g refl refl
    needs (Stores a Byte v) g = partly a g refl refl
    needs (Changes a f) g = partly a g refl refl
    needs Ends g = closes (unreserved (p.after s.local None)) Ended (record { need = Ends; at = g.need; end = tt; is = refl }) g.idle
        s.phase refl g.acts
    needs (Halts x) g = closes (unreserved s.local) (HaltedWith x) (record { need = Halts x; at = g.need; end = tt; is = refl }) g.idle
        s.phase refl g.acts
    needs (Traps x) g = closes (unreserved s.local) (TrappedWith x) (record { need = Traps x; at = g.need; end = tt; is = refl }) g.idle
        s.phase refl g.acts

    executes : (a : Option Awaited) → s.awaited ≡ a → Acts s.phase → IfSome (unless_awaiting sh p c s a) P
    executes (Some a) e h = tt
    executes None e h = needs (p.need s.local) (record { acts = h; idle = e; need = refl })

    go : (q : Phase) → s.phase ≡ q → IfSome (exec_in_phase sh p c s q) P
    go Running e = executes s.awaited refl (rw e tt)
    go (Solo t) e = executes s.awaited refl (rw e tt)
    go (Ready t) e = k (Commits_now t e)
    go _ e = tt

-- messages: the TID that was asked for
pub data Granted (sh : Shape) (t : ℕ) (s : CoreState) : Type 0 where
  Given : s.phase ≡ AwaitTid → Granted sh t s
  Given_doomed : s.phase ≡ DoomedTid → Granted sh t s
  Given_room : s.phase ≡ Overflowing None → Granted sh t s
  Given_none : waits_for_tid s.phase ≡ false → Granted sh t s

abbrev pub granted : {sh : Shape} {t : ℕ} {s : CoreState} → Granted sh t s → Out
granted {sh} {t} {s} (Given e) =
    moves (record s { owing = is_probed sh s.cache; phase = probing_or_ready (any_below (is_probed sh s.cache) sh.dirs) t })
    (say sh s (Answers t))
granted {sh} {t} {s} (Given_doomed e) = moves (record s { phase = Running }) (say sh s (Skips_all t))
granted {sh} {t} {s} (Given_room e) = moves (record s { owing = λ d. nat_lt d sh.dirs; phase = Overflowing (Some t) })
    (say sh s (Probes_all t))
granted {sh} {s} (Given_none e) = moves s (say sh s Silent)

abbrev pub granted_said : {sh : Shape} {t : ℕ} {s : CoreState} → Granted sh t s → Said
granted_said {t} (Given e) = Answers t
granted_said {t} (Given_doomed e) = Skips_all t
granted_said {t} (Given_room e) = Probes_all t
granted_said (Given_none e) = Silent

pub each-grant : (sh : Shape) (t : ℕ) (s : CoreState) (P : Out → Type 0) → ((d : Granted sh t s) → P (granted d)) → P (grant sh t s)
unfolding grant waits_for_tid
each-grant sh t s P k = go s.phase refl
  where
    go : (q : Phase) → s.phase ≡ q → P (grant_in_phase sh t s q)
    go AwaitTid e = k (Given e)
    go DoomedTid e = k (Given_doomed e)
    go (Overflowing None) e = k (Given_room e)
    go (Overflowing (Some u)) e = k (Given_none (rw e))
    go _ e = k (Given_none (rw e))

-- a message of directory e: the core ignores a reply or a Fill, or counts the reply, or takes the Fill; it hands out words; or it
-- invalidates words, and where it is violated rolls back
pub data Heard (sh : Shape) (e : ℕ) (s : CoreState) : Type 0 where
  Ignores_reply : (u v : ℕ) → ((s.phase ≡ Probing u) ⊎ (s.phase ≡ Overflowing (Some u)) → s.owing e ≡ false) → Heard sh e s
  Reply_probing : (u v : ℕ) → s.phase ≡ Probing u → s.owing e ≡ true → all_replied sh (put s.owing e false) ≡ false → Heard sh e s
  Last_probing : (u v : ℕ) → s.phase ≡ Probing u → s.owing e ≡ true → all_replied sh (put s.owing e false) ≡ true → Heard sh e s
  Reply_room : (u v : ℕ) → s.phase ≡ Overflowing (Some u) → s.owing e ≡ true → all_replied sh (put s.owing e false) ≡ false → Heard sh e s
  Last_room : (u v : ℕ) → s.phase ≡ Overflowing (Some u) → s.owing e ≡ true → all_replied sh (put s.owing e false) ≡ true → Heard sh e s
  Ignores_fill : (l : ℕ) (ws : List ℕ) → is_awaited s.awaited l ≡ false → Heard sh e s
  Fills : (l : ℕ) (ws : List ℕ) (a : Awaited) → s.awaited ≡ Some a → a.line ≡ l → a.stale ≡ false → Heard sh e s
  Fills_none : (l : ℕ) (ws : List ℕ) (a : Awaited) → s.awaited ≡ Some a → a.line ≡ l → a.stale ≡ true → Heard sh e s
  Hands_out : (l : ℕ) → Heard sh e s
  Hurt_none : (l m u : ℕ) → (is_violated l m u s ≡ false) ⊎ (rests s.phase ≡ true) → Heard sh e s
  Hurt_running : (l m u : ℕ) → is_violated l m u s ≡ true → s.phase ≡ Running → Heard sh e s
  Hurt_waiting : (l m u : ℕ) → is_violated l m u s ≡ true → (s.phase ≡ AwaitTid) ⊎ (s.phase ≡ Overflowing None) → Heard sh e s
  Hurt_probing : (l m u t : ℕ) → is_violated l m u s ≡ true → (s.phase ≡ Probing t) ⊎ (s.phase ≡ Ready t) → Heard sh e s
  Hurt_alone : (l m u t : ℕ) → is_violated l m u s ≡ true → (s.phase ≡ Overflowing (Some t)) ⊎ (s.phase ≡ Solo t) → Heard sh e s

abbrev pub rolled : (line mask : ℕ) → CoreState → Phase → Spilled → CoreState
rolled l m s q sp = record s {
  cache = rolled_back (invalidated l m s.cache);
  local = s.saved;
  n = 0;
  loads = [];
  stores = [];
  console = [];
  ended = Goes;
  owing = λ d. false;
  awaited = staled l s.awaited;
  phase = q;
  spilled = sp;
}

abbrev pub acked : Shape → (line : ℕ) → CoreState → Sends → Out
acked sh l r sends = moves r (then_send sends (to (Dir (home sh l)) (InvAck l (keeps r.cache l) ∷ [])))

abbrev pub heard : {sh : Shape} {e : ℕ} {s : CoreState} → Heard sh e s → Out
heard {sh} {e} {s} (Reply_probing u v q o r) = moves (record s { owing = put s.owing e false }) (say sh s (Marks_at e u))
heard {sh} {e} {s} (Last_probing u v q o r) = moves (record s { owing = put s.owing e false; phase = Ready u }) (say sh s (Marks_at e u))
heard {sh} {e} {s} (Reply_room u v q o r) = moves (record s { owing = put s.owing e false }) (say sh s Silent)
heard {sh} {e} {s} (Last_room u v q o r) = moves (record s { owing = put s.owing e false; phase = Solo u; cache = read_cleared s.cache })
    (say sh s Silent)
heard {sh} {s} (Fills l ws a q i f) = moves (record s { cache = filled l ws s.cache; awaited = None }) (say sh s Silent)
heard {sh} {s} (Fills_none l ws a q i f) = moves (record s { awaited = None }) (say sh s Silent)
heard {sh} {s} (Hands_out l) = moves (record s { cache = cleaned l s.cache }) (say sh s (Flushes l))
heard {sh} {s} (Hurt_none l m u n) = acked sh l (record s { cache = invalidated l m s.cache; awaited = staled l s.awaited })
    (say sh s Silent)
heard {sh} {s} (Hurt_running l m u v q) = acked sh l (rolled l m s Running s.spilled) (say sh s Silent)
heard {sh} {s} (Hurt_waiting l m u v q) = acked sh l (rolled l m s DoomedTid s.spilled) (say sh s Silent)
heard {sh} {s} (Hurt_probing l m u t v q) = acked sh l (rolled l m s Running s.spilled) (say sh s (Aborts_all t))
heard {sh} {s} (Hurt_alone l m u t v q) = acked sh l (rolled l m s Running none_spilled) (say sh s (Skips_all t))
heard {sh} {s} _ = moves s (say sh s Silent)

abbrev pub message : {sh : Shape} {e : ℕ} {s : CoreState} → Heard sh e s → Msg
message (Ignores_reply u v n) = ProbeReply u v
message (Reply_probing u v q o r) = ProbeReply u v
message (Last_probing u v q o r) = ProbeReply u v
message (Reply_room u v q o r) = ProbeReply u v
message (Last_room u v q o r) = ProbeReply u v
message (Ignores_fill l ws n) = Fill l ws
message (Fills l ws a q i f) = Fill l ws
message (Fills_none l ws a q i f) = Fill l ws
message (Hands_out l) = DataReq l
message (Hurt_none l m u n) = Inv l m u
message (Hurt_running l m u v q) = Inv l m u
message (Hurt_waiting l m u v q) = Inv l m u
message (Hurt_probing l m u t v q) = Inv l m u
message (Hurt_alone l m u t v q) = Inv l m u

-- what is said with it, and whether the acknowledgement behind it is of this kind
abbrev pub heard_said : {sh : Shape} {e : ℕ} {s : CoreState} → Heard sh e s → Said
heard_said {e} (Reply_probing u v q o r) = Marks_at e u
heard_said {e} (Last_probing u v q o r) = Marks_at e u
heard_said (Hands_out l) = Flushes l
heard_said (Hurt_probing l m u t v q) = Aborts_all t
heard_said (Hurt_alone l m u t v q) = Skips_all t
heard_said _ = Silent

abbrev pub hears_ack : {sh : Shape} {e : ℕ} {s : CoreState} → Kind → Heard sh e s → Bool → Bool
hears_ack k (Hurt_none l m u n) b = passes k (InvAck l b)
hears_ack k (Hurt_running l m u v q) b = passes k (InvAck l b)
hears_ack k (Hurt_waiting l m u v q) b = passes k (InvAck l b)
hears_ack k (Hurt_probing l m u t v q) b = passes k (InvAck l b)
hears_ack k (Hurt_alone l m u t v q) b = passes k (InvAck l b)
hears_ack k _ b = false

pub heard-quiet : {sh : Shape} {e : ℕ} {s : CoreState} (k : Kind) (x : Heard sh e s) → Unheard k (heard_said x)
    → ((b : Bool) → hears_ack k x b ≡ false) → (d : ℕ) → among k ((heard x).sends (Dir d)) ≡ 0
heard-quiet {sh} {s} k (Hurt_none l m u n) h a d = sym (acked-quiet sh k l _ (say sh s Silent) d (a _)) ∙ quiet sh s k Silent h d
heard-quiet {sh} {s} k (Hurt_running l m u v q) h a d = sym (acked-quiet sh k l _ (say sh s Silent) d (a _)) ∙ quiet sh s k Silent h d
heard-quiet {sh} {s} k (Hurt_waiting l m u v q) h a d = sym (acked-quiet sh k l _ (say sh s Silent) d (a _)) ∙ quiet sh s k Silent h d
heard-quiet {sh} {s} k (Hurt_probing l m u t v q) h a d = sym (acked-quiet sh k l _ (say sh s (Aborts_all t)) d (a _))
    ∙ quiet sh s k (Aborts_all t) h d
heard-quiet {sh} {s} k (Hurt_alone l m u t v q) h a d = sym (acked-quiet sh k l _ (say sh s (Skips_all t)) d (a _))
    ∙ quiet sh s k (Skips_all t) h d
heard-quiet {sh} {s} k x h a d = quiet sh s k (heard_said x) h d

pub writes_at-same : (sh : Shape) (a b : Cache) (d : ℕ) → ((v : ℕ) → a.modified v ≡ b.modified v) → writes_at sh a d ≡ writes_at sh b d
unfolding writes_at is_modified
writes_at-same sh a b d h = ap (λ m. any_below (λ l. d == home sh l && any_word m l) (lines sh)) (λ i v. h v i)

aborts-same : (sh : Shape) (l m t : ℕ) (c : Cache) → abort_written sh (invalidated l m c) t ≡ abort_written sh c t
unfolding abort_written invalidated
aborts-same sh l m t c = ap {A = ℕ → Bool} (λ w. to_dirs sh (λ d. when (w d) (Abort t ∷ [])))
    (λ i d. writes_at-same sh (invalidated l m c) c d (λ v. refl) i)

abbrev expects : Phase → ℕ → Bool
expects (Probing v) u = v == u
expects (Overflowing (Some v)) u = v == u
expects _ u = false

unexpected : (u : ℕ) {q r : Phase} → q ≡ r → expects r u ≡ false → (q ≡ Probing u) ⊎ (q ≡ Overflowing (Some u)) → ⊥
unexpected u {q} {r} g h (inl x) = let z : expects q u ≡ (u == u) = ap (λ p. expects p u) x in let y : (u == u) ≡ true =
    grind nats in let i : expects q u ≡ expects r u = ap (λ p. expects p u) g in cc
unexpected u {q} {r} g h (inr x) = let z : expects q u ≡ (u == u) = ap (λ p. expects p u) x in let y : (u == u) ≡ true =
    grind nats in let i : expects q u ≡ expects r u = ap (λ p. expects p u) g in cc

pub each-back : (sh : Shape) (e : ℕ) (s : CoreState) (P : Msg → Out → Type 0) → ((d : Heard sh e s) → P (message d) (heard d)) → (m : Msg)
    → IfSome (from_dir sh e s m) (P m)
unfolding probe_reply fill data_request invalidate acknowledged if_violated words_invalidated roll_back
each-back sh e s P k m = go m
  where
    reply : (u v : ℕ) (q : Phase) → s.phase ≡ q → P (ProbeReply u v) (reply_in_phase sh e u s q)
    reply u v (Probing t) g = probed (t == u) (s.owing e) refl refl
      where
        ready : t ≡ u → s.owing e ≡ true → (b : Bool) → all_replied sh (put s.owing e false) ≡ b
            → P (ProbeReply u v) (moves (if b then record (replied e s) { phase = Ready u } else replied e s)
            (to (Dir e) (marks_for sh s.cache u e)))
        ready i o true r = k (Last_probing u v (rw (← i) g) o r)
        ready i o false r = k (Reply_probing u v (rw (← i) g) o r)

        probed : (a b : Bool) → (t == u) ≡ a → s.owing e ≡ b
            → P (ProbeReply u v) (if a && b then moves (ready_once_replied sh u (replied e s)) (to (Dir e) (marks_for sh s.cache u e))
            else ignored s)
        probed true true h o = ready (grind nats) o (all_replied sh (put s.owing e false)) refl
        probed true false h o = k (Ignores_reply u v (λ x. o))
        probed false b h o = k (Ignores_reply u v (λ x. absurd (unexpected u g h x)))
    reply u v (Overflowing (Some t)) g = over (t == u) (s.owing e) refl refl
      where
        alone : t ≡ u → s.owing e ≡ true → (b : Bool) → all_replied sh (put s.owing e false) ≡ b
            → P (ProbeReply u v) (moves (if b then record (replied e s) { phase = Solo u; cache = read_cleared s.cache } else replied e s)
            nothing)
        alone i o true r = k (Last_room u v (rw (← i) g) o r)
        alone i o false r = k (Reply_room u v (rw (← i) g) o r)

        over : (a b : Bool) → (t == u) ≡ a → s.owing e ≡ b
            → P (ProbeReply u v) (if a && b then moves (solo_once_replied sh u (replied e s)) nothing else ignored s)
        over true true h o = alone (grind nats) o (all_replied sh (put s.owing e false)) refl
        over true false h o = k (Ignores_reply u v (λ x. o))
        over false b h o = k (Ignores_reply u v (λ x. absurd (unexpected u g h x)))
    reply u v _ g = k (Ignores_reply u v (λ x. absurd (unexpected u g refl x)))

    fills : (l : ℕ) (ws : List ℕ) (a : Option Awaited) → s.awaited ≡ a → P (Fill l ws) (fill_awaited l ws s a)
    fills l ws None q = k (Ignores_fill l ws (rw q))
    fills l ws (Some a) q = one (a.line == l) refl a.stale refl
      where
        one : (b : Bool) → (a.line == l) ≡ b → (f : Bool) → a.stale ≡ f
            → P (Fill l ws) (if b then moves (record s { cache = (if f then s.cache else filled l ws s.cache); awaited = None }) nothing
            else ignored s)
        one false h f i = k (Ignores_fill l ws (rw q h))
        one true h true i = k (Fills_none l ws a q (grind nats) i)
        one true h false i = k (Fills l ws a q (grind nats) i)

    hurt : (l m u : ℕ) (b : Bool) → is_violated l m u s ≡ b → (q : Phase) → s.phase ≡ q
        → P (Inv l m u) (acknowledged sh l (if b then violated_in_phase sh (words_invalidated l m s) q
        else ignored (words_invalidated l m s)))
    hurt l m u false v q e = k (Hurt_none l m u (inl v))
    hurt l m u true v Running e = subst (λ q. P (Inv l m u) (acked sh l (rolled l m s q s.spilled) nothing)) (sym e)
        (k (Hurt_running l m u v e))
    hurt l m u true v AwaitTid e = k (Hurt_waiting l m u v (inl e))
    hurt l m u true v (Overflowing None) e = k (Hurt_waiting l m u v (inr e))
    hurt l m u true v (Probing t) e = subst (λ f. P (Inv l m u) (acked sh l (rolled l m s Running s.spilled) f))
        (sym (aborts-same sh l m t s.cache)) (k (Hurt_probing l m u t v (inl e)))
    hurt l m u true v (Ready t) e = subst (λ f. P (Inv l m u) (acked sh l (rolled l m s Running s.spilled) f))
        (sym (aborts-same sh l m t s.cache)) (k (Hurt_probing l m u t v (inr e)))
    hurt l m u true v (Overflowing (Some t)) e = k (Hurt_alone l m u t v (inl e))
    hurt l m u true v (Solo t) e = k (Hurt_alone l m u t v (inr e))
    hurt l m u true v _ e = k (Hurt_none l m u (inr (rw e)))

    go : (m : Msg) → IfSome (from_dir sh e s m) (P m)
    go (ProbeReply u v) = reply u v s.phase refl
    go (Fill l ws) = fills l ws s.awaited refl
    go (DataReq l) = k (Hands_out l)
    go (Inv l m u) = hurt l m u (is_violated l m u s) refl s.phase refl
    go _ = tt
