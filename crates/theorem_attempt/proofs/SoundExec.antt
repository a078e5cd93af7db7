-- Exec and Evict keep what holds of a core.
use Rattle.std.proofs.Common.{◌≡◌, ℕ, Bool, true, false, cond, ⊎_elim, Option, Some, None, is_some, refl, ap, ◌∙◌}
use Rattle.std.proofs.lemmas.Bool.{cases_Bool}
use Rattle.tcc_base.specs.declared.access.Size.{Size}
use Rattle.tcc_base.specs.declared.access.Size.TheVariants.{Byte, Half, Word}
use Rattle.base_lemmas.proofs.Lemmas.{held_valued}
use Rattle.rules_program.specs.Program.{Need, Nothing, Loads, Stores, Changes, Prints, Ends, Halts, Traps, Program}
use Rattle.rules_program.specs.Ram.{word_of}
use Rattle.rules_maps.specs.Words.{line_of}
use Rattle.rules_maps.specs.Shape.{Shape, set_of}
use Rattle.rules_maps.specs.Cache.{Cache, free_way}
use Rattle.rules_maps.specs.CacheChange.{committed, words_dropped}
use Rattle.rules_maps.specs.Spilled.{holds, none_spilled}
use Rattle.rules_maps.proofs.Lemmas.{committed-keeps, words_dropped-keeps, read-committed, modified-committed, held-committed}
use Rattle.rules_maps.proofs.Lemmas.{held-words_dropped}
use Rattle.rules_tcc.specs.State.{CoreState, Awaited, Phase, Running, AwaitTid, DoomedTid, Probing, Ready, Overflowing, Solo, Halted}
use Rattle.rules_tcc.specs.Sends.{nothing, flush_line}
use Rattle.rules_tcc.specs.Attempt.{moves, is_solo, finished, new_word}
use Rattle.rules_tcc.specs.Commit.{committed_core, commit, solo_commit}
use Rattle.rules_tcc.specs.Execute.{place, full_set, with_read_mark, load_valid, load_spilled, load, stored_in_buffer, stored_in_frame}
use Rattle.rules_tcc.specs.Execute.{word_store, marks_read, change_valid, change_spilled, partial_store, end_transaction, store_by_size}
use Rattle.rules_tcc.specs.Execute.{execute_need, execute}
use Rattle.rules_tcc.specs.CoreExec.{unless_awaiting, exec_in_phase, core_exec}
use Rattle.theorem_attempt.specs.Sound.{AwaitsHeld, is_idle, SoundCore}
use Rattle.theorem_attempt.proofs.Sound.{finished-sound, holds-none, MayAct, OutSound, with_read_mark-sound}
use Rattle.theorem_attempt.proofs.Sound.{stored_in_buffer-sound}
use Rattle.theorem_attempt.proofs.Sound.{stored_in_frame-sound, miss-sound, full_set-sound, place-sound, place-held}

spilled-holds : (sp : ℕ → Option ℕ) (w x : ℕ) → sp w ≡ Some x → holds sp (line_of w) ≡ true
spilled-holds sp w x e = ⊎_elim (λ h. h) (λ h. let n = holds-none sp (line_of w) w h refl in let t : is_some (sp w) ≡ true = ap is_some e in
    absurd (cc)) (cases_Bool (holds sp (line_of w)))

load-sound : (sh : Shape) (p : Program) (need : Need) (w : ℕ) (s : CoreState) → MayAct s → SoundCore sh s → OutSound sh (load sh p need w s)
unfolding load
load-sound sh p need w s m k = spilled_in (s.spilled w)
  where
    valid_in : (o : Option ℕ) → s.cache.value w ≡ o → OutSound sh (load_valid sh p need w s o)
    valid_in (Some x) e = finished-sound sh p need x (with_read_mark w s) (with_read_mark-sound sh w x s m e k)
    valid_in None e = miss-sound sh (line_of w) s k

    spilled_in : (o : Option ℕ) → OutSound sh (load_spilled sh p need w s o)
    spilled_in (Some x) = finished-sound sh p need x s k
    spilled_in None = valid_in (s.cache.value w) refl

placed_acts : (sh : Shape) (l : ℕ) (s : CoreState) → MayAct s → MayAct (place sh l s)
unfolding place
placed_acts sh l s q = q

placed_holds : (sh : Shape) (l : ℕ) (s : CoreState) → holds s.spilled l ≡ false → holds (place sh l s).spilled l ≡ false
unfolding place
placed_holds sh l s q = q

word_store-sound : (sh : Shape) (p : Program) (need : Need) (w x : ℕ) (s : CoreState) → MayAct s → SoundCore sh s
    → OutSound sh (word_store sh p need w x s)
unfolding word_store
word_store-sound sh p need w x s m k = at (holds s.spilled (line_of w)) refl (s.cache.held (line_of w)) refl
    (free_way sh s.cache (set_of sh (line_of w))) refl
  where
    at : (a : Bool) → holds s.spilled (line_of w) ≡ a → (b : Bool) → s.cache.held (line_of w) ≡ b → (o : Option ℕ)
        → free_way sh s.cache (set_of sh (line_of w)) ≡ o →
        OutSound sh (cond a (Some (moves (finished p need x (stored_in_buffer w x s)) nothing))
        (cond b (Some (moves (finished p need x (stored_in_frame w x false s)) (flush_line sh s.cache (line_of w))))
        (cond (is_some o) (Some (moves (finished p need x (stored_in_frame w x false (place sh (line_of w) s))) nothing))
        (full_set sh (line_of w) s))))
    at true h b i o e = finished-sound sh p need x (stored_in_buffer w x s) (stored_in_buffer-sound sh w x s m h k)
    at false h true i o e = finished-sound sh p need x (stored_in_frame w x false s) (stored_in_frame-sound sh w x false s m i h k)
    at false h false i (Some y) e = finished-sound sh p need x (stored_in_frame w x false (place sh (line_of w) s))
        (stored_in_frame-sound sh w x false (place sh (line_of w) s) (placed_acts sh (line_of w) s m) (place-held sh (line_of w) y s e)
        (placed_holds sh (line_of w) s h) (place-sound sh (line_of w) y s i e k))
    at false h false i None e = full_set-sound sh (line_of w) s k

partial_store-sound : (sh : Shape) (p : Program) (need : Need) (w : ℕ) (s : CoreState) → MayAct s → SoundCore sh s
    → OutSound sh (partial_store sh p need w s)
unfolding partial_store
partial_store-sound sh p need w s m k = spilled_in (s.spilled w) refl
  where
    held_in : (x : ℕ) → s.cache.value w ≡ Some x → (a : Bool) → holds s.spilled (line_of w) ≡ a →
        OutSound sh (cond a (Some (moves (finished p need x (stored_in_buffer w (new_word need x) s)) nothing))
        (Some (moves (finished p need x (stored_in_frame w (new_word need x) (marks_read w s) s))
        (flush_line sh s.cache (line_of w)))))
    held_in x e true h =
        finished-sound sh p need x (stored_in_buffer w (new_word need x) s) (stored_in_buffer-sound sh w (new_word need x) s m h k)
    held_in x e false h = finished-sound sh p need x (stored_in_frame w (new_word need x) (marks_read w s) s)
        (stored_in_frame-sound sh w (new_word need x) (marks_read w s) s m (held_valued sh s.cache w x k.cache e) h k)

    valid_in : (o : Option ℕ) → s.cache.value w ≡ o → OutSound sh (change_valid sh p need w s o)
    valid_in None e = miss-sound sh (line_of w) s k
    valid_in (Some x) e = held_in x e (holds s.spilled (line_of w)) refl

    spilled_in : (o : Option ℕ) → s.spilled w ≡ o → OutSound sh (change_spilled sh p need w s o)
    spilled_in (Some x) e = finished-sound sh p need x (stored_in_buffer w (new_word need x) s)
        (stored_in_buffer-sound sh w (new_word need x) s m (spilled-holds s.spilled w x e) k)
    spilled_in None e = valid_in (s.cache.value w) refl

committed-awaits : (t : ℕ) (c : Cache) (o : Option Awaited) → AwaitsHeld c o → AwaitsHeld (committed t c) o
committed-awaits t c None h = tt
committed-awaits t c (Some a) h = held-committed t c a.line ∙ h

dropped-awaits : (f : ℕ → Option ℕ) (c : Cache) (o : Option Awaited) → AwaitsHeld c o → AwaitsHeld (words_dropped f c) o
dropped-awaits f c None h = tt
dropped-awaits f c (Some a) h = held-words_dropped f c a.line ∙ h

-- a core that isn't alone commits: it has spilled nothing
pub commit-sound : (sh : Shape) (id t : ℕ) (s : CoreState) → is_solo s.phase ≡ false → SoundCore sh s → SoundCore sh (commit sh id t s).core
unfolding commit committed_core
commit-sound sh id t s h k = record {
  cache = committed-keeps sh t s.cache k.cache;
  awaits = committed-awaits t s.cache s.awaited k.awaits;
  alone = λ i w. k.alone h w;
  apart = λ v w i j. absurd (let n : is_some (s.spilled v) ≡ false = ap is_some (k.alone h v) in cc);
  unmarked = λ i w. (read-committed t s.cache w, modified-committed t s.cache w);
}

pub solo_commit-sound : (sh : Shape) (id t : ℕ) (s : CoreState) → SoundCore sh s → SoundCore sh (solo_commit sh id t s).core
unfolding solo_commit committed_core none_spilled
solo_commit-sound sh id t s k = record {
  cache = committed-keeps sh t (words_dropped s.spilled s.cache) (words_dropped-keeps sh s.spilled s.cache k.cache);
  awaits = committed-awaits t (words_dropped s.spilled s.cache) s.awaited (dropped-awaits s.spilled s.cache s.awaited k.awaits);
  alone = λ i w. refl;
  apart = λ v w i j. absurd (cc);
  unmarked = λ i w. (read-committed t (words_dropped s.spilled s.cache) w, modified-committed t (words_dropped s.spilled s.cache) w);
}

await-sound : (sh : Shape) (s : CoreState) → is_solo s.phase ≡ false → SoundCore sh s → SoundCore sh (record s { phase = AwaitTid })
await-sound sh s h k = record { cache = k.cache; awaits = k.awaits; alone = λ i. k.alone h; apart = k.apart; unmarked = λ i w. absurd (cc) }

end_transaction-sound : (sh : Shape) (id : ℕ) (q : Phase) (s : CoreState) → s.phase ≡ q → SoundCore sh s →
    SoundCore sh (end_transaction sh id q s).core
end_transaction-sound sh id (Solo t) s e k = solo_commit-sound sh id t s k
end_transaction-sound sh id Running s e k = await-sound sh s (ap is_solo e) k
end_transaction-sound sh id AwaitTid s e k = await-sound sh s (ap is_solo e) k
end_transaction-sound sh id DoomedTid s e k = await-sound sh s (ap is_solo e) k
end_transaction-sound sh id (Probing t) s e k = await-sound sh s (ap is_solo e) k
end_transaction-sound sh id (Ready t) s e k = await-sound sh s (ap is_solo e) k
end_transaction-sound sh id (Overflowing t) s e k = await-sound sh s (ap is_solo e) k
end_transaction-sound sh id Halted s e k = await-sound sh s (ap is_solo e) k

-- the end of an instruction leaves the phase
ends-phase : (p : Program) (s : CoreState) → (finished p Ends 0 s).phase ≡ s.phase
unfolding finished Rattle.rules_tcc.specs.Attempt.one_more_instruction
ends-phase p s = refl

halts-phase : (p : Program) (code : ℕ) (s : CoreState) → (finished p (Halts code) 0 s).phase ≡ s.phase
unfolding finished
halts-phase p code s = refl

traps-phase : (p : Program) (code : ℕ) (s : CoreState) → (finished p (Traps code) 0 s).phase ≡ s.phase
unfolding finished
traps-phase p code s = refl

store_by_size-sound : (sh : Shape) (p : Program) (addr : ℕ) (size : Size) (value : ℕ) (s : CoreState) → MayAct s → SoundCore sh s
    → OutSound sh (store_by_size sh p addr size value s)
store_by_size-sound sh p addr Word value s m k = word_store-sound sh p (Stores addr Word value) (word_of sh.base addr) value s m k
store_by_size-sound sh p addr Half value s m k = partial_store-sound sh p (Stores addr Half value) (word_of sh.base addr) s m k
store_by_size-sound sh p addr Byte value s m k = partial_store-sound sh p (Stores addr Byte value) (word_of sh.base addr) s m k

need-sound : (sh : Shape) (p : Program) (id : ℕ) (s : CoreState) (need : Need) → MayAct s → SoundCore sh s
    → OutSound sh (execute_need sh p id s need)
need-sound sh p id s Nothing m k = finished-sound sh p Nothing 0 s k
need-sound sh p id s (Loads addr size) m k = load-sound sh p (Loads addr size) (word_of sh.base addr) s m k
need-sound sh p id s (Stores addr size value) m k = store_by_size-sound sh p addr size value s m k
need-sound sh p id s (Changes addr changed) m k = partial_store-sound sh p (Changes addr changed) (word_of sh.base addr) s m k
need-sound sh p id s (Prints byte) m k = finished-sound sh p (Prints byte) 0 s k
need-sound sh p id s Ends m k = end_transaction-sound sh id s.phase (finished p Ends 0 s) (ends-phase p s) (finished-sound sh p Ends 0 s k)
need-sound sh p id s (Halts code) m k = end_transaction-sound sh id s.phase (finished p (Halts code) 0 s) (halts-phase p code s)
    (finished-sound sh p (Halts code) 0 s k)
need-sound sh p id s (Traps code) m k = end_transaction-sound sh id s.phase (finished p (Traps code) 0 s) (traps-phase p code s)
    (finished-sound sh p (Traps code) 0 s k)

execute-sound : (sh : Shape) (p : Program) (id : ℕ) (s : CoreState) → MayAct s → SoundCore sh s → OutSound sh (execute sh p id s)
unfolding execute
execute-sound sh p id s m k = need-sound sh p id s (p.need s.local) m k

unless-sound : (sh : Shape) (p : Program) (id : ℕ) (s : CoreState) (o : Option Awaited) → MayAct s → SoundCore sh s
    → OutSound sh (unless_awaiting sh p id s o)
unless-sound sh p id s (Some a) m k = tt
unless-sound sh p id s None m k = execute-sound sh p id s m k

phase-sound : (sh : Shape) (p : Program) (id : ℕ) (s : CoreState) (q : Phase) → s.phase ≡ q → SoundCore sh s
    → OutSound sh (exec_in_phase sh p id s q)
phase-sound sh p id s Running e k = unless-sound sh p id s s.awaited (ap is_idle e) k
phase-sound sh p id s (Solo t) e k = unless-sound sh p id s s.awaited (ap is_idle e) k
phase-sound sh p id s (Ready t) e k = commit-sound sh id t s (ap is_solo e) k
phase-sound sh p id s AwaitTid e k = tt
phase-sound sh p id s DoomedTid e k = tt
phase-sound sh p id s (Probing t) e k = tt
phase-sound sh p id s (Overflowing t) e k = tt
phase-sound sh p id s Halted e k = tt

pub core_exec-sound : (sh : Shape) (p : Program) (id : ℕ) (s : CoreState) → SoundCore sh s → OutSound sh (core_exec sh p id s)
unfolding core_exec
core_exec-sound sh p id s k = phase-sound sh p id s s.phase refl k
