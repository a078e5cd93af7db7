-- Which executions make a core wait to go on alone.
use Rattle.std.proofs.Common.{◌≡◌, ◌≢◌, ℕ, Bool, true, false, not, is_some, ◌||◌, ◌&&◌, if◌then◌else◌, Option, Some, None, refl, ap, ◌∙◌}
use Rattle.tcc_base.specs.declared.access.Size.TheVariants.{Byte, Half, Word}
use Rattle.base_lemmas.proofs.Lemmas.{and-false, and-true}
use Rattle.rules_program.specs.Program.{Need, Nothing, Loads, Stores, Changes, Prints, Ends, Halts, Traps, Program}
use Rattle.rules_program.specs.Ram.{word_of}
use Rattle.rules_maps.specs.Cache.{free_way, all_marked}
use Rattle.rules_maps.specs.CacheChange.{marked}
use Rattle.rules_maps.specs.CacheLook.{Look, Hit, Miss, NeedsRoom, Overflow, look_line, look_value, look_load, look_store}
use Rattle.rules_maps.specs.Shape.{Shape, set_of}
use Rattle.rules_maps.specs.Spilled.{holds}
use Rattle.rules_maps.specs.Words.{line_of}
use Rattle.rules_tcc.specs.Attempt.{Out, finished, is_running, is_solo}
use Rattle.rules_tcc.specs.Execute.{request_line, miss, full_set, load, load_spilled, load_valid, overflow, place, with_read_mark}
use Rattle.rules_tcc.specs.Execute.{stored_in_buffer, stored_in_frame}
use Rattle.rules_tcc.specs.Execute.{word_store, partial_store, change_spilled, change_valid, end_transaction, execute, execute_need}
use Rattle.rules_program.specs.Plain.{Outcome, Goes, Ended, Halted as HaltedWith, Trapped as TrappedWith}
use Rattle.rules_tcc.specs.Commit.{commit, committed_core, phase_after_commit, solo_commit}
use Rattle.rules_tcc.specs.CoreExec.{exec_in_phase, unless_awaiting}
use Rattle.rules_tcc.specs.State.{CoreState, Awaited, Phase, Running, AwaitTid, DoomedTid, Probing, Ready, Overflowing, Solo, Halted}
use Rattle.commit_engine.specs.Engine.{phase_of, overflows}
use Rattle.commit_engine.specs.declared.phase.Phase.{Phase as CodePhase}
use Rattle.commit_engine.specs.declared.phase.Phase.TheVariants as code
use Rattle.core_node.specs.AtHand.{goes_alone, line_overflows, need_overflows, store_overflows, word_overflows}
use Rattle.core_node.specs.Waiting.{is_full}
use Rattle.core_node.proofs.Finished.{phase-finished}

full_line : (sh : Shape) (l : ℕ) (s : CoreState) → is_full (look_line sh l s.cache) ≡ line_overflows sh l s
unfolding look_line
full_line sh l s = by (s.cache.held l) (is_some (free_way sh s.cache (set_of sh l))) (all_marked sh s.cache (set_of sh l)) (set_of sh l)
  where
    by : (h f m : Bool) (x : ℕ) → is_full (if h then Miss else if f then Miss else if m then Overflow x else NeedsRoom x)
        ≡ (not (h || f) && m)
    by true f m x = refl
    by false true m x = refl
    by false false true x = refl
    by false false false x = refl

line_held : (sh : Shape) (l : ℕ) (s : CoreState) → s.cache.held l ≡ true → false ≡ line_overflows sh l s
line_held sh l s q = rw q refl

pub full_word : (sh : Shape) (w : ℕ) (s : CoreState) (r : Bool) (look : Look) → None ≡ s.spilled w → r ≡ is_full look
    → look ≡ look_load sh w s.cache → r ≡ word_overflows sh w s
unfolding look_load look_value word_overflows
full_word sh w s r look e f g = f ∙ rw g (rw (← e) (by (s.cache.value w)))
  where
    by : (v : Option ℕ) → is_full (look_value v sh (line_of w) s.cache) ≡ (if is_some v then false else line_overflows sh (line_of w) s)
    by (Some x) = refl
    by None = full_line sh (line_of w) s

pub full_store : (sh : Shape) (w : ℕ) (s : CoreState) (r : Bool) (look : Look) → holds s.spilled (line_of w) ≡ false → r ≡ is_full look
    → look ≡ look_store sh w true s.cache → r ≡ store_overflows sh w s
unfolding look_store store_overflows
full_store sh w s r look e f g = f ∙ rw g (rw e (by (s.cache.held (line_of w)) refl))
  where
    by : (b : Bool) → s.cache.held (line_of w) ≡ b → is_full (if b then Hit 0 else look_line sh (line_of w) s.cache)
        ≡ line_overflows sh (line_of w) s
    by true q = line_held sh (line_of w) s q
    by false q = full_line sh (line_of w) s

-- ---- what the rules say, where the core doesn't wait to go on alone yet

abbrev Same : Option Out → Bool → Type 0
Same o b = goes_alone o ≡ b

finished-stays : (p : Program) (n : Need) (x : ℕ) (s : CoreState) → overflows s.phase ≡ false → overflows (finished p n x s).phase ≡ false
finished-stays p n x s e = ap overflows (phase-finished p n x s) ∙ e

used-phase : (w : ℕ) (s : CoreState) → (with_read_mark w s).phase ≡ s.phase
unfolding with_read_mark
used-phase w s = by (is_running s.phase)
  where
    by : (b : Bool) → (if b then record s { cache = marked w s.cache } else s).phase ≡ s.phase
    by true = refl
    by false = refl

fetch-alone : (sh : Shape) (l : ℕ) (s : CoreState) → overflows s.phase ≡ false
    → Same (miss sh l s) (line_overflows sh l s && not (is_solo s.phase))
unfolding miss full_set request_line place overflow
fetch-alone sh l s e = by (s.cache.held l) (is_some (free_way sh s.cache (set_of sh l))) (all_marked sh s.cache (set_of sh l)) (is_solo
    s.phase)
    _ _ _ e e refl
  where
    by : (h f m a : Bool) (x y z : Out) → overflows x.core.phase ≡ false → overflows y.core.phase ≡ false → overflows z.core.phase ≡ true
        → Same (if h then Some x else if f then Some y else if a || not m then None else Some z) ((not (h || f) && m) && not a)
    by true f m a x y z p q r = p
    by false true m a x y z p q r = q
    by false false true true x y z p q r = refl
    by false false true false x y z p q r = r
    by false false false true x y z p q r = refl
    by false false false false x y z p q r = refl

load-alone : (sh : Shape) (p : Program) (need : Need) (w : ℕ) (s : CoreState) → overflows s.phase ≡ false
    → Same (load sh p need w s) (word_overflows sh w s && not (is_solo s.phase))
unfolding load word_overflows
load-alone sh p need w s e = by (s.spilled w) (s.cache.value w) refl
  where
    by_value : (v : Option ℕ)
        → Same (load_valid sh p need w s v) ((if is_some v then false else line_overflows sh (line_of w) s) && not (is_solo s.phase))
    by_value (Some x) = finished-stays p need x (with_read_mark w s) (ap overflows (used-phase w s) ∙ e)
    by_value None = fetch-alone sh (line_of w) s e

    by : (o v : Option ℕ) → v ≡ s.cache.value w → Same (load_spilled sh p need w s o)
        ((if is_some o || is_some v then false else line_overflows sh (line_of w) s) && not (is_solo s.phase))
    by (Some x) v f = finished-stays p need x s e
    by None v f = rw f (by_value (s.cache.value w))

partial-alone : (sh : Shape) (p : Program) (need : Need) (w : ℕ) (s : CoreState) → overflows s.phase ≡ false
    → Same (partial_store sh p need w s) (word_overflows sh w s && not (is_solo s.phase))
unfolding partial_store word_overflows stored_in_buffer stored_in_frame
partial-alone sh p need w s e = by (s.spilled w) (s.cache.value w) refl
  where
    either : (b : Bool) (x y : Out) → overflows x.core.phase ≡ false → overflows y.core.phase ≡ false
        → Same (if b then Some x else Some y) false
    either true x y q r = q
    either false x y q r = r

    by_value : (v : Option ℕ)
        → Same (change_valid sh p need w s v) ((if is_some v then false else line_overflows sh (line_of w) s) && not (is_solo s.phase))
    by_value (Some x) = either (holds s.spilled (line_of w)) _ _ (finished-stays p need x _ e) (finished-stays p need x _ e)
    by_value None = fetch-alone sh (line_of w) s e

    by : (o v : Option ℕ) → v ≡ s.cache.value w → Same (change_spilled sh p need w s o)
        ((if is_some o || is_some v then false else line_overflows sh (line_of w) s) && not (is_solo s.phase))
    by (Some x) v f = finished-stays p need x _ e
    by None v f = rw f (by_value (s.cache.value w))

store-alone : (sh : Shape) (p : Program) (need : Need) (w x : ℕ) (s : CoreState) → overflows s.phase ≡ false
    → Same (word_store sh p need w x s) (store_overflows sh w s && not (is_solo s.phase))
unfolding word_store full_set store_overflows stored_in_buffer stored_in_frame place overflow
store-alone sh p need w x s e =
    by (holds s.spilled (line_of w)) (s.cache.held (line_of w)) (is_some (free_way sh s.cache (set_of sh (line_of w))))
    (all_marked sh s.cache (set_of sh (line_of w))) (is_solo s.phase) _ _ _ _
    (finished-stays p need x _ e) (finished-stays p need x _ e) (finished-stays p need x _ e) refl
  where
    by : (k h f m a : Bool) (t u v z : Out) → overflows t.core.phase ≡ false → overflows u.core.phase ≡ false
        → overflows v.core.phase ≡ false
        → overflows z.core.phase ≡ true
        → Same (if k then Some t else if h then Some u else if f then Some v else if a || not m then None else Some z)
        ((if k then false else not (h || f) && m) && not a)
    by true h f m a t u v z o p q r = o
    by false true f m a t u v z o p q r = p
    by false false true m a t u v z o p q r = q
    by false false false true true t u v z o p q r = refl
    by false false false true false t u v z o p q r = r
    by false false false false true t u v z o p q r = refl
    by false false false false false t u v z o p q r = refl

after-stays : (o : Outcome) → overflows (phase_after_commit o) ≡ false
after-stays Goes = refl
after-stays Ended = refl
after-stays (HaltedWith code) = refl
after-stays (TrappedWith code) = refl

close-alone : (sh : Shape) (id : ℕ) (q : Phase) (t : CoreState) → overflows (end_transaction sh id q t).core.phase ≡ false
unfolding solo_commit committed_core
close-alone sh id (Solo u) t = after-stays t.ended
close-alone sh id Running t = refl
close-alone sh id AwaitTid t = refl
close-alone sh id DoomedTid t = refl
close-alone sh id (Probing u) t = refl
close-alone sh id (Ready u) t = refl
close-alone sh id (Overflowing u) t = refl
close-alone sh id Halted t = refl

pub need-alone : (sh : Shape) (p : Program) (id : ℕ) (s : CoreState) (need : Need) → overflows s.phase ≡ false
    → Same (execute_need sh p id s need) (need_overflows sh s need && not (is_solo s.phase))
need-alone sh p id s Nothing e = finished-stays p Nothing 0 s e
need-alone sh p id s (Loads addr size) e = load-alone sh p (Loads addr size) (word_of sh.base addr) s e
need-alone sh p id s (Stores addr Word value) e = store-alone sh p (Stores addr Word value) (word_of sh.base addr) value s e
need-alone sh p id s (Stores addr Half value) e = partial-alone sh p (Stores addr Half value) (word_of sh.base addr) s e
need-alone sh p id s (Stores addr Byte value) e = partial-alone sh p (Stores addr Byte value) (word_of sh.base addr) s e
need-alone sh p id s (Changes addr changed) e = partial-alone sh p (Changes addr changed) (word_of sh.base addr) s e
need-alone sh p id s (Prints byte) e = finished-stays p (Prints byte) 0 s e
need-alone sh p id s Ends e = close-alone sh id s.phase _
need-alone sh p id s (Halts status) e = close-alone sh id s.phase _
need-alone sh p id s (Traps cause) e = close-alone sh id s.phase _

execute-alone : (sh : Shape) (p : Program) (id : ℕ) (s : CoreState) → overflows s.phase ≡ false
    → goes_alone (execute sh p id s) ≡ (need_overflows sh s (p.need s.local) && not (is_solo s.phase))
unfolding execute
execute-alone sh p id s e = need-alone sh p id s (p.need s.local) e

-- one that runs does where the set that it wants is full of marks
pub runs-alone : (sh : Shape) (p : Program) (id : ℕ) (s : CoreState) → s.phase ≡ Running
    → goes_alone (execute sh p id s) ≡ need_overflows sh s (p.need s.local)
runs-alone sh p id s e =
    execute-alone sh p id s (ap overflows e) ∙ ap (λ q. need_overflows sh s (p.need s.local) && not (is_solo q)) e
    ∙ and-true (need_overflows sh s (p.need s.local))

-- and no other one does
pub others-stay : (sh : Shape) (p : Program) (id : ℕ) (s : CoreState) (q : CodePhase) → s.phase ≡ phase_of q → q ≢ code.Running
    → goes_alone (exec_in_phase sh p id s (phase_of q)) ≡ false
unfolding commit committed_core
others-stay sh p id s code.Running e n = absurd (n refl)
others-stay sh p id s (code.Solo t) e n = by s.awaited
  where
    by : (a : Option Awaited) → goes_alone (unless_awaiting sh p id s a) ≡ false
    by (Some a) = refl
    by None = execute-alone sh p id s (ap overflows e) ∙ ap (λ q. need_overflows sh s (p.need s.local) && not (is_solo q)) e
        ∙ and-false (need_overflows sh s (p.need s.local))
others-stay sh p id s (code.Ready t) e n = after-stays s.ended
others-stay sh p id s code.AwaitTid e n = refl
others-stay sh p id s code.DoomedTid e n = refl
others-stay sh p id s (code.Probing t) e n = refl
others-stay sh p id s (code.Overflowing None) e n = refl
others-stay sh p id s (code.Overflowing (Some t)) e n = refl
others-stay sh p id s code.Halted e n = refl
