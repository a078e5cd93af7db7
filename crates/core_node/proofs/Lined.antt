-- An instruction that fills the line of a word that it reads, and one that fills none.
use Rattle.std.proofs.Common.{◌≡◌, ◌≢◌, ℕ, Bool, true, false, not, is_some, ◌||◌, ◌&&◌, if◌then◌else◌, Option, Some, None, Result, Ok}
use Rattle.std.proofs.Common.{Err, OnOk, OnErr, List, refl, ap, subst, sym, ◌∙◌}
use Rattle.tcc_base.specs.declared.access.Size.{Size}
use Rattle.tcc_base.specs.declared.access.Size.TheVariants.{Byte, Half, Word}
use Rattle.base_lemmas.proofs.Lemmas.{eq-self}
use Rattle.image_load.specs.Start.{Start}
use Rattle.rv_code.specs.Instructions.{Runs}
use Rattle.rv_code.specs.Machine.{program, in_ram}
use Rattle.rv_code.specs.Served.{IsServed}
use Rattle.rv_decode.specs.declared.instruction.Inst.{Inst}
use Rattle.rv_exec.specs.Effects.{planned}
use Rattle.rv_exec.specs.Running.{bounded, alone}
use Rattle.rv_exec.specs.Needs.{need_of}
use Rattle.rv_exec.specs.declared.need.Need.{Need as CodeNeed}
use Rattle.rv_exec.specs.declared.need.Need.TheVariants as code_need
use Rattle.rules_program.specs.Program.{Need, Nothing, Loads, Stores, Changes, Prints, Ends, Halts, Traps, Program}
use Rattle.rules_program.specs.Ram.{word_of}
use Rattle.rules_maps.specs.Cache.{Cache, free_way, all_marked}
use Rattle.rules_maps.specs.CacheChange.{filled, placed, placed_at}
use Rattle.rules_maps.specs.CacheLook.{Look, Hit, Miss, NeedsRoom, Overflow, look_line, look_store}
use Rattle.rules_maps.specs.Shape.{Shape, set_of}
use Rattle.rules_maps.specs.Spilled.{holds}
use Rattle.rules_maps.specs.Words.{line_of}
use Rattle.rules_tcc.specs.Attempt.{Out, finished, is_running, moves, new_word}
use Rattle.rules_tcc.specs.CoreExec.{core_exec, exec_in_phase, unless_awaiting}
use Rattle.rules_tcc.specs.Execute.{load, with_read_mark}
use Rattle.rules_tcc.specs.Execute.{stored_in_buffer, stored_in_frame}
use Rattle.rules_tcc.specs.Execute.{partial_store, marks_read, execute}
use Rattle.rules_tcc.specs.Execute.{execute_need}
use Rattle.rules_tcc.specs.Sends.{Sends}
use Rattle.rules_tcc.specs.State.{CoreState, Awaited, Phase, Running, AwaitTid, DoomedTid, Probing, Ready, Overflowing as Overflows, Solo}
use Rattle.rules_tcc.specs.State.{Halted}
use Rattle.core_node.specs.AtHand.{Leaves, changed, executes, is_whole, lined, need_fills, ready, with_line, word_fills}
use Rattle.core_node.specs.AtHand.{word_lined}
use Rattle.core_node.specs.Answers.{IsBlocked, IsMemory}
use Rattle.core_node.specs.declared.delivering.CoreError.{CoreError}
use Rattle.core_node.specs.declared.delivering.CoreError.TheVariants.{Blocked, Memory}
use Rattle.core_node.specs.Executing.{GoesOn, IsAligned}
use Rattle.core_node.specs.Waiting.{has_way}
use Rattle.core_node.proofs.InstAtPc.{executed_as}
use Rattle.core_node.proofs.Finished.{cache-finished, finished_cache}
use Rattle.core_node.proofs.Loaded.{load_valid as valid_loads}
use Rattle.core_node.proofs.Stored.{partial_valid}

-- ---- the line of a word that is read

abbrev pub framed_cache : Shape → (line : ℕ) → Cache → Cache
framed_cache sh l c = if c.held l then c else placed sh l c

placed-value : (sh : Shape) (l : ℕ) (c : Cache) → (placed sh l c).value ≡ c.value
unfolding placed placed_at
placed-value sh l c = by (free_way sh c (set_of sh l))
  where
    by : (o : Option ℕ) → (placed_at o (set_of sh l) l c).value ≡ c.value
    by None = refl
    by (Some y) = refl

framed-value : (sh : Shape) (l : ℕ) (c : Cache) → (framed_cache sh l c).value ≡ c.value
framed-value sh l c = by (c.held l)
  where
    by : (b : Bool) → (if b then c else placed sh l c).value ≡ c.value
    by true = refl
    by false = placed-value sh l c

-- the word is valid then
pub lined-value : (sh : Shape) (w : ℕ) (ws : List ℕ) (s : CoreState)
    → (lined sh (line_of w) ws s).cache.value w ≡ Some (word_lined ws w s)
unfolding lined filled
lined-value sh w ws s = rw (eq-self (line_of w), framed-value sh (line_of w) s.cache) refl

way-line : (sh : Shape) (l : ℕ) (c : Cache) (h : Bool) → h ≡ c.held l
    → has_way (if h then Hit 0 else look_line sh l c) ≡ (h || is_some (free_way sh c (set_of sh l)))
unfolding look_line
way-line sh l c true e = refl
way-line sh l c false e = rw (← e) (by (is_some (free_way sh c (set_of sh l))) (all_marked sh c (set_of sh l)) (set_of sh l))
  where
    by : (f m : Bool) (x : ℕ) → has_way (if f then Miss else if m then Overflow x else NeedsRoom x) ≡ f
    by true m x = refl
    by false true x = refl
    by false false x = refl

pub way-fills : (sh : Shape) (w : ℕ) (s : CoreState) (r : Bool) (look : Look) → None ≡ s.spilled w
    → is_whole (line_of w) s.cache ≡ false → r ≡ has_way look → look ≡ look_store sh w true s.cache → r ≡ word_fills sh w s
unfolding look_store word_fills
way-fills sh w s r look e h f g = f ∙ rw g (rw (← e, h) (way-line sh (line_of w) s.cache (s.cache.held (line_of w)) refl))

pub whole-fills : (sh : Shape) (w : ℕ) (s : CoreState) → None ≡ s.spilled w → is_whole (line_of w) s.cache ≡ true
    → false ≡ word_fills sh w s
unfolding word_fills
whole-fills sh w s e h = rw (← e, h) refl

-- where a line is filled the cache answers that it may be asked for
lacks-miss : (sh : Shape) (l : ℕ) (s : CoreState) → (s.cache.held l || is_some (free_way sh s.cache (set_of sh l))) ≡ true
    → Miss ≡ look_line sh l s.cache
unfolding look_line
lacks-miss sh l s e = by (s.cache.held l) (is_some (free_way sh s.cache (set_of sh l))) _ e
  where
    by : (h f : Bool) (k : Look) → (h || f) ≡ true → Miss ≡ (if h then Miss else if f then Miss else k)
    by true f k q = refl
    by false true k q = refl
    by false false k q = cc

-- to read the word fills its line
pub record Fills (sh : Shape) (w : ℕ) (s : CoreState) : Type 0 where
  pub spilled : s.spilled w ≡ None
  pub frame : (s.cache.held (line_of w) || is_some (free_way sh s.cache (set_of sh (line_of w)))) ≡ true

pub fills-so : (sh : Shape) (w : ℕ) (s : CoreState) → word_fills sh w s ≡ true → Fills sh w s
unfolding word_fills
fills-so sh w s e = by (s.spilled w) refl (is_whole (line_of w) s.cache) e
  where
    by : (o : Option ℕ) → s.spilled w ≡ o → (h : Bool)
        → (if is_some o || h then false else s.cache.held (line_of w) || is_some (free_way sh s.cache (set_of sh (line_of w)))) ≡ true
        → Fills sh w s
    by (Some x) a h q = cc
    by None a true q = cc
    by None a false q = record { spilled = a; frame = q }

pub fills-some : (b : Bool) (v w : ℕ) → (if b then Some v else None) ≡ Some w → (b ≡ true) × (v ≡ w)
fills-some true v w e = (refl, cc)
fills-some false v w e = cc

-- so the instruction's word fills its line
pub need-fills-so : (sh : Shape) (s : CoreState) (need : Need) (w : ℕ) → need_fills sh s need ≡ Some w → Fills sh w s
need-fills-so sh s Nothing w e = cc
need-fills-so sh s (Loads addr size) w e = let q = fills-some _ _ _ e in subst (λ v. Fills sh v s) q.1 (fills-so sh _ s q.0)
need-fills-so sh s (Stores addr Word value) w e = cc
need-fills-so sh s (Stores addr Half value) w e = let q = fills-some _ _ _ e in subst (λ v. Fills sh v s) q.1 (fills-so sh _ s q.0)
need-fills-so sh s (Stores addr Byte value) w e = let q = fills-some _ _ _ e in subst (λ v. Fills sh v s) q.1 (fills-so sh _ s q.0)
need-fills-so sh s (Changes addr changed) w e = let q = fills-some _ _ _ e in subst (λ v. Fills sh v s) q.1 (fills-so sh _ s q.0)
need-fills-so sh s (Prints byte) w e = cc
need-fills-so sh s Ends w e = cc
need-fills-so sh s (Halts status) w e = cc
need-fills-so sh s (Traps cause) w e = cc

pub exec-executes : (sh : Shape) (p : Program) (id : ℕ) (s : CoreState) → executes s.phase ≡ true → s.awaited ≡ None
    → core_exec sh p id s ≡ execute sh p id s
unfolding core_exec
exec-executes sh p id s e a = by s.phase e
  where
    runs : (o : Option Awaited) → o ≡ None → unless_awaiting sh p id s o ≡ execute sh p id s
    runs None q = refl
    runs (Some x) q = cc

    by : (q : Phase) → executes q ≡ true → exec_in_phase sh p id s q ≡ execute sh p id s
    by Running h = runs s.awaited a
    by (Solo t) h = runs s.awaited a
    by AwaitTid h = cc
    by DoomedTid h = cc
    by (Probing t) h = cc
    by (Ready t) h = cc
    by (Overflows t) h = cc
    by Halted h = cc

pub lined-phase : (sh : Shape) (l : ℕ) (ws : List ℕ) (s : CoreState) → (lined sh l ws s).phase ≡ s.phase
unfolding lined
lined-phase sh l ws s = refl

pub lined-awaited : (sh : Shape) (l : ℕ) (ws : List ℕ) (s : CoreState) → (lined sh l ws s).awaited ≡ s.awaited
unfolding lined
lined-awaited sh l ws s = refl

-- ---- what it does then

lined-spilled : (sh : Shape) (l : ℕ) (ws : List ℕ) (s : CoreState) → (lined sh l ws s).spilled ≡ s.spilled
unfolding lined
lined-spilled sh l ws s = refl

pub lined-load : (sh : Shape) (p : Program) (need : Need) (w : ℕ) (ws : List ℕ) (s : CoreState) → Fills sh w s
    → Leaves (load sh p need w (lined sh (line_of w) ws s))
    (finished p need (word_lined ws w s) (with_read_mark w (lined sh (line_of w) ws s)))
lined-load sh p need w ws s l =
    let t = lined sh (line_of w) ws s in
    let found = valid_loads sh p need w (word_lined ws w s) t (ap (λ f. f w) (lined-spilled sh (line_of w) ws s) ∙ l.spilled)
    (lined-value sh w ws s) in
    subst (λ o. Leaves o (finished p need (word_lined ws w s) (with_read_mark w t))) (sym found) refl

pub lined-change : (sh : Shape) (p : Program) (need : Need) (w : ℕ) (ws : List ℕ) (s : CoreState) → Fills sh w s
    → Leaves (partial_store sh p need w (lined sh (line_of w) ws s)) (changed p need w (word_lined ws w s) (lined sh (line_of w) ws s))
lined-change sh p need w ws s l =
    let t = lined sh (line_of w) ws s in
    let x = word_lined ws w s in
    let found = partial_valid sh p need w x t (ap (λ f. f w) (lined-spilled sh (line_of w) ws s) ∙ l.spilled) (lined-value sh w ws s) in
    subst (λ o. Leaves o (changed p need w x t)) (sym found) (either (holds t.spilled (line_of w)) _ _ _ _)
  where
    either : (b : Bool) (x y : CoreState) (f g : Sends) → Leaves (if b then Some (moves x f) else Some (moves y g)) (if b then x else y)
    either true x y f g = refl
    either false x y f g = refl

pub leaves-some : (o : Option Out) (s : CoreState) → Leaves o s → o ≢ None
leaves-some None s h = absurd h
leaves-some (Some o) s h = λ e. cc

pub leaves-as : (o : Option Out) (s t : CoreState) → t ≡ s → Leaves o s → Leaves o t
leaves-as o s t e h = subst (Leaves o) (sym e) h

-- ---- finished before its line is filled, and after

pub lined-finished : (sh : Shape) (l : ℕ) (ws : List ℕ) (p : Program) (n : Need) (x : ℕ) (s : CoreState)
    → lined sh l ws (finished p n x s) ≡ finished p n x (lined sh l ws s)
unfolding lined
lined-finished sh l ws p n x s =
    ap (λ (c : Cache). record (finished p n x s) { cache = filled l ws (framed_cache sh l c) }) (cache-finished p n x s)
    ∙ finished_cache p n x (filled l ws (framed_cache sh l s.cache)) s

pub lined-buffered : (sh : Shape) (l : ℕ) (ws : List ℕ) (w v : ℕ) (s : CoreState)
    → lined sh l ws (stored_in_buffer w v s) ≡ stored_in_buffer w v (lined sh l ws s)
unfolding lined stored_in_buffer
lined-buffered sh l ws w v s = refl

pub lined-also : (sh : Shape) (l : ℕ) (ws : List ℕ) (w : ℕ) (s : CoreState) → marks_read w (lined sh l ws s) ≡ marks_read w s
unfolding lined filled placed placed_at
lined-also sh l ws w s = ap (λ b. is_running s.phase && not b) (by (s.cache.held l) (free_way sh s.cache (set_of sh l)))
  where
    by : (h : Bool) (o : Option ℕ) → (if h then s.cache else placed_at o (set_of sh l) l s.cache).modified w ≡ s.cache.modified w
    by true o = refl
    by false None = refl
    by false (Some y) = refl

-- the line is a miss still, where the cache is the same
pub miss-after : (sh th : Shape) (w : ℕ) (s t : CoreState) → word_fills sh w s ≡ true → th ≡ sh → t.cache ≡ s.cache
    → Miss ≡ look_line th (line_of w) t.cache
miss-after sh th w s t e q r =
    lacks-miss sh (line_of w) s (fills-so sh w s e).frame ∙ sym (ap (look_line sh (line_of w)) r)
    ∙ sym (ap (λ h. look_line h (line_of w) t.cache) q)

-- what is there once the line is filled
pub lined-as : (sh th : Shape) (l m : ℕ) (ws : List ℕ) (s t u : CoreState) → u ≡ lined th m ws t → m ≡ l → th ≡ sh → t ≡ s
    → u ≡ lined sh l ws s
lined-as sh th l m ws s t u e q r f = e ∙ ap (λ n. lined th n ws t) q ∙ ap (λ h. lined h l ws t) r ∙ ap (lined sh l ws) f

-- ---- what was found in a frame is changed

pub changed-buffered : (sh : Shape) (l : ℕ) (ws : List ℕ) (p : Program) (n : Need) (w x : ℕ) (s : CoreState)
    → holds s.spilled (line_of w) ≡ true
    → changed p n w x (lined sh l ws s) ≡ finished p n x (stored_in_buffer w (new_word n x) (lined sh l ws s))
unfolding lined
changed-buffered sh l ws p n w x s e = rw e refl

pub changed-framed : (sh : Shape) (l : ℕ) (ws : List ℕ) (p : Program) (n : Need) (w x : ℕ) (s : CoreState)
    → holds s.spilled (line_of w) ≡ false
    → changed p n w x (lined sh l ws s)
    ≡ finished p n x (stored_in_frame w (new_word n x) (marks_read w (lined sh l ws s)) (lined sh l ws s))
unfolding lined
changed-framed sh l ws p n w x s e = rw e refl

-- ---- by the code's needs

pub load-leaves : (sh : Shape) (p : Program) (id : ℕ) (s t : CoreState) (n : CodeNeed) (addr : ℕ) (size : Size) (w : ℕ) (ws : List ℕ)
    → n ≡ code_need.Load addr size → need_fills sh s (need_of n) ≡ Some w
    → t ≡ finished p (need_of n) (word_lined ws w s) (with_read_mark w (lined sh (line_of w) ws s))
    → Leaves (execute_need sh p id (lined sh (line_of w) ws s) (need_of n)) t
load-leaves sh p id s t n addr size w ws is e q =
    let f = fills-some _ _ _ (subst (λ m. need_fills sh s (need_of m) ≡ Some w) is e) in
    let v = word_of sh.base addr in
    let l = fills-so sh v s f.0 in
    let L : CoreState = lined sh (line_of w) ws s in
    let lw = subst (λ u. Fills sh u s) f.1 l in
    subst (λ m. Leaves (execute_need sh p id L (need_of m)) t) (sym is)
    (subst (λ u. Leaves (load sh p (Loads addr size) u L) t) (sym f.1)
    (leaves-as (load sh p (Loads addr size) w L) _ t
    (subst (λ m. t ≡ finished p (need_of m) (word_lined ws w s) (with_read_mark w L)) is q)
    (lined-load sh p (Loads addr size) w ws s lw)))

pub change-leaves : (sh : Shape) (p : Program) (id : ℕ) (s t : CoreState) (n : CodeNeed) (w : ℕ) (ws : List ℕ)
    → ((addr : ℕ) (size : Size) → n ≢ code_need.Load addr size) → need_fills sh s (need_of n) ≡ Some w
    → t ≡ changed p (need_of n) w (word_lined ws w s) (lined sh (line_of w) ws s)
    → Leaves (execute_need sh p id (lined sh (line_of w) ws s) (need_of n)) t
change-leaves sh p id s t code_need.Nothing w ws not e q = cc
change-leaves sh p id s t (code_need.Load addr size) w ws not e q = absurd (not addr size refl)
change-leaves sh p id s t (code_need.Store addr Word value) w ws not e q = cc
change-leaves sh p id s t (code_need.Store addr Half value) w ws not e q =
    let f = fills-some _ _ _ e in
    subst (λ u. Leaves (partial_store sh p (Stores addr Half value) u (lined sh (line_of w) ws s)) t) (sym f.1)
    (leaves-as _ _ t q (lined-change sh p (Stores addr Half value) w ws s (subst (λ u. Fills sh u s) f.1 (fills-so sh _ s f.0))))
change-leaves sh p id s t (code_need.Store addr Byte value) w ws not e q =
    let f = fills-some _ _ _ e in
    subst (λ u. Leaves (partial_store sh p (Stores addr Byte value) u (lined sh (line_of w) ws s)) t) (sym f.1)
    (leaves-as _ _ t q (lined-change sh p (Stores addr Byte value) w ws s (subst (λ u. Fills sh u s) f.1 (fills-so sh _ s f.0))))
change-leaves sh p id s t (code_need.Amo addr op value) w ws not e q =
    let f = fills-some _ _ _ e in
    subst (λ u. Leaves (partial_store sh p (need_of (code_need.Amo addr op value)) u (lined sh (line_of w) ws s)) t) (sym f.1)
    (leaves-as _ _ t q
    (lined-change sh p (need_of (code_need.Amo addr op value)) w ws s (subst (λ u. Fills sh u s) f.1 (fills-so sh _ s f.0))))
change-leaves sh p id s t (code_need.Console byte) w ws not e q = cc
change-leaves sh p id s t code_need.End w ws not e q = cc
change-leaves sh p id s t (code_need.Halt status) w ws not e q = cc
change-leaves sh p id s t (code_need.Trap cause) w ws not e q = cc

-- one that fills a line goes on, and its access is aligned
pub filling-goes-on : (sh : Shape) (s : CoreState) (n : CodeNeed) (w : ℕ) → need_fills sh s (need_of n) ≡ Some w → GoesOn (need_of n)
filling-goes-on sh s code_need.Nothing w e = cc
filling-goes-on sh s (code_need.Load addr size) w e = tt
filling-goes-on sh s (code_need.Store addr size value) w e = tt
filling-goes-on sh s (code_need.Amo addr op value) w e = tt
filling-goes-on sh s (code_need.Console byte) w e = cc
filling-goes-on sh s code_need.End w e = cc
filling-goes-on sh s (code_need.Halt status) w e = cc
filling-goes-on sh s (code_need.Trap cause) w e = cc

pub served-aligned : (base ram : ℕ) (n : CodeNeed) → IsServed base ram n → IsAligned n
served-aligned base ram code_need.Nothing h = tt
served-aligned base ram (code_need.Load addr size) h = h.1
served-aligned base ram (code_need.Store addr size value) h = h.1
served-aligned base ram (code_need.Amo addr op value) h = h.1
served-aligned base ram (code_need.Console byte) h = tt
served-aligned base ram code_need.End h = tt
served-aligned base ram (code_need.Halt status) h = tt
served-aligned base ram (code_need.Trap cause) h = tt

by-word : (sh : Shape) (s : CoreState) (w v : ℕ) → (word_fills sh v s ≡ true) × (v ≡ w) → word_fills sh w s ≡ true
by-word sh s w v h = subst (λ u. word_fills sh u s ≡ true) h.1 h.0

pub filling-word : (sh : Shape) (s : CoreState) (n : CodeNeed) (w : ℕ) → need_fills sh s (need_of n) ≡ Some w → word_fills sh w s ≡ true
filling-word sh s code_need.Nothing w e = cc
filling-word sh s (code_need.Load addr size) w e = by-word sh s w _ (fills-some _ _ _ e)
filling-word sh s (code_need.Store addr Word value) w e = cc
filling-word sh s (code_need.Store addr Half value) w e = by-word sh s w _ (fills-some _ _ _ e)
filling-word sh s (code_need.Store addr Byte value) w e = by-word sh s w _ (fills-some _ _ _ e)
filling-word sh s (code_need.Amo addr op value) w e = by-word sh s w _ (fills-some _ _ _ e)
filling-word sh s (code_need.Console byte) w e = cc
filling-word sh s code_need.End w e = cc
filling-word sh s (code_need.Halt status) w e = cc
filling-word sh s (code_need.Trap cause) w e = cc

-- ---- an execution with its line at hand

-- an instruction that fills no line
pub ready-none : (sh : Shape) (p : Program) (f : ℕ → List ℕ) (s : CoreState) → need_fills sh s (p.need s.local) ≡ None → ready sh p f s ≡ s
ready-none sh p f s n = ap (with_line sh f s) n

-- an instruction that can't be fetched is one
pub trap-fills : (sh : Shape) (s : CoreState) (n : Need) (cause : ℕ) → n ≡ Traps cause → need_fills sh s n ≡ None
trap-fills sh s n cause e = ap (need_fills sh s) e

pub lined-local : (sh : Shape) (l : ℕ) (ws : List ℕ) (s : CoreState) → (lined sh l ws s).local ≡ s.local
unfolding lined
lined-local sh l ws s = refl

pub exec-ready : (sh : Shape) (m : Start) (f : ℕ → List ℕ) (id : ℕ) (s : CoreState) (inst : Inst) (n : Need) (w : ℕ)
    → executes s.phase ≡ true → s.awaited ≡ None → Runs m s.local inst → n ≡ bounded (in_ram m.settings) (planned inst s.local)
    → need_fills sh s ((program m).need s.local) ≡ Some w
    → core_exec sh (program m) id (ready sh (program m) f s)
    ≡ execute_need sh (alone inst) id (lined sh (line_of w) (f (line_of w)) s) n
exec-ready sh m f id s inst n w e a r q l =
    let t = lined sh (line_of w) (f (line_of w)) s in
    ap (λ o. core_exec sh (program m) id (with_line sh f s o)) l
    ∙ exec-executes sh (program m) id t (ap executes (lined-phase sh (line_of w) (f (line_of w)) s) ∙ e)
    (lined-awaited sh (line_of w) (f (line_of w)) s ∙ a)
    ∙ executed_as sh m id t inst n (subst (λ x. Runs m x inst) (sym (lined-local sh (line_of w) (f (line_of w)) s)) r)
    (q ∙ ap (λ x. bounded (in_ram m.settings) (planned inst x)) (sym (lined-local sh (line_of w) (f (line_of w)) s)))

pub on-ok : {A E : Type 0} {P Q : Type 0} → (r : Result A E) → (P → Q) → OnOk r P → OnOk r Q
on-ok (Ok x) f h = f h
on-ok (Err x) f h = h

-- the rules have what such an instruction does then
pub need-some : (sh : Shape) (p : Program) (id : ℕ) (s : CoreState) (n : CodeNeed) (w : ℕ) (ws : List ℕ)
    → need_fills sh s (need_of n) ≡ Some w → execute_need sh p id (lined sh (line_of w) ws s) (need_of n) ≢ None
need-some sh p id s (code_need.Load addr size) w ws e =
    leaves-some _ _ (load-leaves sh p id s _ (code_need.Load addr size) addr size w ws refl e refl)
need-some sh p id s code_need.Nothing w ws e = cc
need-some sh p id s (code_need.Store addr size value) w ws e =
    leaves-some _ _ (change-leaves sh p id s _ (code_need.Store addr size value) w ws (λ a z q. absurd (cc)) e refl)
need-some sh p id s (code_need.Amo addr op value) w ws e =
    leaves-some _ _ (change-leaves sh p id s _ (code_need.Amo addr op value) w ws (λ a z q. absurd (cc)) e refl)
need-some sh p id s (code_need.Console byte) w ws e = cc
need-some sh p id s code_need.End w ws e = cc
need-some sh p id s (code_need.Halt status) w ws e = cc
need-some sh p id s (code_need.Trap cause) w ws e = cc

pub blocked-some : {A : Type 0} → (r : Result A CoreError) (o : Option Out) → o ≢ None → OnErr r (IsMemory r) → IsBlocked r o
blocked-some (Ok x) o h m = h
blocked-some (Err Blocked) o h m = absurd m
blocked-some (Err Memory) o h m = h
