-- Executing is enabled exactly where the core doesn't wait for room.
use Rattle.std.proofs.Common.{◌≡◌, ℕ, Bool, true, false, not, is_some, ◌||◌, if◌then◌else◌, Option, Some, None, refl}
use Rattle.tcc_base.specs.declared.access.Size.TheVariants.{Byte, Half, Word}
use Rattle.tcc_base.specs.declared.names.Tid.{Tid}
use Rattle.rules_program.specs.Program.{Need, Nothing, Loads, Stores, Changes, Prints, Ends, Halts, Traps, Program}
use Rattle.rules_program.specs.Ram.{word_of}
use Rattle.rules_maps.specs.Cache.{free_way}
use Rattle.rules_maps.specs.Shape.{Shape, set_of}
use Rattle.rules_maps.specs.Spilled.{holds}
use Rattle.rules_maps.specs.Words.{line_of}
use Rattle.rules_tcc.specs.Attempt.{Out}
use Rattle.rules_tcc.specs.CoreExec.{exec_in_phase}
use Rattle.rules_tcc.specs.Execute.{miss, full_set, load, load_spilled, load_valid, word_store, partial_store, change_spilled, change_valid}
use Rattle.rules_tcc.specs.Execute.{execute, execute_need}
use Rattle.rules_tcc.specs.State.{CoreState}
use Rattle.rules_tcc.specs.Useful.{room_for_line, room_for_need, room_for_store, room_for_word}
use Rattle.commit_engine.specs.Engine.{phase_of}
use Rattle.commit_engine.specs.declared.phase.Phase.TheVariants as code

-- an event is enabled exactly where no set is waited for
abbrev pub Either : Option Out → Option ℕ → Type 0
Either o r = is_some o ≡ not (is_some r)

full_or_room : (g : Bool) (o : Out) (x : ℕ) → Either (if g then None else Some o) (if g then Some x else None)
full_or_room true o x = refl
full_or_room false o x = refl

fetch_or_room : (sh : Shape) (l : ℕ) (s : CoreState) → Either (miss sh l s) (room_for_line sh l s)
unfolding miss full_set room_for_line
fetch_or_room sh l s = by (s.cache.held l) (is_some (free_way sh s.cache (set_of sh l))) _ _ _ _ (full_or_room _ _ _)
  where
    by : (h f : Bool) (a b : Out) (o : Option Out) (r : Option ℕ) → Either o r
        → Either (if h then Some a else if f then Some b else o) (if h || f then None else r)
    by true f a b o r e = refl
    by false true a b o r e = refl
    by false false a b o r e = e

load_or_room : (sh : Shape) (p : Program) (need : Need) (w : ℕ) (s : CoreState) → Either (load sh p need w s) (room_for_word sh w s)
unfolding load room_for_word
load_or_room sh p need w s = by (s.spilled w) (s.cache.value w) refl
  where
    by_value : (v : Option ℕ) → Either (load_valid sh p need w s v) (if is_some v then None else room_for_line sh (line_of w) s)
    by_value (Some x) = refl
    by_value None = fetch_or_room sh (line_of w) s

    by : (o v : Option ℕ) → v ≡ s.cache.value w → Either (load_spilled sh p need w s o)
        (if is_some o || is_some v then None else room_for_line sh (line_of w) s)
    by (Some x) v e = refl
    by None v e = rw e (by_value (s.cache.value w))

partial_or_room : (sh : Shape) (p : Program) (need : Need) (w : ℕ) (s : CoreState)
    → Either (partial_store sh p need w s) (room_for_word sh w s)
unfolding partial_store room_for_word
partial_or_room sh p need w s = by (s.spilled w) (s.cache.value w) refl
  where
    either : (b : Bool) (x y : Out) → Either (if b then Some x else Some y) None
    either true x y = refl
    either false x y = refl

    by_value : (v : Option ℕ) → Either (change_valid sh p need w s v) (if is_some v then None else room_for_line sh (line_of w) s)
    by_value (Some x) = either (holds s.spilled (line_of w)) _ _
    by_value None = fetch_or_room sh (line_of w) s

    by : (o v : Option ℕ) → v ≡ s.cache.value w → Either (change_spilled sh p need w s o)
        (if is_some o || is_some v then None else room_for_line sh (line_of w) s)
    by (Some x) v e = refl
    by None v e = rw e (by_value (s.cache.value w))

store_or_room : (sh : Shape) (p : Program) (need : Need) (w x : ℕ) (s : CoreState)
    → Either (word_store sh p need w x s) (room_for_store sh w s)
unfolding word_store full_set room_for_store room_for_line
store_or_room sh p need w x s =
    by (holds s.spilled (line_of w)) (s.cache.held (line_of w)) (is_some (free_way sh s.cache (set_of sh (line_of w)))) _ _ _ _ _
    (full_or_room _ _ _)
  where
    by : (k h f : Bool) (a b c : Out) (o : Option Out) (r : Option ℕ) → Either o r
        → Either (if k then Some a else if h then Some b else if f then Some c else o) (if k then None else if h || f then None else r)
    by true h f a b c o r e = refl
    by false true f a b c o r e = refl
    by false false true a b c o r e = refl
    by false false false a b c o r e = e

pub need_or_room : (sh : Shape) (p : Program) (id : ℕ) (s : CoreState) (need : Need)
    → Either (execute_need sh p id s need) (room_for_need sh s need)
need_or_room sh p id s Nothing = refl
need_or_room sh p id s (Loads addr size) = load_or_room sh p (Loads addr size) (word_of sh.base addr) s
need_or_room sh p id s (Stores addr Word value) = store_or_room sh p (Stores addr Word value) (word_of sh.base addr) value s
need_or_room sh p id s (Stores addr Half value) = partial_or_room sh p (Stores addr Half value) (word_of sh.base addr) s
need_or_room sh p id s (Stores addr Byte value) = partial_or_room sh p (Stores addr Byte value) (word_of sh.base addr) s
need_or_room sh p id s (Changes addr changed) = partial_or_room sh p (Changes addr changed) (word_of sh.base addr) s
need_or_room sh p id s (Prints byte) = refl
need_or_room sh p id s Ends = refl
need_or_room sh p id s (Halts status) = refl
need_or_room sh p id s (Traps cause) = refl

pub execute_or_room : (sh : Shape) (p : Program) (id : ℕ) (s : CoreState)
    → is_some (execute sh p id s) ≡ not (is_some (room_for_need sh s (p.need s.local)))
unfolding execute
execute_or_room sh p id s = need_or_room sh p id s (p.need s.local)

pub exec_overflowing : (sh : Shape) (p : Program) (id : ℕ) (s : CoreState) (o : Option Tid)
    → exec_in_phase sh p id s (phase_of (code.Overflowing o)) ≡ None
exec_overflowing sh p id s None = refl
exec_overflowing sh p id s (Some t) = refl
