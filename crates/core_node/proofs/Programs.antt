-- An execution asks of its program only what it does at the core's state; and what it notes, unless it ends a transaction, is nothing.
use Rattle.std.proofs.Common.{◌≡◌, ℕ, Bool, true, false, not, Option, Some, None, is_some, ◌||◌, if◌then◌else◌, refl, ap}
use Rattle.tcc_base.specs.declared.access.Size.TheVariants.{Byte, Half, Word}
use Rattle.rules_program.specs.Program.{Program, Local, Need, Nothing, Loads, Stores, Changes, Prints, Ends, Halts, Traps}
use Rattle.rules_program.specs.Ram.{part, word_of}
use Rattle.rules_maps.specs.Shape.{Shape, set_of}
use Rattle.rules_maps.specs.Cache.{free_way, all_marked}
use Rattle.rules_maps.specs.CacheChange.{marked}
use Rattle.rules_maps.specs.Spilled.{holds}
use Rattle.rules_maps.specs.Words.{line_of}
use Rattle.rules_tcc.specs.State.{CoreState}
use Rattle.rules_tcc.specs.Attempt.{Out, moves, is_solo, is_running, new_word, one_more_instruction, finished}
use Rattle.rules_tcc.specs.Execute.{request_line, overflow, place, with_read_mark, stored_in_buffer, stored_in_frame, marks_read, full_set}
use Rattle.rules_tcc.specs.Execute.{miss, load, load_spilled, load_valid, word_store, partial_store, change_spilled, change_valid}
use Rattle.rules_tcc.specs.Execute.{end_transaction, execute_need}
use Rattle.rules_tcc.specs.Sends.{nothing}

-- two programs do the same at these registers and pc
abbrev pub SameAt : Program → Program → Local → Type 0
SameAt p q l = (loaded : Option ℕ) → p.after l loaded ≡ q.after l loaded

pub finished_same : (p q : Program) (n : Need) (x : ℕ) (s : CoreState) → SameAt p q s.local → finished p n x s ≡ finished q n x s
unfolding finished one_more_instruction
finished_same p q Nothing x s e = rw (e None) refl
finished_same p q (Loads addr size) x s e = rw (e (Some (part x addr size))) refl
finished_same p q (Stores addr size value) x s e = rw (e None) refl
finished_same p q (Changes addr changed) x s e = rw (e (Some (part x addr Word))) refl
finished_same p q (Prints byte) x s e = rw (e None) refl
finished_same p q Ends x s e = rw (e None) refl
finished_same p q (Halts code) x s e = refl
finished_same p q (Traps code) x s e = refl

used-local : (w : ℕ) (s : CoreState) → (with_read_mark w s).local ≡ s.local
unfolding with_read_mark
used-local w s = by (is_running s.phase)
  where
    by : (b : Bool) → (if b then record s { cache = marked w s.cache } else s).local ≡ s.local
    by true = refl
    by false = refl

load_same : (sh : Shape) (p q : Program) (n : Need) (w : ℕ) (s : CoreState) → SameAt p q s.local → load sh p n w s ≡ load sh q n w s
unfolding load
load_same sh p q n w s e = spilled (s.spilled w)
  where
    valid : (o : Option ℕ) → load_valid sh p n w s o ≡ load_valid sh q n w s o
    valid None = refl
    valid (Some x) =
        ap (λ (t : CoreState). Some (moves t nothing)) (finished_same p q n x (with_read_mark w s) (λ o. rw (used-local w s) (e o)))

    spilled : (o : Option ℕ) → load_spilled sh p n w s o ≡ load_spilled sh q n w s o
    spilled None = valid (s.cache.value w)
    spilled (Some x) = ap (λ (t : CoreState). Some (moves t nothing)) (finished_same p q n x s e)

word_same : (sh : Shape) (p q : Program) (n : Need) (w x : ℕ) (s : CoreState) → SameAt p q s.local
    → word_store sh p n w x s ≡ word_store sh q n w x s
unfolding word_store stored_in_buffer stored_in_frame place
word_same sh p q n w x s e =
    rw (
      finished_same p q n x (stored_in_buffer w x s) e,
      finished_same p q n x (stored_in_frame w x false s) e,
      finished_same p q n x (stored_in_frame w x false (place sh (line_of w) s)) e,
    ) refl

partial_same : (sh : Shape) (p q : Program) (n : Need) (w : ℕ) (s : CoreState) → SameAt p q s.local
    → partial_store sh p n w s ≡ partial_store sh q n w s
unfolding partial_store stored_in_buffer stored_in_frame
partial_same sh p q n w s e = spilled (s.spilled w)
  where
    valid : (o : Option ℕ) → change_valid sh p n w s o ≡ change_valid sh q n w s o
    valid None = refl
    valid (Some x) =
        rw (
          finished_same p q n x (stored_in_buffer w (new_word n x) s) e,
          finished_same p q n x (stored_in_frame w (new_word n x) (marks_read w s) s) e,
        ) refl

    spilled : (o : Option ℕ) → change_spilled sh p n w s o ≡ change_spilled sh q n w s o
    spilled None = valid (s.cache.value w)
    spilled (Some x) = ap (λ (t : CoreState). Some (moves t nothing)) (finished_same p q n x (stored_in_buffer w (new_word n x) s) e)

pub execute_same : (sh : Shape) (p q : Program) (id : ℕ) (s : CoreState) (n : Need) → SameAt p q s.local
    → execute_need sh p id s n ≡ execute_need sh q id s n
execute_same sh p q id s Nothing e = ap (λ (t : CoreState). Some (moves t nothing)) (finished_same p q Nothing 0 s e)
execute_same sh p q id s (Loads addr size) e = load_same sh p q (Loads addr size) (word_of sh.base addr) s e
execute_same sh p q id s (Stores addr Word value) e = word_same sh p q (Stores addr Word value) (word_of sh.base addr) value s e
execute_same sh p q id s (Stores addr Half value) e = partial_same sh p q (Stores addr Half value) (word_of sh.base addr) s e
execute_same sh p q id s (Stores addr Byte value) e = partial_same sh p q (Stores addr Byte value) (word_of sh.base addr) s e
execute_same sh p q id s (Changes addr changed) e = partial_same sh p q (Changes addr changed) (word_of sh.base addr) s e
execute_same sh p q id s (Prints byte) e = ap (λ (t : CoreState). Some (moves t nothing)) (finished_same p q (Prints byte) 0 s e)
execute_same sh p q id s Ends e = ap (λ (t : CoreState). Some (end_transaction sh id s.phase t)) (finished_same p q Ends 0 s e)
execute_same sh p q id s (Halts code) e =
    ap (λ (t : CoreState). Some (end_transaction sh id s.phase t)) (finished_same p q (Halts code) 0 s e)
execute_same sh p q id s (Traps code) e =
    ap (λ (t : CoreState). Some (end_transaction sh id s.phase t)) (finished_same p q (Traps code) 0 s e)

-- nothing is noted of an event
abbrev pub Unnoted : Option Out → Type 0
Unnoted None = Unit {0}
Unnoted (Some o) = o.commit ≡ None

unnoted_either : (b : Bool) (x y : Option Out) → Unnoted x → Unnoted y → Unnoted (if b then x else y)
unnoted_either true x y a b = a
unnoted_either false x y a b = b

unnoted_full : (sh : Shape) (l : ℕ) (s : CoreState) → Unnoted (full_set sh l s)
unfolding full_set overflow
unnoted_full sh l s = unnoted_either (is_solo s.phase || not (all_marked sh s.cache (set_of sh l))) _ _ tt refl

unnoted_fetch : (sh : Shape) (l : ℕ) (s : CoreState) → Unnoted (miss sh l s)
unfolding miss request_line
unnoted_fetch sh l s =
    unnoted_either (s.cache.held l) _ _ refl (unnoted_either (is_some (free_way sh s.cache (set_of sh l))) _ _ refl (unnoted_full sh l s))

pub unnoted_load : (sh : Shape) (p : Program) (n : Need) (w : ℕ) (s : CoreState) → Unnoted (load sh p n w s)
unfolding load
unnoted_load sh p n w s = spilled (s.spilled w)
  where
    valid : (o : Option ℕ) → Unnoted (load_valid sh p n w s o)
    valid None = unnoted_fetch sh (line_of w) s
    valid (Some x) = refl

    spilled : (o : Option ℕ) → Unnoted (load_spilled sh p n w s o)
    spilled None = valid (s.cache.value w)
    spilled (Some x) = refl

pub unnoted_word : (sh : Shape) (p : Program) (n : Need) (w x : ℕ) (s : CoreState) → Unnoted (word_store sh p n w x s)
unfolding word_store
unnoted_word sh p n w x s =
    unnoted_either (holds s.spilled (line_of w)) _ _ refl (unnoted_either (s.cache.held (line_of w)) _ _ refl
    (unnoted_either (is_some (free_way sh s.cache (set_of sh (line_of w)))) _ _ refl (unnoted_full sh (line_of w) s)))

pub unnoted_partial : (sh : Shape) (p : Program) (n : Need) (w : ℕ) (s : CoreState) → Unnoted (partial_store sh p n w s)
unfolding partial_store
unnoted_partial sh p n w s = spilled (s.spilled w)
  where
    valid : (o : Option ℕ) → Unnoted (change_valid sh p n w s o)
    valid None = unnoted_fetch sh (line_of w) s
    valid (Some x) = unnoted_either (holds s.spilled (line_of w)) _ _ refl refl

    spilled : (o : Option ℕ) → Unnoted (change_spilled sh p n w s o)
    spilled None = valid (s.cache.value w)
    spilled (Some x) = refl
