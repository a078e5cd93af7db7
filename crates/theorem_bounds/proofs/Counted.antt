-- An instruction adds one to the count of an attempt, and at most one load, store and printed byte.
use Rattle.std.specs.Prelude.{ℕ, ◌+◌, ◌≤◌, Bool, true, false, List, [], ◌∷◌, ◌++◌, length, if◌then◌else◌}
use Rattle.std.proofs.Common.{arith}
use Rattle.std.proofs.lemmas.List.{length-append}
use Rattle.tcc_base.specs.declared.access.Load.{Load}
use Rattle.tcc_base.specs.declared.access.Stored.{Stored}
use Rattle.tcc_base.specs.declared.access.Size.TheVariants.{Word}
use Rattle.rules_program.specs.Plain.{load_of, store_of}
use Rattle.rules_program.specs.Program.{Need, Nothing, Loads, Stores, Changes, Prints, Ends, Halts, Traps, Program}
use Rattle.rules_program.specs.Ram.{part}
use Rattle.rules_maps.specs.CacheChange.{marked}
use Rattle.rules_maps.specs.Shape.{Shape}
use Rattle.rules_tcc.specs.State.{CoreState}
use Rattle.rules_tcc.specs.Attempt.{is_running, finished, one_more_instruction, roll_back}
use Rattle.rules_tcc.specs.Execute.{place, with_read_mark, stored_in_buffer, stored_in_frame}
use Rattle.theorem_bounds.specs.Bounds.{IsCounted, AttemptCounted}

pushed : {A : Type 0} (xs : List A) (x : A) → length (xs ++ x ∷ []) ≤ length xs + 1
pushed xs x = omega (arith, length-append xs (x ∷ []))

same : {A : Type 0} (xs : List A) → length xs ≤ length xs + 1
same xs = omega arith

-- one more instruction, with at most one more of each
grows : (most n : ℕ) (ls ms : List Load) (ss ts : List Stored) (bs cs : List ℕ) → IsCounted most n ls ss bs
    → length ms ≤ length ls + 1 → length ts ≤ length ss + 1 → length cs ≤ length bs + 1 → IsCounted (most + 1) (n + 1) ms ts cs
grows most n ls ms ss ts bs cs k l s b = record {
  instructions = omega (arith, k.instructions);
  loads = omega (arith, k.loads, l);
  stores = omega (arith, k.stores, s);
  console = omega (arith, k.console, b);
}

pub weak : (most n : ℕ) (ls : List Load) (ss : List Stored) (bs : List ℕ) → IsCounted most n ls ss bs → IsCounted (most + 1) n ls ss bs
weak most n ls ss bs k =
    record { instructions = omega (arith, k.instructions); loads = k.loads; stores = k.stores; console = k.console }

-- none yet
pub none : (most : ℕ) → IsCounted most 0 [] [] []
none most = record { instructions = omega arith; loads = omega arith; stores = omega arith; console = omega arith }

pub rolled : (most : ℕ) (s : CoreState) → AttemptCounted most (roll_back s)
unfolding roll_back
rolled most s = none most

pub finishes : (most : ℕ) (p : Program) (need : Need) (x : ℕ) (s : CoreState) → AttemptCounted most s
    → AttemptCounted (most + 1) (finished p need x s)
unfolding finished one_more_instruction
finishes most p Nothing x s k =
    grows most s.n s.loads s.loads s.stores s.stores s.console s.console k (same s.loads) (same s.stores) (same s.console)
finishes most p (Loads addr size) x s k =
    grows most s.n s.loads _ s.stores s.stores s.console s.console k (pushed s.loads (load_of addr size (part x addr size)))
    (same s.stores) (same s.console)
finishes most p (Stores addr size value) x s k =
    grows most s.n s.loads s.loads s.stores _ s.console s.console k (same s.loads) (pushed s.stores (store_of addr size value))
    (same s.console)
finishes most p (Changes addr changed) x s k =
    grows most s.n s.loads _ s.stores _ s.console s.console k (pushed s.loads (load_of addr Word (part x addr Word)))
    (pushed s.stores (store_of addr Word (changed (part x addr Word)))) (same s.console)
finishes most p (Prints byte) x s k =
    grows most s.n s.loads s.loads s.stores s.stores s.console _ k (same s.loads) (same s.stores) (pushed s.console byte)
finishes most p Ends x s k =
    grows most s.n s.loads s.loads s.stores s.stores s.console s.console k (same s.loads) (same s.stores) (same s.console)
finishes most p (Halts code) x s k =
    grows most s.n s.loads s.loads s.stores s.stores s.console s.console k (same s.loads) (same s.stores) (same s.console)
finishes most p (Traps code) x s k =
    grows most s.n s.loads s.loads s.stores s.stores s.console s.console k (same s.loads) (same s.stores) (same s.console)

-- what changes of a core beside its attempt

pub placed : (most : ℕ) (sh : Shape) (l : ℕ) (s : CoreState) → AttemptCounted most s → AttemptCounted most (place sh l s)
unfolding place
placed most sh l s k = k

pub marked_read : (most w : ℕ) (s : CoreState) → AttemptCounted most s → AttemptCounted most (with_read_mark w s)
unfolding with_read_mark
marked_read most w s k = go (is_running s.phase)
  where
    go : (b : Bool) → AttemptCounted most (if b then record s { cache = marked w s.cache } else s)
    go true = k
    go false = k

pub in_buffer : (most w x : ℕ) (s : CoreState) → AttemptCounted most s → AttemptCounted most (stored_in_buffer w x s)
unfolding stored_in_buffer
in_buffer most w x s k = k

pub in_frame : (most w x : ℕ) (also : Bool) (s : CoreState) → AttemptCounted most s → AttemptCounted most (stored_in_frame w x also s)
unfolding stored_in_frame
in_frame most w x also s k = k
