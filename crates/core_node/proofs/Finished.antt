-- What finishing an instruction is: what it did is noted, and the core goes on.
use Rattle.std.proofs.Common.{◌≡◌, ℕ, None, refl}
use Rattle.rules_program.specs.Program.{unreserved, Program, Need, Nothing, Loads, Stores, Changes, Prints, Ends, Halts, Traps}
use Rattle.rules_program.specs.Plain.{Ended, Halted, Trapped}
use Rattle.rules_maps.specs.Cache.{Cache}
use Rattle.rules_tcc.specs.State.{CoreState}
use Rattle.rules_tcc.specs.Attempt.{one_more_instruction, finished}
use Rattle.core_node.specs.Executing.{noted, given, concluded, GoesOn}

pub finished_noted : (p : Program) (n : Need) (x : ℕ) (s : CoreState) → GoesOn n
    → one_more_instruction p (given n x) (noted n x s) ≡ finished p n x s
unfolding finished one_more_instruction
finished_noted p Nothing x s g = refl
finished_noted p (Loads addr size) x s g = refl
finished_noted p (Stores addr size value) x s g = refl
finished_noted p (Changes addr changed) x s g = refl
finished_noted p (Prints byte) x s g = refl
finished_noted p Ends x s g = absurd g
finished_noted p (Halts code) x s g = absurd g
finished_noted p (Traps code) x s g = absurd g

-- an instruction is finished apart from the cache and from what is spilled
pub finished_cache : (p : Program) (n : Need) (x : ℕ) (c : Cache) (s : CoreState)
    → record (finished p n x s) { cache = c } ≡ finished p n x (record s { cache = c })
unfolding finished one_more_instruction
finished_cache p Nothing x c s = refl
finished_cache p (Loads addr size) x c s = refl
finished_cache p (Stores addr size value) x c s = refl
finished_cache p (Changes addr changed) x c s = refl
finished_cache p (Prints byte) x c s = refl
finished_cache p Ends x c s = refl
finished_cache p (Halts code) x c s = refl
finished_cache p (Traps code) x c s = refl

-- and leaves the cache, what is spilled and the phase
pub cache-finished : (p : Program) (n : Need) (x : ℕ) (s : CoreState) → (finished p n x s).cache ≡ s.cache
unfolding finished one_more_instruction
cache-finished p Nothing x s = refl
cache-finished p (Loads addr size) x s = refl
cache-finished p (Stores addr size value) x s = refl
cache-finished p (Changes addr changed) x s = refl
cache-finished p (Prints byte) x s = refl
cache-finished p Ends x s = refl
cache-finished p (Halts code) x s = refl
cache-finished p (Traps code) x s = refl

pub phase-finished : (p : Program) (n : Need) (x : ℕ) (s : CoreState) → (finished p n x s).phase ≡ s.phase
unfolding finished one_more_instruction
phase-finished p Nothing x s = refl
phase-finished p (Loads addr size) x s = refl
phase-finished p (Stores addr size value) x s = refl
phase-finished p (Changes addr changed) x s = refl
phase-finished p (Prints byte) x s = refl
phase-finished p Ends x s = refl
phase-finished p (Halts code) x s = refl
phase-finished p (Traps code) x s = refl

-- an instruction that ends its transaction
pub finished_ends : (p : Program) (x : ℕ) (s : CoreState) → finished p Ends x s ≡ concluded (unreserved (p.after s.local None)) Ended s
unfolding finished one_more_instruction concluded
finished_ends p x s = refl

pub finished_halts : (p : Program) (code x : ℕ) (s : CoreState)
    → finished p (Halts code) x s ≡ concluded (unreserved s.local) (Halted code) s
unfolding finished concluded
finished_halts p code x s = refl

pub finished_traps : (p : Program) (code x : ℕ) (s : CoreState)
    → finished p (Traps code) x s ≡ concluded (unreserved s.local) (Trapped code) s
unfolding finished concluded
finished_traps p code x s = refl
