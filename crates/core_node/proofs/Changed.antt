-- An instruction that stores: finished before its word is stored, or after.
use Rattle.std.proofs.Common.{◌≡◌, ℕ, Bool, refl, ap, ◌∙◌}
use Rattle.rules_program.specs.Program.{Program, Need, Nothing, Loads, Stores, Changes, Prints, Ends, Halts, Traps}
use Rattle.rules_maps.specs.Cache.{Cache}
use Rattle.rules_maps.specs.CacheChange.{stored, placed}
use Rattle.rules_maps.specs.Shape.{Shape}
use Rattle.rules_tcc.specs.State.{CoreState}
use Rattle.rules_tcc.specs.Attempt.{one_more_instruction, finished}
use Rattle.rules_tcc.specs.Execute.{stored_in_buffer, stored_in_frame, place}
use Rattle.core_node.specs.Executing.{noted, given, GoesOn}
use Rattle.core_node.proofs.Finished.{finished_noted, finished_cache, cache-finished}

noted_buffered : (n : Need) (x w v : ℕ) (s : CoreState) → stored_in_buffer w v (noted n x s) ≡ noted n x (stored_in_buffer w v s)
unfolding stored_in_buffer
noted_buffered Nothing x w v s = refl
noted_buffered (Loads addr size) x w v s = refl
noted_buffered (Stores addr size value) x w v s = refl
noted_buffered (Changes addr changed) x w v s = refl
noted_buffered (Prints byte) x w v s = refl
noted_buffered Ends x w v s = refl
noted_buffered (Halts code) x w v s = refl
noted_buffered (Traps code) x w v s = refl

-- noted, stored and counted
pub finished_buffered : (p : Program) (n : Need) (x w v : ℕ) (s : CoreState) → GoesOn n
    → one_more_instruction p (given n x) (stored_in_buffer w v (noted n x s)) ≡ finished p n x (stored_in_buffer w v s)
finished_buffered p n x w v s g =
    ap (one_more_instruction p (given n x)) (noted_buffered n x w v s) ∙ finished_noted p n x (stored_in_buffer w v s) g

-- finished and then stored in the frame
pub framed_finished : (p : Program) (n : Need) (x w v : ℕ) (also : Bool) (s : CoreState)
    → stored_in_frame w v also (finished p n x s) ≡ finished p n x (stored_in_frame w v also s)
unfolding stored_in_frame
framed_finished p n x w v also s =
    ap (λ (c : Cache). record (finished p n x s) { cache = stored w v also c }) (cache-finished p n x s)
    ∙ finished_cache p n x (stored w v also s.cache) s

placed_finished : (sh : Shape) (l : ℕ) (p : Program) (n : Need) (x : ℕ) (s : CoreState)
    → place sh l (finished p n x s) ≡ finished p n x (place sh l s)
unfolding place
placed_finished sh l p n x s =
    ap (λ (c : Cache). record (finished p n x s) { cache = placed sh l c }) (cache-finished p n x s)
    ∙ finished_cache p n x (placed sh l s.cache) s

-- and stored in a new frame
pub framed_placed : (sh : Shape) (l : ℕ) (p : Program) (n : Need) (x w v : ℕ) (also : Bool) (s : CoreState)
    → stored_in_frame w v also (place sh l (finished p n x s)) ≡ finished p n x (stored_in_frame w v also (place sh l s))
framed_placed sh l p n x w v also s =
    ap (stored_in_frame w v also) (placed_finished sh l p n x s) ∙ framed_finished p n x w v also (place sh l s)
