-- A step that keeps its stores in the buffer is a plain step of the memory that the core sees.
use Rattle.std.proofs.Common.{ℕ, suc, ◌≡◌, ◌+◌, ◌==◌, Bool, true, false, Option, Some, refl, add-one, if◌then◌else◌}
use Rattle.rv_plain.specs.Buffered.{Buffered, buffered, buffered_step, plain_view, seen, or_else}
use Rattle.tcc_base.specs.Put.{put}
use Rattle.tcc_base.specs.declared.access.Size.TheVariants.{Word}
use Rattle.rules_program.specs.Plain.{Attempt, Goes, stepped, plain_step, steps}
use Rattle.rules_program.specs.Program.{Need, Nothing, Loads, Stores, Changes, Prints, Ends, Halts, Traps, Program}
use Rattle.rules_program.specs.Ram.{loaded, stored, word_of, patched}

seen-put-at : (ram : ℕ → ℕ) (buffer : ℕ → Option ℕ) (w v j : ℕ) (b : Bool)
    → or_else (if b then Some v else buffer j) (ram j) ≡ (if b then v else or_else (buffer j) (ram j))
seen-put-at ram buffer w v j true = refl
seen-put-at ram buffer w v j false = refl

pub seen-put : (ram : ℕ → ℕ) (buffer : ℕ → Option ℕ) (w v : ℕ)
    → seen ram (put buffer w (Some v)) ≡ put (seen ram buffer) w v
unfolding seen
seen-put ram buffer w v = λ i j. (seen-put-at ram buffer w v j (j == w)) i

pub stepped-view : (base : ℕ) (p : Program) (b : Buffered) (n : Need)
    → plain_view (buffered base p b n) ≡ stepped base p (plain_view b) n
unfolding plain_view stored
stepped-view base p b Nothing = refl
stepped-view base p b (Loads addr size) = refl
stepped-view base p b (Stores addr size value) =
    rw (seen-put b.ram b.buffer (word_of base addr) (patched (seen b.ram b.buffer (word_of base addr)) addr size value)) refl
stepped-view base p b (Changes addr changed) =
    let v = changed (loaded base (seen b.ram b.buffer) addr Word) in
    rw (seen-put b.ram b.buffer (word_of base addr) (patched (seen b.ram b.buffer (word_of base addr)) addr Word v)) refl
stepped-view base p b (Prints byte) = refl
stepped-view base p b Ends = refl
stepped-view base p b (Halts code) = refl
stepped-view base p b (Traps code) = refl

pub plain_view-buffered_step : (base : ℕ) (p : Program) (b : Buffered)
    → plain_view (buffered_step base p b) ≡ plain_step base p (plain_view b)
unfolding buffered_step plain_step plain_view
plain_view-buffered_step base p b = stepped-view base p b (p.need b.local)

-- one step more, where the last one went on
pub steps-more : (base : ℕ) (p : Program) (k : ℕ) (start a : Attempt) → a.outcome ≡ Goes → steps base p k start ≡ Some a
    → steps base p (suc k) start ≡ Some (plain_step base p a)
unfolding steps
steps-more base p k start a goes is = rw (is, goes) refl

pub steps-next : (base : ℕ) (p : Program) (k : ℕ) (start : Attempt) (b next : Buffered) → b.outcome ≡ Goes
    → steps base p k start ≡ Some (plain_view b) → next ≡ buffered_step base p b
    → steps base p (k + 1) start ≡ Some (plain_view next)
unfolding plain_view
steps-next base p k start b next goes is by =
    rw (add-one k, by, plain_view-buffered_step base p b) (steps-more base p k start (plain_view b) goes is)
