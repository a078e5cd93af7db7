-- The random words of a worker's choices: PCG XSH RR 64/32 (O'Neill, "PCG: a family of simple fast space-efficient statistically good
-- algorithms for random number generation"), as the crate rand_pcg has it.
use Rattle.std.specs.Prelude.{ℕ, ◌+◌, ◌%◌, ◌^◌}
use Rattle.rand_core.specs.Pcg32Seed.{pcg32_seed}
use Rattle.rand_pcg.specs.Lcg.{Lcg}
use Rattle.rand_pcg.specs.Pcg.{pcg32_of_seed}

-- the generator of a worker, by its number: that of the seed and the number together, as a number of 64 bits
abbrev pub words_of : (seed worker : ℕ) → Lcg
words_of seed worker = pcg32_of_seed (pcg32_seed 16 ((seed + worker) % 2 ^ 64))
