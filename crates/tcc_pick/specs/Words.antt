-- The random words of a seed: PCG XSH RR 64/32 (O'Neill, "PCG: a family of simple fast space-efficient statistically good algorithms for
-- random number generation"), as the crate rand_pcg has it.
use Rattle.std.specs.Prelude.{ℕ, zero, suc, List}
use Rattle.rand_core.specs.Pcg32Seed.{pcg32_seed}
use Rattle.rand_core.specs.Steps.{first_words}
use Rattle.rand_pcg.specs.Lcg.{Lcg}
use Rattle.rand_pcg.specs.Pcg.{pcg32, pcg32_of_seed}

-- the generator of a seed
abbrev pub seeded : (seed : ℕ) → Lcg
seeded seed = pcg32_of_seed (pcg32_seed 16 seed)

-- the next n words of a generator
abbrev pub words : (n : ℕ) → Lcg → List ℕ
words n g = first_words pcg32 n g

-- the generator after its next n words
unfoldable pub after_words : (n : ℕ) → Lcg → Lcg
after_words zero g = g
after_words (suc n) g = (pcg32 (after_words n g)).1
