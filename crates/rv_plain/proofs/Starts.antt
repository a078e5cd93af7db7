-- The machine before its first transaction, told by its parts.
use Rattle.std.proofs.Common.{ℕ, ◌≡◌, ◌<◌, ◌+◌, [], ◌∷◌, ◌++◌, ◌/◌, ◌%◌, ◌^◌, List, length, slice_index, slice_index_or, arith, inl, inr}
use Rattle.std.proofs.lemmas.Bool.{cases_lt}
use Rattle.std.proofs.lemmas.Grind.{common_steps}
use Rattle.image_load.specs.Contents.{Contents}
use Rattle.image_load.specs.Start.{Start, first_ram}
use Rattle.rv_plain.specs.Cores.{core_of, no_state}
use Rattle.rv_plain.specs.Machine.{plain_start, start_core, core_at_start}
use Rattle.rv_plain.specs.PlainState.{plain_of}
use Rattle.rv_plain.specs.declared.plain.CoreState.{CoreState}
use Rattle.rules_program.specs.Ram.{flat}

-- words that are the start's up to RAM's end are its RAM, which has none beyond
pub flat-first : (s : Start) (ram : List ℕ) → length ram ≡ s.settings.ram / 4
    → ((k : ℕ) → k < s.settings.ram / 4 → slice_index ram k ≡ s.word k % 2 ^ 32) → (w : ℕ) → flat ram w ≡ first_ram s w
unfolding flat first_ram
flat-first s ram len same w =
    elim (cases_lt w (s.settings.ram / 4)) [ inl h ↦ grind (arith, common_steps, same w h) | inr h ↦ grind (arith, common_steps) ]

-- one core more, of which g is known
pub cores-more : {A : Type 0} (g : CoreState → A) (f : ℕ → A) (cores : List CoreState) (x : CoreState) (n : ℕ) → length cores ≡ n
    → ((k : ℕ) → k < n → g (slice_index_or cores k no_state) ≡ f k) → g x ≡ f n
    → (k : ℕ) → k < n + 1 → g (slice_index_or (cores ++ x ∷ []) k no_state) ≡ f k
cores-more g f cores x n len each is k lt =
    elim (cases_lt k n) [
      | inl h ↦ grind (arith, common_steps, each k h)
      | inr h ↦ let e : k ≡ n = omega arith in rw e (grind (arith, common_steps))
    ]

pub core-started : (s : Start) (cores : List CoreState) → length cores ≡ s.settings.cores
    → ((k : ℕ) → k < s.settings.cores → core_of (slice_index_or cores k no_state) ≡ start_core s.settings.cores k (s.entry k))
    → (c : ℕ) → core_of (slice_index_or cores c no_state) ≡ core_at_start s c
core-started s cores len each c =
    elim (cases_lt c s.settings.cores) [ inl h ↦ grind (arith, common_steps, each c h) | inr h ↦ grind (arith, common_steps) ]

pub plain_of-started : (s : Start) (loaded : Contents) (ram : List ℕ) (cores : List CoreState)
    → flat ram ≡ first_ram s → length cores ≡ s.settings.cores
    → ((k : ℕ) → k < s.settings.cores → core_of (slice_index_or cores k no_state) ≡ start_core s.settings.cores k (s.entry k))
    → plain_of (record { loaded = loaded; ram = ram; cores = cores }) ≡ plain_start s
unfolding plain_of plain_start
plain_of-started s loaded ram cores e len each =
    λ i. record { ram = e i; cores = λ c. (core-started s cores len each c) i }
