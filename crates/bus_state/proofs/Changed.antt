-- A word of memory that isn't as it was loaded.
use Rattle.std.proofs.Common.{◌≡◌, ℕ, ◌==◌, if◌then◌else◌, [], ◌∷◌}
use Rattle.rules_maps.specs.Shape.{Shape}
use Rattle.watch_state.specs.Cores.{addr_of}
use Rattle.bus_state.specs.Parts.{memory_record}
use Rattle.bus_state.specs.Records.{MemoryWord}

pub word-shown : (sh : Shape) (first ram : ℕ → ℕ) (w addr value old : ℕ) → addr ≡ addr_of sh w → value ≡ ram w → old ≡ first w
    → (if value == old then [] else MemoryWord addr value ∷ []) ≡ memory_record sh first ram w
unfolding memory_record
word-shown sh first ram w addr value old a v o = λ i. if v i == o i then [] else MemoryWord (a i) (v i) ∷ []
