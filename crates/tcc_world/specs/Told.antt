-- Bytes that an object of the outside world may tell: `None` tells nothing.
use Rattle.std.specs.Prelude.{◌≡◌, ℕ, List, Option, None, Some}

-- what is told, if anything, is these bytes
abbrev pub Gives : Option (List ℕ) → List ℕ → Type 0
Gives None bytes = Unit {0}
Gives (Some known) bytes = known ≡ bytes
