-- Lines that lie in a memory of so many words.
use Rattle.std.specs.Prelude.{ℕ, ◌<◌, ◌≤◌, ◌+◌, ◌*◌, List, get_or, length}
use Rattle.tcc_base.specs.declared.access.Tagged.{Tagged}

abbrev pub AreInside : (words : ℕ) → List Tagged → Type 0
AreInside n ts = (i : ℕ) (d : Tagged) → i < length ts → 8 * (get_or ts i d).line.0 + 8 ≤ n
