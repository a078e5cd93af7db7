-- A map with one entry changed.
use Rattle.std.specs.Prelude.{ℕ, ◌==◌, if◌then◌else◌}

abbrev pub put : {A : Type 0} → (ℕ → A) → ℕ → A → ℕ → A
put f i v j = (if j == i then v else f j)
