-- Lists of names.
use Rattle.std.specs.Prelude.{ℕ, List}
use Rattle.std.specs.List.{count_by}
use Rattle.std.specs.Str.{bytes_eq}

-- how often a name stands in a list
abbrev pub times : List (List ℕ) → List ℕ → ℕ
times names name = count_by (λ other. bytes_eq other name) names
