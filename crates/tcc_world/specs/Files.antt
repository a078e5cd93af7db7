-- Files in memory as a map from their names to their contents.
use Rattle.std.specs.Prelude.{ℕ, List}
use Rattle.std.specs.Ordering.{nat_cmp}
use Rattle.std.specs.Cmp.Lexicographic.{slice_cmp}
use Rattle.std.specs.FinMap as by_name
use Rattle.std.specs.Coded.{Coded, coded_list, coded_ℕ}

abbrev pub Files : Type 0
Files = by_name.FinMap (slice_cmp nat_cmp) (List ℕ)

abbrev pub files_code : Coded Files
files_code = by_name.code (coded_list coded_ℕ) (coded_list coded_ℕ)
