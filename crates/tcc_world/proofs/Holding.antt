-- Laws of a map of names and of a list of names, for the calls of a store in memory.
use Rattle.std.proofs.Common.{◌≡◌, ◌≢◌, ◌+◌, ℕ, true, cond, List, [], ◌∷◌, ◌++◌, refl, ap, sym, ◌∙◌, arith}
use Rattle.std.specs.Prelude.{Some}
use Rattle.std.specs.Cmp.Lexicographic.{nat_list_cmp_total}
use Rattle.std.specs.Str.{bytes_eq}
use Rattle.std.specs.FinMap as by_name
use Rattle.std.proofs.lemmas.Bool.{false_from_ne_true}
use Rattle.std.proofs.lemmas.List.Sums.{fold-append}
use Rattle.std.proofs.lemmas.Slice.Eq.{bytes_eq-Decides}
use Rattle.tcc_world.specs.Files.{Files}
use Rattle.tcc_world.specs.Names.{times}
use Rattle.tcc_world.proofs.Files.{same_test}

bytes_eq-same : (name : List ℕ) → bytes_eq name name ≡ true
bytes_eq-same name = (bytes_eq-Decides name name).1 refl

pub times-append : (names : List (List ℕ)) (other name : List ℕ)
    → times (names ++ other ∷ []) name ≡ times names name + cond (bytes_eq other name) 1 0
times-append names other name = fold-append (λ n x. n + cond (bytes_eq x name) 1 0) 0 names (other ∷ [])

pub times-once_more : (names : List (List ℕ)) (name : List ℕ) → times (names ++ name ∷ []) name ≡ times names name + 1
times-once_more names name = times-append names name name ∙ ap (λ b. times names name + cond b 1 0) (bytes_eq-same name)

pub times-other : (names : List (List ℕ)) (other name : List ℕ) → name ≢ other → times (names ++ other ∷ []) name ≡ times names name
times-other names other name apart =
    times-append names other name
    ∙ ap (λ b. times names name + cond b 1 0) (false_from_ne_true _ (λ same. apart (sym ((bytes_eq-Decides other name).0 same))))
    ∙ omega arith

pub get-insert_same : (files : Files) (name bytes : List ℕ) → by_name.get (by_name.insert files name bytes) name ≡ Some bytes
get-insert_same files name bytes =
    by_name.get-insert nat_list_cmp_total files name bytes name
    ∙ ap (λ b. cond b (Some bytes) (by_name.get files name)) (sym (same_test name name) ∙ bytes_eq-same name)

pub get-insert_other : (files : Files) (name bytes other : List ℕ) → other ≢ name
    → by_name.get (by_name.insert files name bytes) other ≡ by_name.get files other
get-insert_other files name bytes other apart =
    by_name.get-insert nat_list_cmp_total files name bytes other
    ∙ ap (λ b. cond b (Some bytes) (by_name.get files other))
    (sym (same_test name other) ∙ false_from_ne_true _ (λ same. apart (sym ((bytes_eq-Decides name other).0 same))))

-- for a call that books a name
pub ruleset booking = (times-once_more)

-- for a call that gives a name its contents
pub ruleset holding_one = (times-once_more, get-insert_same, get-insert_other)
