-- A core's row in the counts: what the facts of an event make of it.
use Rattle.std.proofs.Common.{◌≡◌, ◌==◌, ◌<◌, ℕ, zero, suc, Bool, false, List, [], ◌∷◌, ◌++◌, Option, Some, None, if◌then◌else◌}
use Rattle.std.proofs.Common.{get_or, length, refl, sym, ap, subst, ◌∙◌, arith}
use Rattle.std.proofs.lemmas.Bool.Decides.{nat_tests}
use Rattle.std.proofs.lemmas.List.{get_or-map, length-map}
use Rattle.rules_maps.specs.Nodes.{Node}
use Rattle.watch.specs.Facts.{Fact}
use Rattle.watch_count.specs.Counts.{Counts, core_of, changed, changed_if, counted, all_counted, event_begun, event_counted}
use Rattle.watch_count.specs.Tables.{nothing, core_after, event_came}
use Rattle.watch_count.specs.declared.tables.CoreCounts.{CoreCounts}
use Rattle.watch_count.proofs.Lemmas.{length-changed_if}

-- the fact counts for row j
abbrev pub is_told : (j : ℕ) → Option ℕ → Bool
is_told j None = false
is_told j (Some c) = c == j

-- the row of core j after one fact, and after these
abbrev pub fact_after : (actor : Node) → (j : ℕ) → Fact → CoreCounts → CoreCounts
fact_after a j f k = if is_told j (core_of a f) then core_after f k else k

unfoldable pub row_after : (actor : Node) → (j : ℕ) → List Fact → CoreCounts → CoreCounts
row_after a j [] k = k
row_after a j (f ∷ fs) k = row_after a j fs (fact_after a j f k)

pub row_after-append : (a : Node) (j : ℕ) (fs gs : List Fact) (k : CoreCounts)
    → row_after a j (fs ++ gs) k ≡ row_after a j gs (row_after a j fs k)
unfolding row_after
row_after-append a j [] gs k = refl
row_after-append a j (f ∷ fs) gs k = row_after-append a j fs gs (fact_after a j f k)

row-changed : {A : Type 0} (f : A → A) (k j : ℕ) (xs : List A) (d : A) → j < length xs
    → get_or (changed k f xs) j d ≡ (if k == j then f (get_or xs j d) else get_or xs j d)
unfolding changed
row-changed f k j [] d l = absurd (omega arith)
row-changed f zero zero (x ∷ xs) d l = refl
row-changed f zero (suc j) (x ∷ xs) d l = grind (arith, nat_tests)
row-changed f (suc k) zero (x ∷ xs) d l = grind (arith, nat_tests)
row-changed f (suc k) (suc j) (x ∷ xs) d l = let rest = row-changed f k j xs d (omega arith) in grind (arith, nat_tests, rest)

pub row-changed_if : {A : Type 0} (f : A → A) (o : Option ℕ) (j : ℕ) (xs : List A) (d : A) → j < length xs
    → get_or (changed_if o f xs) j d ≡ (if is_told j o then f (get_or xs j d) else get_or xs j d)
row-changed_if f None j xs d l = refl
row-changed_if f (Some k) j xs d l = row-changed f k j xs d l

length-all : (a : Node) (fs : List Fact) (c : Counts) → length (all_counted a fs c).cores ≡ length c.cores
unfolding all_counted counted
length-all a [] c = refl
length-all a (f ∷ fs) c = length-all a fs (counted a f c) ∙ length-changed_if (core_after f) (core_of a f) c.cores

row-all : (a : Node) (fs : List Fact) (c : Counts) (j : ℕ) → j < length c.cores
    → get_or (all_counted a fs c).cores j nothing ≡ row_after a j fs (get_or c.cores j nothing)
unfolding all_counted counted row_after
row-all a [] c j l = refl
row-all a (f ∷ fs) c j l =
    row-all a fs (counted a f c) j (subst (λ n. j < n) (sym (length-changed_if (core_after f) (core_of a f) c.cores)) l)
    ∙ ap (row_after a j fs) (row-changed_if (core_after f) (core_of a f) j c.cores nothing l)

pub length-event : (a : Node) (fs : List Fact) (c : Counts) → length (event_counted a fs c).cores ≡ length c.cores
unfolding event_counted event_begun
length-event a fs c = length-all a fs (event_begun c) ∙ length-map c.cores event_came

-- an event of this node with these facts
pub row-event : (a : Node) (fs : List Fact) (c : Counts) (j : ℕ) → j < length c.cores
    → get_or (event_counted a fs c).cores j nothing ≡ row_after a j fs (event_came (get_or c.cores j nothing))
unfolding event_counted event_begun
row-event a fs c j l =
    row-all a fs (event_begun c) j (subst (λ n. j < n) (sym (length-map c.cores event_came)) l)
    ∙ ap (row_after a j fs) (get_or-map event_came c.cores j nothing nothing l)
