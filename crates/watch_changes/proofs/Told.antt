-- What is told by a walk, step by step.
use Rattle.std.proofs.Common.{◌≡◌, ℕ, ◌+◌, ◌<◌, ◌≤◌, List, [], ◌∷◌, ◌++◌, drop, take, length, length-drop, ◌-◌, map, append-nil}
use Rattle.std.proofs.Common.{refl, ap, sym, ◌∙◌, arith}
use Rattle.std.specs.Prelude.{get_or}
use Rattle.std.proofs.lemmas.List.{append_assoc, drop_all, drop_more, take_all}
use Rattle.std.proofs.lemmas.List.Concat.{flat_map-append}
use Rattle.watch_state.specs.Plain.{record_of}
use Rattle.watch_state.specs.Records as plain
use Rattle.watch_state.specs.declared.records.Record.{Record}
use Rattle.watch_changes.specs.Changes.{Change, Meeting, Unchanged, Left, Came, Changed, change_line, change_lines}
use Rattle.watch_changes.specs.Changes.{all_gone, all_told, changes, meeting, told_of}

pub lines-append : (cs ds : List Change) → change_lines (cs ++ ds) ≡ change_lines cs ++ change_lines ds
unfolding change_lines
lines-append cs ds = flat_map-append change_line cs ds

-- what is told behind two records that meet
abbrev pub behind : Meeting → (both first second : List Change) → List Change
behind Unchanged both first second = both
behind Left both first second = first
behind Came both first second = second
behind Changed both first second = both

told-behind : (m : Meeting) (b a : plain.Record) (both first second : List Change)
    → told_of m b a both first second ≡ told_of m b a [] [] [] ++ behind m both first second
told-behind Unchanged b a both first second = refl
told-behind Left b a both first second = refl
told-behind Came b a both first second = refl
told-behind Changed b a both first second = refl

met-told : (b a : plain.Record) (bs ns : List plain.Record) (m : Meeting) → m ≡ meeting b a
    → changes (b ∷ bs) (a ∷ ns)
    ≡ told_of m b a [] [] [] ++ behind m (changes bs ns) (changes bs (a ∷ ns)) (changes (b ∷ bs) ns)
unfolding changes
met-told b a bs ns m e =
    ap (λ k. told_of k b a (changes bs ns) (changes bs (a ∷ ns)) (changes (b ∷ bs) ns)) (sym e)
    ∙ told-behind m b a (changes bs ns) (changes bs (a ∷ ns)) (changes (b ∷ bs) ns)

-- the records from a place on
abbrev pub from : List Record → ℕ → List plain.Record
from rs k = map record_of (drop k rs)

pub walk-on : (os ns : List Record) (k j : ℕ) (d e : Record) (text new : List ℕ) (all : List ℕ) (f m : Meeting) → f ≡ m
    → k < length os → j < length ns → f ≡ meeting (record_of (get_or os k d)) (record_of (get_or ns j e))
    → new ≡ text ++ change_lines (told_of f (record_of (get_or os k d)) (record_of (get_or ns j e)) [] [] [])
    → text ++ change_lines (changes (from os k) (from ns j)) ≡ all
    → new ++ change_lines (behind m (changes (from os (k + 1)) (from ns (j + 1))) (changes (from os (k + 1)) (from ns j))
    (changes (from os k) (from ns (j + 1)))) ≡ all
walk-on os ns k j d e text new all f m q x y met t h =
    let b = record_of (get_or os k d) in
    let a = record_of (get_or ns j e) in
    let os_at : from os k ≡ b ∷ from os (k + 1) = ap (λ rs. map record_of rs) (drop_more os k d x) in
    let ns_at : from ns j ≡ a ∷ from ns (j + 1) = ap (λ rs. map record_of rs) (drop_more ns j e y) in
    let told = told_of m b a [] [] [] in
    let rest = behind m (changes (from os (k + 1)) (from ns (j + 1))) (changes (from os (k + 1)) (from ns j))
    (changes (from os k) (from ns (j + 1))) in
    let whole : changes (from os k) (from ns j) ≡ told ++ rest =
    (λ i. changes (os_at i) (ns_at i)) ∙ met-told b a (from os (k + 1)) (from ns (j + 1)) m (sym q ∙ met)
    ∙ (λ i. told ++ behind m (changes (from os (k + 1)) (from ns (j + 1))) (changes (from os (k + 1)) (sym ns_at i))
    (changes (sym os_at i) (from ns (j + 1)))) in
    let line : new ≡ text ++ change_lines told = t ∙ ap (λ g. text ++ change_lines (told_of g b a [] [] [])) q in
    ap (λ s. s ++ change_lines rest) line ∙ append_assoc text (change_lines told) (change_lines rest)
    ∙ ap (λ s. text ++ s) (sym (lines-append told rest)) ∙ ap (λ cs. text ++ change_lines cs) (sym whole) ∙ h

-- ---- behind the walk

pub slice-rest : (rs : List Record) (k : ℕ) → take (length rs - k) (drop k rs) ≡ drop k rs
slice-rest rs k = take_all (length rs - k) (drop k rs) (omega (arith, length-drop k rs))

none-left : (rs : List Record) (k : ℕ) → length rs ≤ k → from rs k ≡ []
none-left rs k b = ap (λ xs. map record_of xs) (drop_all k rs b)

pub no-lines : change_lines [] ≡ []
unfolding change_lines
no-lines = refl

changes-to-none : (bs : List plain.Record) → changes bs [] ≡ all_gone bs
unfolding changes
changes-to-none [] = refl
changes-to-none (b ∷ bs) = refl

pub changes-from-none : (ns : List plain.Record) → changes [] ns ≡ all_told ns
unfolding changes
changes-from-none ns = refl

-- all that was has been compared
pub all-compared : (os ns : List Record) (k j : ℕ) (text gone all : List ℕ) → length os ≤ k
    → gone ≡ text ++ change_lines (all_gone (from os k)) → text ++ change_lines (changes (from os k) (from ns j)) ≡ all
    → gone ++ change_lines (all_told (from ns j)) ≡ all
all-compared os ns k j text gone all b t h =
    let none : from os k ≡ [] = none-left os k b in
    let same : gone ≡ text = t ∙ ap (λ bs. text ++ change_lines (all_gone bs)) none ∙ ap (λ s. text ++ s) no-lines ∙ append-nil text in
    ap (λ s. s ++ change_lines (all_told (from ns j))) same
    ∙ ap (λ cs. text ++ change_lines cs) (sym (changes-from-none (from ns j)))
    ∙ ap (λ bs. text ++ change_lines (changes bs (from ns j))) (sym none) ∙ h

-- or all that is
pub all-reached : (os ns : List Record) (k j : ℕ) (text gone all : List ℕ) → length ns ≤ j
    → gone ≡ text ++ change_lines (all_gone (from os k)) → text ++ change_lines (changes (from os k) (from ns j)) ≡ all
    → gone ++ change_lines (all_told (from ns j)) ≡ all
all-reached os ns k j text gone all b t h =
    let none : from ns j ≡ [] = none-left ns j b in
    ap (λ xs. gone ++ change_lines (all_told xs)) none ∙ ap (λ s. gone ++ s) no-lines ∙ append-nil gone ∙ t
    ∙ ap (λ cs. text ++ change_lines cs) (sym (changes-to-none (from os k)))
    ∙ ap (λ xs. text ++ change_lines (changes (from os k) xs)) (sym none) ∙ h
