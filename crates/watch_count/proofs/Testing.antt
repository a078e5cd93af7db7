-- Numbers that are tested one by one, and cores that go on from their numbers.
use Rattle.std.proofs.Common.{◌≡◌, ℕ, ◌+◌, ◌≤◌, ◌<◌, List, [], ◌∷◌, ◌++◌, map, drop, get_or, length, ap, sym, ◌∙◌, All, subst}
use Rattle.std.proofs.Common.{Bool, true, cond, append_assoc, arith}
use Rattle.std.specs.Map.{values_of}
use Rattle.std.proofs.lemmas.List.{drop_more, drop_all, map-append}
use Rattle.std.proofs.lemmas.List.Elements.{All-append, All-cons, All-head, All-nil, All-same, All-tail}
use Rattle.watch_count.specs.declared.tables.CoreCounts.{CoreCounts}
use Rattle.watch_count.specs.declared.kept.KeptCore.{KeptCore}
use Rattle.watch_count.specs.KeptCores.{numbers_after}
use Rattle.watch_count.proofs.Staying.{numbers-settled}

-- what a loop keeps that tests the elements of a list: all pass where those that are left do, and the other way round
pub record Left {A : Type 0} (P : A → Type 0) (rest all : List A) : Type 0 where
  pub back : All P rest → All P all
  pub on : All P all → All P rest

pub left-start : {A : Type 0} (P : A → Type 0) (all : List A) → Left P all all
left-start P all = record { back = λ h. h; on = λ h. h }

-- one more passes
pub left-more : {A : Type 0} (P : A → Type 0) (x : A) (rest all : List A) → Left P (x ∷ rest) all → P x → Left P rest all
left-more P x rest all left p = record {
  back = λ h. left.back (All-cons P x rest p h);
  on = λ h. All-tail P x rest (left.on h);
}

pub left-drop : {A : Type 0} (P : A → Type 0) (all : List A) (i : ℕ) (d : A) → i < length all → Left P (drop i all) all
    → P (get_or all i d) → Left P (drop (i + 1) all) all
left-drop P all i d l left p =
    left-more P (get_or all i d) (drop (i + 1) all) all (subst (λ xs. Left P xs all) (drop_more all i d l) left) p

-- all have passed
pub left-none : {A : Type 0} (P : A → Type 0) (all : List A) → Left P [] all → All P all
left-none P all left = left.back (All-nil P)

pub left-end : {A : Type 0} (P : A → Type 0) (all : List A) (i : ℕ) → length all ≤ i → Left P (drop i all) all → All P all
left-end P all i l left = left-none P all (subst (λ xs. Left P xs all) (drop_all i all l) left)

-- where all pass, so does the next
pub left-next : {A : Type 0} (P : A → Type 0) (x : A) (rest all : List A) → Left P (x ∷ rest) all → All P all → P x
left-next P x rest all left h = All-head P x rest (left.on h)

pub left-at : {A : Type 0} (P : A → Type 0) (all : List A) (i : ℕ) (d : A) → i < length all → Left P (drop i all) all
    → All P all → P (get_or all i d)
left-at P all i d l left h =
    left-next P (get_or all i d) (drop (i + 1) all) all (subst (λ xs. Left P xs all) (drop_more all i d l) left) h

-- the next of some entries is under whatever key
pub left-entry : {K A : Type 0} (P : A → Type 0) (key : K) (x : A) (now rest : List (K × A)) (all : List A) → now ≡ (key, x) ∷ rest
    → Left P (values_of now) all → P x → Left P (values_of rest) all
left-entry P key x now rest all e left p = left-more P x (values_of rest) all (subst (λ es. Left P (values_of es) all) e left) p

-- ---- cores that go on from their numbers

-- what is there after a push that went well
pub pushed : {A : Type 0} (b : Bool) (before after now : A) → now ≡ cond b after before → true ≡ b → now ≡ after
pushed b before after now e well = e ∙ ap (λ x. cond x after before) (sym well)

-- the next core's numbers are kept
pub kept-more : (cores : List CoreCounts) (i : ℕ) (d : CoreCounts) (kept now : List KeptCore) → i < length cores
    → now ≡ kept ++ (record { counts = get_or cores i d; since = 0 } ∷ [])
    → map (numbers_after 0) kept ++ drop i cores ≡ cores → map (numbers_after 0) now ++ drop (i + 1) cores ≡ cores
kept-more cores i d kept now l e before =
    let f = numbers_after 0 in
    let x = get_or cores i d in
    ap (λ ks. map f ks ++ drop (i + 1) cores) e
    ∙ ap (λ ys. ys ++ drop (i + 1) cores) (map-append f kept (record { counts = x; since = 0 } ∷ []))
    ∙ append_assoc (map f kept) (f (record { counts = x; since = 0 }) ∷ []) (drop (i + 1) cores)
    ∙ ap (λ y. map f kept ++ (y ∷ drop (i + 1) cores)) (numbers-settled 0 x)
    ∙ ap (λ ys. map f kept ++ ys) (sym (drop_more cores i d l)) ∙ before

pub settled-more : (kept now : List KeptCore) (x : CoreCounts) → now ≡ kept ++ (record { counts = x; since = 0 } ∷ [])
    → All (λ k. k.since ≤ 0) kept → All (λ k. k.since ≤ 0) now
settled-more kept now x e all =
    All-same (λ k. k.since ≤ 0) now (kept ++ (record { counts = x; since = 0 } ∷ [])) e
    (All-append (λ k. k.since ≤ 0) kept (record { counts = x; since = 0 } ∷ []) all
    (All-cons (λ k. k.since ≤ 0) (record { counts = x; since = 0 }) [] (omega arith) (All-nil (λ k. k.since ≤ 0))))
