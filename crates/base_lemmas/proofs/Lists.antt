-- Lists: elements read and set, maps, filters and what lists give one after another.
use Rattle.std.proofs.Common.{Bool, Contains, List, None, Some, [], ap, append-nil, append_assoc, arith, cond, drop, false, get_or, inl}
use Rattle.std.proofs.Common.{inr, length, map, refl, suc, sym, take, true, zero, ℕ, ◌++◌, ◌+◌, ◌-◌, ◌<◌, ◌∙◌, ◌∷◌, ◌≡◌, ◌≢◌, ◌≤◌, ◌⊎◌}
use Rattle.std.proofs.Math.Seq.{take-length}
use Rattle.std.proofs.lemmas.Grind.{common_steps}
use Rattle.std.proofs.lemmas.List.{drop_all, flat_map_more, take_all, take_more}
use Rattle.std.proofs.lemmas.List.Concat.{flat_map-append}
use Rattle.std.proofs.lemmas.List.Elements.{filter-append}
use Rattle.std.proofs.lemmas.Option.{get_or_from_slice_get, slice_get_within}
use Rattle.std.specs.Io.KnownBytes.{Appends}
use Rattle.std.specs.List.{filter, flat_map, range_with_len}
use Rattle.std.specs.Prelude.{Err, Ok, OnErr, Option, Result, slice_get, slice_index, slice_index_or, slice_set}
use Rattle.rules_maps.specs.Nodes.{Event}
use Rattle.rules_maps.specs.Words.{those}

pub get_or-front : (xs ys : List ℕ) (j : ℕ) → j < length xs → get_or (xs ++ ys) j 0 ≡ get_or xs j 0
get_or-front [] ys j h = absurd (omega (arith, h))
get_or-front (x ∷ xs) ys zero h = refl
get_or-front (x ∷ xs) ys (suc j) h = get_or-front xs ys j (omega (arith, h))

pub get_or-last : (xs : List ℕ) (x : ℕ) → get_or (xs ++ x ∷ []) (length xs) 0 ≡ x
get_or-last [] x = refl
get_or-last (y ∷ ys) x = get_or-last ys x

pub read-set : (ns : List ℕ) (i n : ℕ) → i < length ns → slice_index (slice_set ns i n) i ≡ n
read-set [] i n h = absurd (omega arith)
read-set (m ∷ ns) zero n h = refl
read-set (m ∷ ns) (suc i) n h = read-set ns i n (omega arith)

pub get-after : {A : Type 0} (xs ys : List A) (k r : ℕ) → k ≡ length xs + r → slice_get (xs ++ ys) k ≡ slice_get ys r
get-after [] ys k r e = ap (slice_get ys) (omega (arith, e))
get-after (x ∷ xs) ys zero r e = absurd (omega (arith, e))
get-after (x ∷ xs) ys (suc k) r e = get-after xs ys k r (omega (arith, e))

pub get-front : {A : Type 0} (xs ys : List A) (i : ℕ) → i < length xs → slice_get (xs ++ ys) i ≡ slice_get xs i
get-front [] ys i h = absurd (omega arith)
get-front (x ∷ xs) ys zero h = refl
get-front (x ∷ xs) ys (suc i) h = get-front xs ys i (omega arith)

pub get-some : {A : Type 0} (xs : List A) (i : ℕ) (d : A) → i < length xs → slice_get xs i ≡ Some (slice_index_or xs i d)
get-some [] i d h = absurd (omega arith)
get-some (y ∷ ys) zero d h = refl
get-some (y ∷ ys) (suc i) d h = get-some ys i d (omega arith)

pub get-set : {A : Type 0} (xs : List A) (i : ℕ) (x : A) → i < length xs → slice_get (slice_set xs i x) i ≡ Some x
get-set [] i x h = absurd (omega arith)
get-set (y ∷ ys) zero x h = refl
get-set (y ∷ ys) (suc i) x h = get-set ys i x (omega arith)

pub get-set_other : {A : Type 0} (xs : List A) (i j : ℕ) (x : A) → j ≢ i → slice_get (slice_set xs i x) j ≡ slice_get xs j
get-set_other [] i j x n = refl
get-set_other (y ∷ ys) zero zero x n = absurd (n refl)
get-set_other (y ∷ ys) zero (suc j) x n = refl
get-set_other (y ∷ ys) (suc i) zero x n = refl
get-set_other (y ∷ ys) (suc i) (suc j) x n = get-set_other ys i j x (λ e. n (ap suc e))

pub length-set : {A : Type 0} (xs : List A) (i : ℕ) (x : A) → length (slice_set xs i x) ≡ length xs
length-set [] i x = refl
length-set (y ∷ ys) zero x = refl
length-set (y ∷ ys) (suc i) x = ap suc (length-set ys i x)

pub none-past : {A : Type 0} (xs : List A) (k : ℕ) → slice_get xs k ≡ None → k < length xs → ⊥
none-past [] k e l = omega (arith, l)
none-past (x ∷ xs) zero e l = cc
none-past (x ∷ xs) (suc k) e l = none-past xs k e (omega (arith, l))

pub map-map : {A B C : Type 0} (g : B → C) (f : A → B) (xs : List A) → map g (map f xs) ≡ map (λ x. g (f x)) xs
map-map g f [] = refl
map-map g f (x ∷ xs) = ap (λ ys. g (f x) ∷ ys) (map-map g f xs)

pub flat-each : {A B : Type 0} (f g : A → List B) → ((x : A) → f x ≡ g x) → (xs : List A) → flat_map f xs ≡ flat_map g xs
flat-each f g h [] = refl
flat-each f g h (x ∷ xs) = λ i. h x i ++ flat-each f g h xs i

pub flat-nothing : {A B : Type 0} (f : A → List B) (xs : List A) → ((x : A) → f x ≡ []) → flat_map f xs ≡ []
flat-nothing f [] h = refl
flat-nothing f (x ∷ xs) h = let t = h x in rw t (flat-nothing f xs h)

pub flat-last : {A : Type 0} (h : ℕ → List A) (p : ℕ → Bool) (n : ℕ)
    → flat_map h (those p (suc n)) ≡ flat_map h (those p n) ++ cond (p n) (h n) []
unfolding those
flat-last h p n = flat_map-append h (those p n) (cond (p n) (n ∷ []) []) ∙ ap (λ t. flat_map h (those p n) ++ t) (go (p n))
  where
    go : (b : Bool) → flat_map h (cond b (n ∷ []) []) ≡ cond b (h n) []
    go true = append-nil (h n)
    go false = refl

pub filter-map : {A B : Type 0} (q : B → Bool) (h : A → B) (xs : List A) → filter q (map h xs) ≡ map h (filter (λ x. q (h x)) xs)
filter-map q h [] = refl
filter-map q h (x ∷ xs) = ap (λ ys. cond (q (h x)) (h x ∷ ys) ys) (filter-map q h xs) ∙ by (q (h x))
  where
    by : (b : Bool) → cond b (h x ∷ map h (filter (λ x. q (h x)) xs)) (map h (filter (λ x. q (h x)) xs))
        ≡ map h (cond b (x ∷ filter (λ x. q (h x)) xs) (filter (λ x. q (h x)) xs))
    by true = refl
    by false = refl

pub filter-flat : {A B : Type 0} (q : B → Bool) (g : A → List B) (xs : List A)
    → filter q (flat_map g xs) ≡ flat_map (λ x. filter q (g x)) xs
filter-flat q g [] = refl
filter-flat q g (x ∷ xs) = filter-append q (g x) (flat_map g xs) ∙ ap (λ ys. filter q (g x) ++ ys) (filter-flat q g xs)

pub filter-few : {A : Type 0} (f : A → Bool) (xs : List A) → length (filter f xs) ≤ length xs
filter-few f [] = omega arith
filter-few f (x ∷ xs) = one (f x) (filter-few f xs)
  where
    one : (b : Bool) → length (filter f xs) ≤ length xs → length (cond b (x ∷ filter f xs) (filter f xs)) ≤ suc (length xs)
    one true h = omega (arith, h)
    one false h = omega (arith, h)

pub drop-front : {X : Type 0} (l l' ys : List X) → length l' ≡ length l → drop (length l) (l' ++ ys) ≡ ys
drop-front [] [] ys e = refl
drop-front [] (x ∷ xs) ys e = absurd (omega (arith, e))
drop-front (y ∷ l) [] ys e = absurd (omega (arith, e))
drop-front (y ∷ l) (x ∷ xs) ys e = drop-front l xs ys (omega (arith, e))

pub write_back-whole : {A : Type 0} (new old : List A) (n : ℕ) → length new ≡ length old → n ≡ length old →
    take n (new ++ drop (length new) old) ≡ new
write_back-whole new old n same whole =
    let none : drop (length new) old ≡ [] = drop_all (length new) old (omega arith) in
    let count : n ≡ length new = omega arith in
    rw (none, append-nil, count) (take-length new)

pub pieces-all : {A : Type 0} (f : A → List ℕ) (xs : List A) (k : ℕ) (old now : List ℕ) → length xs ≤ k
    → now ≡ old ++ flat_map f (take k xs) → now ≡ old ++ flat_map f xs
pieces-all f xs k old now l h = h ∙ ap (λ ys. old ++ flat_map f ys) (take_all k xs l)

pub piece-more : {A : Type 0} (f : A → List ℕ) (xs : List A) (k : ℕ) (x : A) (old now new : List ℕ) → slice_get xs k ≡ Some x
    → now ≡ old ++ flat_map f (take k xs) → new ≡ now ++ f x
    → new ≡ old ++ flat_map f (take (k + 1) xs)
piece-more f xs k x old now new at h e =
    let more : take (k + 1) xs ≡ take k xs ++ x ∷ [] =
    take_more xs k x (slice_get_within xs k x at) ∙ ap (λ y. take k xs ++ y ∷ []) (get_or_from_slice_get xs k x x at) in
    e ∙ ap (λ t. t ++ f x) h ∙ flat_map_more f old (take k xs) x ∙ ap (λ ys. old ++ flat_map f ys) (sym more)

pub flat_map-range_with_len_more : {A : Type 0} (f : ℕ → List A) (a n j : ℕ) → a + n ≡ j
    → flat_map f (range_with_len a (n + 1)) ≡ flat_map f (range_with_len a n) ++ f j
flat_map-range_with_len_more f a zero j e = grind (arith, common_steps)
flat_map-range_with_len_more f a (suc n) j e = grind (arith, common_steps, flat_map-range_with_len_more f (a + 1) n j)

pub in_tail : (x k : ℕ) (xs : List ℕ) → Contains xs k → Contains (x ∷ xs) k
in_tail x k xs c = (suc c.0, (let h : c.0 < length xs = c.1 in omega arith), c.2)

pub head_or_tail : (x k : ℕ) (xs : List ℕ) → Contains (x ∷ xs) k → (x ≡ k) ⊎ Contains xs k
head_or_tail x k xs (zero, b, e) = inl e
head_or_tail x k xs (suc i, b, e) = inr (i, omega arith, e)

pub at_head : (x : ℕ) (xs : List ℕ) → Contains (x ∷ xs) x
at_head x xs = (0, omega arith, refl)

pub one-longer : (xs : List Event) (e : Event) → length (xs ++ e ∷ []) ≡ length xs + 1
one-longer [] e = refl
one-longer (x ∷ xs) e = let r = one-longer xs e in omega (arith, r)

pub appends-more : (before mid after : Option (List ℕ)) (xs ys : List ℕ) → Appends before mid xs → Appends mid after ys
    → Appends before after (xs ++ ys)
appends-more None mid after xs ys first then = _
appends-more (Some known) None after xs ys first then = absurd first
appends-more (Some known) (Some more) None xs ys first then = absurd then
appends-more (Some known) (Some more) (Some all) xs ys first then =
    then ∙ ap (λ begun. begun ++ ys) first ∙ append_assoc known xs ys

pub appends-none : (told : Option (List ℕ)) → Appends told told []
appends-none None = _
appends-none (Some known) = sym (append-nil known)

pub on_err-from : {A E : Type 0} (r : Result A E) (P : Type 0) → P → OnErr r P
on_err-from (Ok x) P p = tt
on_err-from (Err e) P p = p
