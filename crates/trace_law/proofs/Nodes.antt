-- What is told node by node, of one node alone: each node of the machine is once in the list of its nodes.
use Rattle.std.proofs.Common.{◌≡◌, ◌==◌, ◌<◌, ℕ, zero, suc, Bool, true, false, List, [], ◌∷◌, ◌++◌, map, nat_lt}
use Rattle.std.proofs.Common.{if◌then◌else◌, refl, ap, subst, ◌∙◌, arith}
use Rattle.std.specs.List.{flat_map, Contains}
use Rattle.std.proofs.lemmas.Bool.Decides.{nat_tests}
use Rattle.std.proofs.lemmas.Grind.{flat_map-append}
use Rattle.std.proofs.lemmas.List.Elements.{Contains-append_left, Contains-append_right}
use Rattle.std.proofs.lemmas.List.Folds.{flat_map-map}
use Rattle.rules_maps.specs.Nodes.{Node, Core, Dir, Vendor, node_eq}
use Rattle.rules_maps.specs.Shape.{Shape}
use Rattle.rules_maps.specs.Words.{those}
use Rattle.rules_tcc.specs.Step.{is_node}
use Rattle.rules_tcc.specs.Useful.{nodes}

abbrev pub where_so : {A : Type 0} → Bool → List A → List A
where_so b xs = if b then xs else []

-- nothing, however often
pub flat-none : {X A : Type 0} (xs : List X) → flat_map {A = A} (λ x. []) xs ≡ []
flat-none [] = refl
flat-none (x ∷ xs) = flat-none xs

append-none : {A : Type 0} (xs : List A) → xs ++ [] ≡ xs
append-none [] = refl
append-none (x ∷ xs) = ap (λ ys. x ∷ ys) (append-none xs)

-- each number is once among those below m, where it is below m
number-once : {A : Type 0} (c m : ℕ) (xs : List A) → flat_map (λ j. where_so (j == c) xs) (those (λ k. true) m) ≡ where_so (nat_lt c m) xs
unfolding those
number-once c zero xs = grind (arith, nat_tests)
number-once c (suc m) xs =
    flat_map-append (λ j. where_so (j == c) xs) (those (λ k. true) m) (m ∷ [])
    ∙ ap (λ ys. ys ++ (where_so (m == c) xs ++ [])) (number-once c m xs)
    ∙ ap (λ ys. where_so (nat_lt c m) xs ++ ys) (append-none (where_so (m == c) xs))
    ∙ go (nat_lt c m) (m == c) refl refl
  where
    go : (a b : Bool) → nat_lt c m ≡ a → (m == c) ≡ b → where_so a xs ++ where_so b xs ≡ where_so (nat_lt c (suc m)) xs
    go true true e f = absurd (grind (arith, nat_tests, e, f))
    go true false e f = let t : nat_lt c (suc m) ≡ true = grind (arith, nat_tests, e, f) in rw t (append-none xs)
    go false true e f = let t : nat_lt c (suc m) ≡ true = grind (arith, nat_tests, e, f) in rw t refl
    go false false e f = let t : nat_lt c (suc m) ≡ false = grind (arith, nat_tests, e, f) in rw t refl

in-parts : {A : Type 0} (sh : Shape) (g : Node → List A)
    → flat_map g (nodes sh) ≡ flat_map (λ c. g (Core c)) (those (λ k. true) sh.cores)
    ++ (flat_map (λ d. g (Dir d)) (those (λ k. true) sh.dirs) ++ g Vendor)
unfolding nodes
in-parts sh g =
    flat_map-append g (map Core (those (λ k. true) sh.cores)) (map Dir (those (λ k. true) sh.dirs) ++ Vendor ∷ [])
    ∙ ap (λ ys. ys ++ flat_map g (map Dir (those (λ k. true) sh.dirs) ++ Vendor ∷ [])) (flat_map-map g Core (those (λ k. true) sh.cores))
    ∙ ap (λ ys. flat_map (λ c. g (Core c)) (those (λ k. true) sh.cores) ++ ys)
    (flat_map-append g (map Dir (those (λ k. true) sh.dirs)) (Vendor ∷ [])
    ∙ ap (λ ys. ys ++ flat_map g (Vendor ∷ [])) (flat_map-map g Dir (those (λ k. true) sh.dirs))
    ∙ ap (λ ys. flat_map (λ d. g (Dir d)) (those (λ k. true) sh.dirs) ++ ys) (append-none (g Vendor)))

parts-are : {A : Type 0} (fs gs hs xs ys zs : List A) → fs ≡ xs → gs ≡ ys → hs ≡ zs → fs ++ (gs ++ hs) ≡ xs ++ (ys ++ zs)
parts-are fs gs hs xs ys zs p q r = cc

pub node-once : {A : Type 0} (sh : Shape) (n : Node) (xs : List A) → is_node sh n ≡ true
    → flat_map (λ s. where_so (node_eq s n) xs) (nodes sh) ≡ xs
node-once {A} sh (Core c) xs e =
    in-parts sh (λ s. where_so (node_eq s (Core c)) xs)
    ∙ parts-are (flat_map (λ j. where_so (j == c) xs) (those (λ k. true) sh.cores))
    (flat_map {A = A} (λ d. []) (those (λ k. true) sh.dirs)) [] xs [] []
    (number-once c sh.cores xs ∙ ap (λ b. where_so b xs) e) (flat-none (those (λ k. true) sh.dirs)) refl
    ∙ append-none xs
node-once {A} sh (Dir d) xs e =
    in-parts sh (λ s. where_so (node_eq s (Dir d)) xs)
    ∙ parts-are (flat_map {A = A} (λ c. []) (those (λ k. true) sh.cores))
    (flat_map (λ j. where_so (j == d) xs) (those (λ k. true) sh.dirs)) [] [] xs []
    (flat-none (those (λ k. true) sh.cores)) (number-once d sh.dirs xs ∙ ap (λ b. where_so b xs) e) refl
    ∙ append-none xs
node-once {A} sh Vendor xs e =
    in-parts sh (λ s. where_so (node_eq s Vendor) xs)
    ∙ parts-are (flat_map {A = A} (λ c. []) (those (λ k. true) sh.cores)) (flat_map {A = A} (λ d. []) (those (λ k. true) sh.dirs)) xs
    [] [] xs (flat-none (those (λ k. true) sh.cores)) (flat-none (those (λ k. true) sh.dirs)) refl

-- what one node gives is among what all give
contains-number : {A : Type 0} (g : ℕ → List A) (x : A) (c m : ℕ) → c < m → Contains (g c) x
    → Contains (flat_map g (those (λ k. true) m)) x
unfolding those
contains-number g x c zero l i = absurd (omega arith)
contains-number g x c (suc m) l i =
    rw (flat_map-append g (those (λ k. true) m) (m ∷ [])) (go (c == m) refl (contains-number g x c m))
  where
    go : (b : Bool) → (c == m) ≡ b → (c < m → Contains (g c) x → Contains (flat_map g (those (λ k. true) m)) x)
        → Contains (flat_map g (those (λ k. true) m) ++ (g m ++ [])) x
    go true e rest =
        let same : c ≡ m = grind (arith, nat_tests) in
        Contains-append_right (flat_map g (those (λ k. true) m)) (g m ++ []) x
        (Contains-append_left (g m) [] x (subst (λ j. Contains (g j) x) same i))
    go false e rest =
        let less : c < m = grind (arith, nat_tests) in
        Contains-append_left (flat_map g (those (λ k. true) m)) (g m ++ []) x (rest less i)

pub node-gives : {A : Type 0} (sh : Shape) (n : Node) (g : Node → List A) (x : A) → is_node sh n ≡ true → Contains (g n) x
    → Contains (flat_map g (nodes sh)) x
node-gives sh (Core c) g x e i =
    rw (in-parts sh g)
    (Contains-append_left (flat_map (λ c. g (Core c)) (those (λ k. true) sh.cores))
    (flat_map (λ d. g (Dir d)) (those (λ k. true) sh.dirs) ++ g Vendor) x
    (contains-number (λ c. g (Core c)) x c sh.cores (grind (arith, nat_tests)) i))
node-gives sh (Dir d) g x e i =
    rw (in-parts sh g)
    (Contains-append_right (flat_map (λ c. g (Core c)) (those (λ k. true) sh.cores))
    (flat_map (λ d. g (Dir d)) (those (λ k. true) sh.dirs) ++ g Vendor) x
    (Contains-append_left (flat_map (λ d. g (Dir d)) (those (λ k. true) sh.dirs)) (g Vendor) x
    (contains-number (λ d. g (Dir d)) x d sh.dirs (grind (arith, nat_tests)) i)))
node-gives sh Vendor g x e i =
    rw (in-parts sh g)
    (Contains-append_right (flat_map (λ c. g (Core c)) (those (λ k. true) sh.cores))
    (flat_map (λ d. g (Dir d)) (those (λ k. true) sh.dirs) ++ g Vendor) x
    (Contains-append_right (flat_map (λ d. g (Dir d)) (those (λ k. true) sh.dirs)) (g Vendor) x i))
