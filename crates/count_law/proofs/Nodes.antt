-- Sums over all nodes.
use Rattle.std.proofs.Common.{◌≡◌, ◌==◌, ◌+◌, ℕ, zero, suc, Bool, true, List, [], ◌∷◌, ◌++◌, map, nat_lt, sum_by}
use Rattle.std.proofs.Common.{if◌then◌else◌, refl, ap, ◌∙◌, arith}
use Rattle.std.proofs.lemmas.Bool.Decides.{nat_tests}
use Rattle.std.proofs.lemmas.List.Sums.{sum_by-cons, sum_by-append}
use Rattle.rules_maps.specs.Nodes.{Node, Core, Dir, Vendor, node_eq}
use Rattle.rules_maps.specs.Shape.{Shape}
use Rattle.rules_maps.specs.Words.{those}
use Rattle.rules_tcc.specs.Step.{is_node}
use Rattle.rules_tcc.specs.Useful.{nodes}

abbrev pub where_so : Bool → (v : ℕ) → ℕ
where_so b v = if b then v else 0

pub sums-balance : {X : Type 0} (f g p q : X → ℕ) (xs : List X) → ((x : X) → f x + g x ≡ p x + q x)
    → sum_by f xs + sum_by g xs ≡ sum_by p xs + sum_by q xs
sums-balance f g p q [] each = refl
sums-balance f g p q (x ∷ xs) each =
    omega (arith, each x, sums-balance f g p q xs each, sum_by-cons f x xs, sum_by-cons g x xs, sum_by-cons p x xs, sum_by-cons q x xs)

pub sum-none : {X : Type 0} (xs : List X) → sum_by (λ x. 0) xs ≡ 0
sum-none [] = refl
sum-none (x ∷ xs) = omega (arith, sum_by-cons (λ y. 0) x xs, sum-none xs)

mapped : {X Y : Type 0} (f : X → Y) (g : Y → ℕ) (xs : List X) → sum_by g (map f xs) ≡ sum_by (λ x. g (f x)) xs
mapped f g [] = refl
mapped f g (x ∷ xs) = omega (arith, sum_by-cons g (f x) (map f xs), sum_by-cons (λ y. g (f y)) x xs, mapped f g xs)

-- each number is once among those below m, where it is below m
number-once : (c m v : ℕ) → sum_by (λ j. where_so (j == c) v) (those (λ k. true) m) ≡ where_so (nat_lt c m) v
unfolding those
number-once c zero v = grind (arith, nat_tests)
number-once c (suc m) v =
    let rest = number-once c m v in
    let last = sum_by-append (λ j. where_so (j == c) v) (those (λ k. true) m) (m ∷ []) in
    let one = sum_by-cons (λ j. where_so (j == c) v) m [] in
    last ∙ ap (λ n. n + sum_by (λ j. where_so (j == c) v) (m ∷ [])) rest ∙ ap (λ n. where_so (nat_lt c m) v + n) one
    ∙ grind (arith, nat_tests)

in-parts : (sh : Shape) (g : Node → ℕ)
    → sum_by g (nodes sh) ≡ sum_by (λ c. g (Core c)) (those (λ k. true) sh.cores)
    + (sum_by (λ d. g (Dir d)) (those (λ k. true) sh.dirs) + g Vendor)
unfolding nodes
in-parts sh g =
    omega (
      arith,
      sum_by-append g (map Core (those (λ k. true) sh.cores)) (map Dir (those (λ k. true) sh.dirs) ++ Vendor ∷ []),
      sum_by-append g (map Dir (those (λ k. true) sh.dirs)) (Vendor ∷ []),
      mapped Core g (those (λ k. true) sh.cores),
      mapped Dir g (those (λ k. true) sh.dirs),
      sum_by-cons g Vendor [],
    )

-- each node is one of them
pub node-once : (sh : Shape) (n : Node) (v : ℕ) → is_node sh n ≡ true → sum_by (λ s. where_so (node_eq s n) v) (nodes sh) ≡ v
node-once sh (Core c) v e =
    omega (
      arith,
      in-parts sh (λ s. where_so (node_eq s (Core c)) v),
      number-once c sh.cores v,
      ap (λ b. where_so b v) e,
      sum-none (those (λ k. true) sh.dirs),
    )
node-once sh (Dir d) v e =
    omega (
      arith,
      in-parts sh (λ s. where_so (node_eq s (Dir d)) v),
      number-once d sh.dirs v,
      ap (λ b. where_so b v) e,
      sum-none (those (λ k. true) sh.cores),
    )
node-once sh Vendor v e =
    omega (
      arith,
      in-parts sh (λ s. where_so (node_eq s Vendor) v),
      sum-none (those (λ k. true) sh.dirs),
      sum-none (those (λ k. true) sh.cores),
    )
