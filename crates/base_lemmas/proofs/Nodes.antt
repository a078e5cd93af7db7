-- Nodes, and what a cache's tests say.
use Rattle.std.proofs.Common.{None, Option, Some, ap, arith, false, is_some, refl, true, ℕ, ⊎_elim, ◌≡◌, ◌⊎◌}
use Rattle.std.proofs.lemmas.Bool.{cases_Bool}
use Rattle.std.proofs.lemmas.Bool.Decides.{nat_tests}
use Rattle.rules_maps.specs.Cache.{Cache, IsCache}
use Rattle.rules_maps.specs.Masks.{hit}
use Rattle.rules_maps.specs.Nodes.{Core, Dir, Node, Vendor, node_eq}
use Rattle.rules_maps.specs.Shape.{Shape}
use Rattle.rules_maps.specs.Words.{line_of}

pub node_eq-refl : (n : Node) → node_eq n n ≡ true
node_eq-refl (Core c) = grind (arith, nat_tests)
node_eq-refl (Dir d) = grind (arith, nat_tests)
node_eq-refl Vendor = refl

pub node_eq-sym : (a b : Node) → node_eq a b ≡ node_eq b a
node_eq-sym (Core c) (Core d) = grind (arith, nat_tests)
node_eq-sym (Core c) (Dir d) = refl
node_eq-sym (Core c) Vendor = refl
node_eq-sym (Dir c) (Core d) = refl
node_eq-sym (Dir c) (Dir d) = grind (arith, nat_tests)
node_eq-sym (Dir c) Vendor = refl
node_eq-sym Vendor (Core d) = refl
node_eq-sym Vendor (Dir d) = refl
node_eq-sym Vendor Vendor = refl

pub hit-line : (l m w : ℕ) → hit l m w ≡ true → l ≡ line_of w
unfolding hit
hit-line l m w h = grind (arith, nat_tests)

pub held_valued : (sh : Shape) (c : Cache) (w x : ℕ) → IsCache sh c → c.value w ≡ Some x → c.held (line_of w) ≡ true
held_valued sh c w x k e = ⊎_elim (λ h. h) (λ h. let n = k.valued w h in absurd (cc)) (cases_Bool (c.held (line_of w)))

pub unheld-clean : (sh : Shape) (c : Cache) (w : ℕ) → IsCache sh c → c.held (line_of w) ≡ false → c.dirty w ≡ None
unheld-clean sh c w k h = go (c.dirty w) refl
  where
    go : (o : Option ℕ) → c.dirty w ≡ o → o ≡ None
    go None e = refl
    go (Some g) e =
        let some : is_some (c.value w) ≡ true = k.dirty w (ap is_some e) in
        let none : is_some (c.value w) ≡ false = ap is_some (k.valued w h) in
        absurd (cc)
