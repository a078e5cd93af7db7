-- Names are equal where their numbers are, and a look-up depends on the test alone.
use Rattle.std.proofs.Common.{◌≡◌, ◌==◌, ◌&&◌, Bool, List, Option, cond, if◌then◌else◌, refl, ap, sym, ◌∙◌}
use Rattle.std.specs.Map.{lookup}
use Rattle.tcc_base.specs.declared.names.NodeId.{NodeId}
use Rattle.tcc_base.specs.declared.names.NodeId.TheVariants.{Core, Dir, Vendor}
use Rattle.tcc_msg.specs.declared.event.Name.{Name}
use Rattle.tcc_msg.specs.contracts.event.NamePartialEq.TheImpl.{eq-value as name}
use Rattle.tcc_base.specs.contracts.names.NodeIdPartialEq.TheImpl.{eq-value as node}
use Rattle.rules_maps.specs.Nodes.{node_eq}
use Rattle.rules_maps.specs.Bridge.{node_of}
use Rattle.tcc_msg.specs.Held.{PoolData, name_eq, held}

pub eq-node_eq : (a b : NodeId) → node.it a b ≡ node_eq (node_of a) (node_of b)
eq-node_eq (Core a) (Core b) = refl
eq-node_eq (Core a) (Dir b) = refl
eq-node_eq (Core a) Vendor = refl
eq-node_eq (Dir a) (Core b) = refl
eq-node_eq (Dir a) (Dir b) = refl
eq-node_eq (Dir a) Vendor = refl
eq-node_eq Vendor (Core b) = refl
eq-node_eq Vendor (Dir b) = refl
eq-node_eq Vendor Vendor = refl

pub eq-name_eq : (a b : Name) → name.it a b ≡ name_eq a b
eq-name_eq a b = λ i. eq-node_eq a.src b.src i && (eq-node_eq a.dst b.dst i && a.seq == b.seq)

-- a look-up by a test that answers the same
pub lookup-same : {K X : Type 0} (p q : K → Bool) → ((k : K) → p k ≡ q k) → (es : List (K × X)) → lookup p es ≡ lookup q es
lookup-same p q h es = λ i. lookup (λ k. h k i) es

-- what an index map finds is what the pool holds
pub held-is : {M : Type 0} (es : List (Name × M)) (n : Name) → lookup (name.it n) es ≡ held es n
unfolding held
held-is es n = lookup-same (name.it n) (name_eq n) (eq-name_eq n) es

-- the map of a pool after one change by name
pub held-updated : {M : Type 0} (old new : List (Name × M)) (n : Name) (w : Option M)
    → ((q : Name) → lookup (name.it q) new ≡ cond (name.it n q) w (lookup (name.it q) old))
    → held new ≡ (λ q. if name_eq n q then w else held old q)
held-updated old new n w h = λ i q. (sym (held-is new q) ∙ (h q ∙ (λ j. cond (eq-name_eq n q j) w (held-is old q j)))) i

-- pools that are the same hold the same messages
pub messages-same : {M : Type 0} (p q : PoolData M) → p ≡ q → p.messages ≡ q.messages
messages-same p q e = ap (λ (x : PoolData _). x.messages) e
