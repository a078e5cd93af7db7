-- A new port stands at its peer's place.
use Rattle.std.proofs.Common.{◌≡◌, ℕ, Some, ap, sym, ◌∙◌}
use Rattle.tcc_base.specs.Settings.{Settings}
use Rattle.tcc_base.specs.declared.names.NodeId.{NodeId}
use Rattle.rules_maps.specs.Bridge.{node_of}
use Rattle.apart_node.specs.Peers.{seat}
use Rattle.apart_node.specs.Ports.{IsBetween, IsPortAt, PortData}

pub placed-between : (s : Settings) (a b : NodeId) (k : ℕ) (p : PortData) → IsBetween s a b p → seat s (node_of a) (node_of b) ≡ Some k
    → IsPortAt s (node_of a) k p
placed-between s a b k p h e = record {
  place = ap (λ x. seat s (node_of a) (node_of x.dst)) h.out ∙ e;
  mirrored = ap (λ x. x.src) h.in' ∙ sym (ap (λ x. x.dst) h.out);
  out_settings = ap (λ x. x.settings) h.out;
  in_settings = ap (λ x. x.settings) h.in';
  out_own = ap (λ x. node_of x.src) h.out;
  in_own = ap (λ x. node_of x.dst) h.in';
}
