-- What is in flight: only that is delivered, and a core is at one end of its link.
use Rattle.std.proofs.Common.{◌≡◌, ℕ, true, [], Some, None, refl, ap, ◌∙◌}
use Rattle.tcc_base.specs.declared.names.CoreId.{CoreId}
use Rattle.tcc_base.specs.declared.names.NodeId.{NodeId}
use Rattle.tcc_base.specs.declared.names.NodeId.TheVariants as code_node
use Rattle.rules_maps.specs.Messages.{fits}
use Rattle.rules_maps.specs.Bridge.{node_of}
use Rattle.rules_maps.specs.Nodes.{Node, Deliver, Msg}
use Rattle.rules_tcc.specs.Links.{in_flight}
use Rattle.machine_links.specs.Flights.{net_of}
use Rattle.net_core.specs.Answers.{step_of}
use Rattle.net_core.specs.Machine.{Machine, settings_of}
use Rattle.net_core.specs.Whole.{IsWhole}
use Rattle.net_core.proofs.Useful.Enabled.{absent-refused}
use Rattle.net_core.proofs.Keeping.{good-message, settled-net}

pub absent : (m : Machine) (src dst : Node) (k : ℕ) → m.unsent ≡ [] → in_flight (net_of m.flights) src dst k ≡ None
    → step_of m (Deliver src dst k) ≡ None
absent m src dst k settled e = absent-refused m src dst k (ap (λ net. in_flight net src dst k) (settled-net m settled) ∙ e)

-- the node is no core
abbrev pub IsNoCore : NodeId → Type 0
IsNoCore n = (c : CoreId) → n ≡ code_node.Core c → ⊥

no-fit : (m : Machine) (src : NodeId) (dst : NodeId) (x : Msg) → IsNoCore src → IsNoCore dst
    → fits (settings_of m) (node_of src) (node_of dst) x ≡ true → ⊥
unfolding fits
no-fit m (code_node.Core c) dst x a b e = a c refl
no-fit m src (code_node.Core c) x a b e = b c refl
no-fit m (code_node.Dir c) (code_node.Dir d) x a b e = absurd (cc)
no-fit m (code_node.Dir c) code_node.Vendor x a b e = absurd (cc)
no-fit m code_node.Vendor (code_node.Dir d) x a b e = absurd (cc)
no-fit m code_node.Vendor code_node.Vendor x a b e = absurd (cc)

-- what is in flight has a core at one end
pub has-core : (m : Machine) (src dst : NodeId) (k : ℕ) (x : Msg) → IsWhole m → m.unsent ≡ [] → IsNoCore src → IsNoCore dst
    → in_flight (net_of m.flights) (node_of src) (node_of dst) k ≡ Some x → ⊥
has-core m src dst k x w settled a b e =
    let now = ap (λ net. in_flight net (node_of src) (node_of dst) k) (settled-net m settled) ∙ e in
    no-fit m src dst x a b (good-message m w (node_of src) (node_of dst) k x now).fits
