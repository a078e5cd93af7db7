-- What the code's own types mean as the plain data of these maps.
use Rattle.tcc_base.specs.declared.access.Tagged.{Tagged as CodeTagged}
use Rattle.tcc_base.specs.declared.names.NodeId.{NodeId}
use Rattle.tcc_base.specs.declared.names.NodeId.TheVariants.{Core as CodeCore, Dir as CodeDir, Vendor as CodeVendor}
use Rattle.rules_maps.specs.Nodes.{Tagged, Node, Core, Dir, Vendor}

abbrev pub tagged_of : CodeTagged → Tagged
tagged_of t = record { line = t.line.0; mask = t.mask.0; words = t.words; tag = t.tag.0 }

abbrev pub node_of : NodeId → Node
node_of (CodeCore c) = Core c.0
node_of (CodeDir d) = Dir d.0
node_of CodeVendor = Vendor
