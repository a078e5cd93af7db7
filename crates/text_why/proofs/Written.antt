-- The nodes of the code are written as they are.
use Rattle.std.proofs.Common.{◌≡◌, ℕ, ◌++◌, codes, refl}
use Rattle.std.specs.Fmt.{decimal}
use Rattle.tcc_base.specs.declared.names.NodeId.{NodeId}
use Rattle.tcc_base.specs.declared.names.NodeId.TheVariants.{Core, Dir, Vendor}
use Rattle.rules_maps.specs.Bridge.{node_of}
use Rattle.schedule_text.specs.Grammar.{node_word}
use Rattle.text_why.specs.Lines.{name_words}
use Rattle.text_why.specs.Written.{shown_node_of}

node-shown : (n : NodeId) → shown_node_of (node_of n) ≡ n
node-shown (Core c) = refl
node-shown (Dir d) = refl
node-shown Vendor = refl

pub name-written : (src dst : NodeId) (k : ℕ)
    → name_words (node_of src) (node_of dst) k ≡ node_word src ++ codes " " ++ node_word dst ++ codes " " ++ decimal k
unfolding name_words
name-written src dst k =
    λ i. node_word (node-shown src i) ++ codes " " ++ node_word (node-shown dst i) ++ codes " " ++ decimal k
