-- One node by itself as plain data, and the state of the rules that it stands for.
use Rattle.std.specs.Prelude.{ℕ}
use Rattle.image_load.specs.Contents.{Contents, started}
use Rattle.image_load.specs.Start.{first_ram}
use Rattle.tcc_base.specs.declared.names.NodeId.{NodeId}
use Rattle.tcc_base.specs.declared.names.NodeId.TheVariants as code_node
use Rattle.rules_tcc.specs.Local.{NodeState, AtCore, AtDir, AtVendor}
use Rattle.core_node.specs.View.{core_of}
use Rattle.directory.specs.Data.{dir_of}
use Rattle.apart_member.specs.declared.kind.MemberKind.{MemberKind}
use Rattle.apart_member.specs.declared.kind.MemberKind.TheVariants.{Core, Directory, Vendor}

pub record MemberData : Type 0 where
  pub code : Contents  -- the program, as it was loaded
  pub node : NodeId
  pub done : ℕ  -- how many events it has done
  pub kind : MemberKind

abbrev pub node_at : MemberKind → NodeId
node_at (Core id core) = code_node.Core id
node_at (Directory id dir) = code_node.Dir id
node_at (Vendor vendor) = code_node.Vendor

-- a directory's words of other homes are those of RAM at the start
abbrev pub kind_state : (ram : ℕ → ℕ) → MemberKind → NodeState
kind_state ram (Core id core) = AtCore (core_of core)
kind_state ram (Directory id dir) = AtDir (dir_of ram dir)
kind_state ram (Vendor vendor) = AtVendor vendor

unfoldable pub state_of : MemberData → NodeState
state_of m = kind_state (first_ram (started m.code)) m.kind
