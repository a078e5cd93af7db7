-- The parts of a member, and what always holds of them.
use Rattle.std.specs.Prelude.{◌≡◌, true}
use Rattle.std.specs.Arc.{arc_value}
use Rattle.tcc_base.specs.Settings.{IsAllowed}
use Rattle.rules_maps.specs.Bridge.{node_of}
use Rattle.rules_tcc.specs.Step.{is_node}
use Rattle.theorem_apart.specs.Apart.{NodeInBounds}
use Rattle.apart_member.specs.Data.{MemberData, node_at, state_of}
use Rattle.apart_member.specs.Placed.{IsPlaced}
use Rattle.apart_member.specs.declared.member.Member.TheInside.{Inside}

abbrev pub member_of : Inside → MemberData
member_of m = record { code = arc_value m.code; node = node_at m.kind; done = m.done; kind = m.kind }

-- what holds of every member
pub record IsMember (m : MemberData) : Type 0 where
  pub allowed : IsAllowed m.code.settings
  pub exists : is_node m.code.settings (node_of m.node) ≡ true
  pub named : m.node ≡ node_at m.kind
  pub placed : IsPlaced m.code.settings m.kind
  pub bounded : NodeInBounds m.code.settings m.done (node_of m.node) (state_of m)

abbrev pub IsInside : Inside → Type 0
IsInside m = IsMember (member_of m)
