-- The events without a message that are useful at one node now.
use Rattle.std.specs.Prelude.{List, [], ◌∷◌, ◌++◌, map, ℕ, is_some, if◌then◌else◌}
use Rattle.image_load.specs.Contents.{started}
use Rattle.rv_code.specs.Machine.{program}
use Rattle.rules_maps.specs.Bridge.{node_of}
use Rattle.rules_maps.specs.Nodes.{Node, Core, Event, Exec, Evict}
use Rattle.rules_maps.specs.Shape.{Shape}
use Rattle.rules_program.specs.Program.{Program}
use Rattle.rules_tcc.specs.CoreExec.{core_exec}
use Rattle.rules_tcc.specs.Local.{NodeState, AtCore}
use Rattle.rules_tcc.specs.State.{CoreState}
use Rattle.core_node.specs.Useful.{useful_evicts}
use Rattle.apart_member.specs.Data.{MemberData, state_of}

-- a core may execute, and then its useful evictions by set and way
unfoldable pub core_events : Shape → Program → (core : ℕ) → CoreState → List Event
core_events sh p c s =
    (if is_some (core_exec sh p c s) then Exec c ∷ [] else []) ++ map (λ q. Evict c q.0 q.1) (useful_evicts sh p s)

-- the other nodes only take messages
abbrev pub node_events : Shape → Program → Node → NodeState → List Event
node_events sh p (Core c) (AtCore s) = core_events sh p c s
node_events sh p n s = []

unfoldable pub own_events : MemberData → List Event
own_events m = node_events m.code.settings (program (started m.code)) (node_of m.node) (state_of m)
