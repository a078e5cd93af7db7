-- Messages that a node takes at once, in whatever state it is.
use Rattle.std.specs.Prelude.{Bool, true, false}
use Rattle.rules_maps.specs.Nodes.{Node, Core, Dir, Vendor, Msg, Skip, Abort, InvAck}
use Rattle.rules_tcc.specs.Local.{NodeState, AtCore, AtDir, AtVendor}

-- the state is one of such a node
abbrev pub IsOfKind : Node → NodeState → Type 0
IsOfKind (Core c) (AtCore s) = Unit {0}
IsOfKind (Dir d) (AtDir s) = Unit {0}
IsOfKind Vendor (AtVendor t) = Unit {0}
IsOfKind n s = ⊥

-- a core and the vendor let no message wait, and a directory none of those that ask for nothing
abbrev pub never_waits : (own : Node) → Msg → Bool
never_waits (Dir d) (Skip t) = true
never_waits (Dir d) (Abort t) = true
never_waits (Dir d) (InvAck l keeps) = true
never_waits (Dir d) m = false
never_waits (Core c) m = true
never_waits Vendor m = true
