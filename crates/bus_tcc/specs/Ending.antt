-- The end of an attempt: who may commit, and what.
use Rattle.std.specs.Prelude.{ℕ, ◌≡◌, true, if◌then◌else◌}
use Rattle.rules_program.specs.Program.{Program}
use Rattle.rules_tcc.specs.Attempt.{finished, is_solo}
use Rattle.rules_tcc.specs.State.{CoreState, Phase, AwaitTid, Solo}
use Rattle.core_node.specs.AtHand.{ends_by}

-- an attempt as it commits: that of a core that is alone has the instruction that ends it
unfoldable pub at_commit : Program → CoreState → CoreState
at_commit p s = if is_solo s.phase then finished p (p.need s.local) 0 s else s

-- the core waits for the bus, or is alone by this TID at an instruction that ends its transaction
abbrev pub CommitsBy : Program → (tid : ℕ) → CoreState → Phase → Type 0
CommitsBy p t s AwaitTid = Unit {0}
CommitsBy p t s (Solo u) = (u ≡ t) × (ends_by (p.need s.local) ≡ true)
CommitsBy p t s _ = ⊥
