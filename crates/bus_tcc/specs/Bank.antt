-- One core has acted as a rule says, and all others are as before.
use Rattle.std.specs.Prelude.{ℕ, ◌≡◌, Bool, Option, Some, None, if◌then◌else◌}
use Rattle.tcc_base.specs.Put.{put}
use Rattle.rules_tcc.specs.Attempt.{Out}
use Rattle.rules_tcc.specs.State.{CoreState}
use Rattle.commit_engine.specs.Engine.{overflows}
use Rattle.machine_cores.specs.Bank.{CoresData, cores_of}
use Rattle.rules_bus.specs.Exec.{gone_alone}

abbrev pub Acted : Option Out → (core : ℕ) → (old new : CoresData) → Type 0
Acted None core old new = ⊥
Acted (Some o) core old new = cores_of new ≡ put (cores_of old) core o.core

-- the core has gone alone, or not
abbrev pub gone_if : (alone : Bool) → (tid : ℕ) → CoreState → CoreState
gone_if alone t s = if alone then gone_alone t s else s

-- a core has executed, and has gone alone where it would wait for that
abbrev pub Executed : (alone : Bool) → (tid : ℕ) → Option Out → CoreState → Type 0
Executed alone t None new = ⊥
Executed alone t (Some o) new = (alone ≡ overflows o.core.phase) × (new ≡ gone_if alone t o.core)

-- the same of one core of a bank, whose others are as before
abbrev pub ExecutedAt : (alone : Bool) → (tid : ℕ) → Option Out → (core : ℕ) → (old new : CoresData) → Type 0
ExecutedAt alone t None core old new = ⊥
ExecutedAt alone t (Some o) core old new = (alone ≡ overflows o.core.phase)
    × (cores_of new ≡ put (cores_of old) core (gone_if alone t o.core))
