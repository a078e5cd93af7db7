-- What is seen of a core.
use Rattle.std.specs.Prelude.{ℕ, ◌≡◌, Option, Some, None}
use Rattle.rv_exec.specs.Needs.{need_of}
use Rattle.tcc_base.specs.declared.names.Tid.{Tid}
use Rattle.rules_program.specs.Program.{Program}
use Rattle.rules_tcc.specs.State.{CoreState}
use Rattle.commit_engine.specs.Engine.{phase_of}
use Rattle.watch_core.specs.declared.executing.Seen.{Seen}

-- a core's phase, pc and what its instruction needs were seen
pub record Saw (seen : Seen) (p : Program) (s : CoreState) : Type 0 where
  pub phase : phase_of seen.phase ≡ s.phase
  pub pc : seen.pc ≡ s.local.pc
  pub need : need_of seen.need ≡ p.need s.local

-- a TID as a number
abbrev pub plain_tid : Option Tid → Option ℕ
plain_tid None = None
plain_tid (Some t) = Some t.0
