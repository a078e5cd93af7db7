-- Exec of a core, by its phase.
use Rattle.std.specs.Prelude.{ℕ, Option, Some, None}
use Rattle.rules_program.specs.Program.{Program}
use Rattle.rules_maps.specs.Shape.{Shape}
use Rattle.rules_tcc.specs.State.{CoreState, Awaited, Phase, Running, Ready, Solo}
use Rattle.rules_tcc.specs.Attempt.{Out}
use Rattle.rules_tcc.specs.Commit.{commit}
use Rattle.rules_tcc.specs.Execute.{execute}

-- a core that awaits a line executes nothing
abbrev pub unless_awaiting : Shape → Program → (core : ℕ) → CoreState → Option Awaited → Option Out
unless_awaiting sh p id s (Some a) = None
unless_awaiting sh p id s None = execute sh p id s

-- a core that runs or is alone executes an instruction, one that is ready commits; in other phases Exec isn't enabled
abbrev pub exec_in_phase : Shape → Program → (core : ℕ) → CoreState → Phase → Option Out
exec_in_phase sh p id s Running = unless_awaiting sh p id s s.awaited
exec_in_phase sh p id s (Solo t) = unless_awaiting sh p id s s.awaited
exec_in_phase sh p id s (Ready t) = Some (commit sh id t s)
exec_in_phase sh p id s _ = None

unfoldable pub core_exec : Shape → Program → (core : ℕ) → CoreState → Option Out
core_exec sh p id s = exec_in_phase sh p id s s.phase
