-- The phase of the code as the rules' phase, and sets of directories as the bits of a number.
use Rattle.std.specs.Prelude.{ℕ, Bool, true, false, ◌&&◌, nat_lt, List, get_or, Some, None}
use Rattle.tcc_base.specs.declared.names.Tid.{Tid}
use Rattle.rules_tcc.specs.State as rules
use Rattle.commit_engine.specs.declared.phase.Phase.{Phase}
use Rattle.commit_engine.specs.declared.phase.Phase.TheVariants as code

abbrev pub phase_of : Phase → rules.Phase
phase_of code.Running = rules.Running
phase_of code.AwaitTid = rules.AwaitTid
phase_of code.DoomedTid = rules.DoomedTid
phase_of (code.Probing t) = rules.Probing t.0
phase_of (code.Ready t) = rules.Ready t.0
phase_of (code.Overflowing None) = rules.Overflowing None
phase_of (code.Overflowing (Some t)) = rules.Overflowing (Some t.0)
phase_of (code.Solo t) = rules.Solo t.0
phase_of code.Halted = rules.Halted

-- a core waits to be alone, for a TID or for its directories
abbrev pub overflows : rules.Phase → Bool
overflows (rules.Overflowing t) = true
overflows _ = false

-- for each directory the TID of the core's last commit there
unfoldable pub after_of : List Tid → ℕ → ℕ
after_of after d = (get_or after d (record { 0 = 0 })).0

-- the numbers below n that have p
unfoldable pub first_with : ℕ → (ℕ → Bool) → ℕ → Bool
first_with n p d = nat_lt d n && p d
