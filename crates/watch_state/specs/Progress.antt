-- What a core's attempt has come to, without what it has to do with directories: for a machine that has none.
use Rattle.std.specs.Prelude.{ℕ, List, ◌∷◌, ◌++◌}
use Rattle.rules_tcc.specs.State.{CoreState}
use Rattle.watch_state.specs.Cores.{ended_record, reserved_record}
use Rattle.watch_state.specs.Records.{Record, CoreIs}

unfoldable pub progress_records : (core : ℕ) → CoreState → List Record
progress_records c s = CoreIs c s.n s.local.pc s.phase ∷ reserved_record c s.local.reserved ++ ended_record c s.ended
