-- All cores of a machine as plain data, and the states of the rules that they stand for.
use Rattle.std.specs.Prelude.{ℕ, List, Option, Some, None, slice_get}
use Rattle.image_load.specs.Contents.{Contents, started}
use Rattle.image_load.specs.Start.{Start}
use Rattle.rv_code.specs.Machine.{start_local}
use Rattle.rules_tcc.specs.State.{CoreState, core_start}
use Rattle.core_node.specs.View.{core_of}
use Rattle.core_node.specs.declared.state.Core.{Core}

pub record CoresData : Type 0 where
  pub code : Contents  -- the program, as it was loaded
  pub cores : List Core

-- a core at its entry
abbrev pub first_core : Start → (core : ℕ) → CoreState
first_core s c = core_start (start_local s.settings.cores c (s.entry c))

abbrev pub core_or : CoreState → Option Core → CoreState
core_or start None = start
core_or start (Some c) = core_of c

-- the cores by number; one that the machine doesn't have is as at the start
unfoldable pub cores_of : CoresData → ℕ → CoreState
cores_of b c = core_or (first_core (started b.code) c) (slice_get b.cores c)
