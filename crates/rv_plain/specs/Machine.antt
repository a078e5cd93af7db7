-- The state from which the plain machine begins a program.
use Rattle.std.specs.Prelude.{ℕ, [], nat_lt, if◌then◌else◌, None}
use Rattle.image_load.specs.Start.{Start, first_ram}
use Rattle.rv_code.specs.Machine.{start_local}
use Rattle.tcc_base.specs.declared.access.CoreEnd.TheVariants.{Run, Halt}
use Rattle.rules_program.specs.Plain.{Plain, PlainCore}

-- what stands for a core that doesn't exist
abbrev pub no_core : PlainCore
no_core = record { local = record { regs = []; pc = 0; reserved = None }; ended = Halt 0; console = [] }

abbrev pub start_core : (cores core entry : ℕ) → PlainCore
start_core cores core entry = record { local = start_local cores core entry; ended = Run; console = [] }

-- the core begins at its entry
abbrev pub core_at_start : Start → (core : ℕ) → PlainCore
core_at_start s c = if nat_lt c s.settings.cores then start_core s.settings.cores c (s.entry c) else no_core

unfoldable pub plain_start : Start → Plain
plain_start s = record { ram = first_ram s; cores = core_at_start s }
