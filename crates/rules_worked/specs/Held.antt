-- A schedule that shows whose phases hold a request back: of each other core, not of the first one alone.
use Rattle.std.specs.Prelude.{ℕ, ◌≡◌, List, [], ◌∷◌, ◌++◌, Bool, true, false, is_some}
use Rattle.image_load.specs.Raw.{raw_images}
use Rattle.image_load.specs.Start.{Start, start, first_ram}
use Rattle.rv_code.specs.Machine.{program, start_local}
use Rattle.tcc_base.specs.Settings.{Settings}
use Rattle.rules_maps.specs.Nodes.{Event}
use Rattle.rules_tcc.specs.Rows.{e, d, c0, v}
use Rattle.rules_tcc.specs.State.{World, start as protocol_start}
use Rattle.rules_tcc.specs.Step.{run}
use Rattle.rules_phases.specs.Phased.{phased_from}

-- two cores, one directory and four lines
abbrev pub settings : Settings
settings = record { cores = 2; dirs = 1; sets = 1; ways = 1; base = 0x80000000; ram = 128 }

-- addi x27,x0,3; ecall, which ends the transaction; ecall
abbrev pub third_phase_file : List ℕ
third_phase_file = 0x93 ∷ 0x0d ∷ 0x30 ∷ 0x00 ∷ 0x73 ∷ 0x00 ∷ 0x00 ∷ 0x00 ∷ 0x73 ∷ 0x00 ∷ 0x00 ∷ 0x00 ∷ []

abbrev pub third_phase : Start
third_phase = start settings (raw_images settings.base (third_phase_file ∷ []))

-- all cores at their entries
abbrev pub at_entries : World
at_entries = protocol_start (λ c. start_local settings.cores c (third_phase.entry c)) (first_ram third_phase)

abbrev pub RunsByPhases : List Event → Bool → Type 0
RunsByPhases es b = is_some (phased_from third_phase es (record { world = at_entries; commits = [] })) ≡ b

-- the first core has committed once, goes on in phase 3, and asks for a TID again
abbrev pub first_asks_again : List Event
first_asks_again = e 0 ∷ e 0 ∷ d c0 v 0 ∷ d v c0 0 ∷ e 0 ∷ e 0 ∷ []

-- its request is held back, as the second core is in phase 0; the rules alone would grant it
abbrev pub SecondHoldsBack : Type 0
SecondHoldsBack =
    RunsByPhases first_asks_again true
    × RunsByPhases (first_asks_again ++ d c0 v 1 ∷ []) false
    × (is_some (run settings (program third_phase) at_entries (first_asks_again ++ d c0 v 1 ∷ [])) ≡ true)

abbrev pub HeldAre : Type 0
HeldAre = SecondHoldsBack
