-- Two images whose phases are computed: in one the second core goes on to phase 1 after its first transaction, in the other x27 falls.
use Rattle.std.specs.Prelude.{ℕ, ◌≡◌, List, [], ◌∷◌, ◌++◌, true, false, is_some, option_map, Some}
use Rattle.image_load.specs.Raw.{raw_images}
use Rattle.image_load.specs.Start.{Start, start}
use Rattle.rv_code.specs.Machine.{program}
use Rattle.rv_plain.specs.Machine.{plain_start}
use Rattle.tcc_base.specs.Settings.{Settings}
use Rattle.rules_maps.specs.Nodes.{Event}
use Rattle.rules_program.specs.Plain.{Order}
use Rattle.rules_tcc.specs.Rows.{e, d, c0, c1, d0, v}
use Rattle.rules_tcc.specs.Step.{run}
use Rattle.rules_riscv.specs.Starting.{world_at_start, at_start}
use Rattle.rules_phases.specs.Phased.{phased_from}
use Rattle.rules_phases.specs.Phases.{phase_of, phases_of, phases_along}

-- two cores, one directory and four lines
abbrev pub settings : Settings
settings = record { cores = 2; dirs = 1; sets = 1; ways = 1; base = 0x80000000; ram = 128 }

-- add x27,x0,x10, which is the core's number; ecall, which ends the transaction; ecall; addi x17,x0,93; ecall, which halts
abbrev pub numbered_file : List ℕ
numbered_file =
    0xb3 ∷ 0x0d ∷ 0xa0 ∷ 0x00 ∷ 0x73 ∷ 0x00 ∷ 0x00 ∷ 0x00 ∷ 0x73 ∷ 0x00 ∷ 0x00 ∷ 0x00 ∷
    0x93 ∷ 0x08 ∷ 0xd0 ∷ 0x05 ∷ 0x73 ∷ 0x00 ∷ 0x00 ∷ 0x00 ∷ []

-- addi x27,x0,3; ecall; addi x27,x0,1; ecall; addi x17,x0,93; ecall
abbrev pub falling_file : List ℕ
falling_file =
    0x93 ∷ 0x0d ∷ 0x30 ∷ 0x00 ∷ 0x73 ∷ 0x00 ∷ 0x00 ∷ 0x00 ∷ 0x93 ∷ 0x0d ∷ 0x10 ∷ 0x00 ∷
    0x73 ∷ 0x00 ∷ 0x00 ∷ 0x00 ∷ 0x93 ∷ 0x08 ∷ 0xd0 ∷ 0x05 ∷ 0x73 ∷ 0x00 ∷ 0x00 ∷ 0x00 ∷ []

abbrev pub numbered : Start
numbered = start settings (raw_images settings.base (numbered_file ∷ []))

abbrev pub falling : Start
falling = start settings (raw_images settings.base (falling_file ∷ []))

-- phases of transactions

abbrev pub order : (tid core n : ℕ) → Order
order t c n = record { tid = t; core = c; n = n }

abbrev pub phases_from_start : Start → List Order → List ℕ
phases_from_start s os = (phases_along s.settings.base (program s) (λ c. 0) os (plain_start s)).each

-- each core begins in phase 0, and the second core goes on in phase 1
abbrev pub GoesOn : Type 0
GoesOn =
    phases_from_start numbered (order 1 0 2 ∷ order 2 1 2 ∷ order 3 1 1 ∷ order 4 0 1 ∷ order 5 1 2 ∷ order 6 0 2 ∷ [])
    ≡ 0 ∷ 0 ∷ 1 ∷ 0 ∷ 1 ∷ 0 ∷ []

-- the third transaction begins with 1 in x27, and stays in phase 3
abbrev pub StaysInPhase : Type 0
StaysInPhase = phases_from_start falling (order 1 0 2 ∷ order 2 0 2 ∷ order 3 0 2 ∷ []) ≡ 0 ∷ 3 ∷ 3 ∷ []

-- runs by phases

-- the second core has committed once, and asks for a TID again
abbrev pub asks_again : List Event
asks_again = e 1 ∷ e 1 ∷ d c1 v 0 ∷ d v c1 0 ∷ e 1 ∷ e 1 ∷ []

abbrev pub InPhaseOne : Type 0
InPhaseOne = option_map (λ h. phase_of numbered h 1) (phased_from numbered asks_again (at_start numbered)) ≡ Some 1

-- its request is held back, as the first core is in phase 0; the rules alone would grant it
abbrev pub HeldBack : Type 0
HeldBack =
    (is_some (phased_from numbered (asks_again ++ d c1 v 1 ∷ []) (at_start numbered)) ≡ false)
    × (is_some (run settings (program numbered) (world_at_start numbered) (asks_again ++ d c1 v 1 ∷ [])) ≡ true)

-- a whole run of both cores
abbrev pub both_halt : List Event
both_halt =
    e 0 ∷ e 0 ∷ d c0 v 0 ∷ e 1 ∷ d v c0 0 ∷ d c0 d0 0 ∷ e 0 ∷ e 0 ∷ e 1 ∷ d c0 v 1 ∷ d v c0 1 ∷
    d c1 v 0 ∷ d c0 d0 1 ∷ e 0 ∷ d v c1 0 ∷ e 1 ∷ e 0 ∷ e 1 ∷ d c1 d0 0 ∷ e 0 ∷ d c0 v 2 ∷ d v c0 2 ∷
    d c0 d0 2 ∷ e 0 ∷ d c1 v 1 ∷ d v c1 1 ∷ e 1 ∷ d c1 d0 1 ∷ e 1 ∷ e 1 ∷ d c1 v 2 ∷ d v c1 2 ∷ e 1 ∷
    d c1 d0 2 ∷ []

abbrev pub BothHalt : Type 0
BothHalt =
    option_map (λ h. phases_of numbered h) (phased_from numbered both_halt (at_start numbered))
    ≡ Some (0 ∷ 0 ∷ 0 ∷ 0 ∷ 1 ∷ 1 ∷ [])
