-- Two RISC-V images of eight instructions whose run on two cores is computed: both count in the word at 80000040, by the schedule in
-- which the first core goes on alone and the second is violated.
use Rattle.std.specs.Prelude.{ℕ, ◌≡◌, List, [], ◌∷◌, ◌++◌, replicate, Some, None, option_map}
use Rattle.image_load.specs.Raw.{raw_images, raw_fault}
use Rattle.image_load.specs.Start.{Start, start, first_ram}
use Rattle.rv_code.specs.Machine.{program}
use Rattle.tcc_base.specs.Settings.{IsAllowed}
use Rattle.tcc_base.specs.declared.access.CoreEnd.TheVariants.{Halt}
use Rattle.rules_program.specs.Plain.{PlainCore}
use Rattle.rules_tcc.specs.Step.{run}
use Rattle.theorem_serial.specs.Counter.{two_cores, whole_schedule, three_commits}
use Rattle.theorem_serial.specs.Shown.{shown}
use Rattle.rules_riscv.specs.Starting.{world_at_start}

-- lui x6,0x80000; lw x5,64(x6); addi x5,x5,1; sw x5,64(x6); sw x5,96(x6); ecall, which ends the transaction; addi x17,x0,93; ecall,
-- which halts
abbrev pub first_file : List ℕ
first_file =
    0x37 ∷ 0x03 ∷ 0x00 ∷ 0x80 ∷ 0x83 ∷ 0x22 ∷ 0x03 ∷ 0x04 ∷ 0x93 ∷ 0x82 ∷ 0x12 ∷ 0x00 ∷ 0x23 ∷ 0x20 ∷ 0x53 ∷ 0x04 ∷
    0x23 ∷ 0x20 ∷ 0x53 ∷ 0x06 ∷ 0x73 ∷ 0x00 ∷ 0x00 ∷ 0x00 ∷ 0x93 ∷ 0x08 ∷ 0xd0 ∷ 0x05 ∷ 0x73 ∷ 0x00 ∷ 0x00 ∷ 0x00 ∷ []

-- lui x6,0x80000; lw x5,64(x6); addi x5,x5,1; sw x5,64(x6); addi x17,x0,1; ecall, which prints x10; addi x17,x0,93; ecall, which halts
abbrev pub second_file : List ℕ
second_file =
    0x37 ∷ 0x03 ∷ 0x00 ∷ 0x80 ∷ 0x83 ∷ 0x22 ∷ 0x03 ∷ 0x04 ∷ 0x93 ∷ 0x82 ∷ 0x12 ∷ 0x00 ∷ 0x23 ∷ 0x20 ∷ 0x53 ∷ 0x04 ∷
    0x93 ∷ 0x08 ∷ 0x10 ∷ 0x00 ∷ 0x73 ∷ 0x00 ∷ 0x00 ∷ 0x00 ∷ 0x93 ∷ 0x08 ∷ 0xd0 ∷ 0x05 ∷ 0x73 ∷ 0x00 ∷ 0x00 ∷ 0x00 ∷ []

abbrev pub files : List (List ℕ)
files = first_file ∷ second_file ∷ []

abbrev pub counter_start : Start
counter_start = start two_cores (raw_images two_cores.base files)

-- the settings are allowed, and the files fit
abbrev pub ImagesAreLaid : Type 0
ImagesAreLaid = IsAllowed two_cores × (raw_fault two_cores 0 two_cores.base files ≡ None)

-- x6 is the base, x11 the number of cores, and x17 the call that halts
abbrev pub registers : (x5 x10 : ℕ) → List ℕ
registers x5 x10 = (replicate 5 0 ++ x5 ∷ two_cores.base ∷ replicate 3 0) ++ x10 ∷ 2 ∷ replicate 5 0 ++ 93 ∷ replicate 14 0

abbrev pub halted_core : (x5 x10 pc : ℕ) → (console : List ℕ) → PlainCore
halted_core x5 x10 pc console = record {
  local = record { regs = registers x5 x10; pc = pc; reserved = None };
  ended = Halt x10;
  console = console;
}

abbrev pub ImageCounts : Type 0
ImageCounts =
    option_map (shown two_cores (first_ram counter_start))
    (run two_cores (program counter_start) (world_at_start counter_start) whole_schedule)
    ≡ Some (record {
      commits = three_commits;
      cores = halted_core 1 0 0x8000001c [] ∷ halted_core 2 1 0x8000003c (1 ∷ []) ∷ [];
      words = (16, 2) ∷ (24, 1) ∷ [];
    })
