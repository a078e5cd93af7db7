-- What the code's needs stand for, and what holds of each need that a plan gives.
use Rattle.std.specs.Prelude.{◌%◌, ◌^◌, ◌<◌, ◌≡◌, ◌==◌, ◌||◌, IsTrue}
use Rattle.rv_exec.specs.declared.need.Need.{Need as CodeNeed}
use Rattle.rv_exec.specs.declared.need.Need.TheVariants as code
use Rattle.rv_exec.specs.Operations.{amo_result}
use Rattle.tcc_base.specs.Bytes.{bytes_of}
use Rattle.rules_program.specs.Program.{Need, Nothing, Loads, Stores, Changes, Prints, Ends, Halts, Traps}

abbrev pub need_of : CodeNeed → Need
need_of code.Nothing = Nothing
need_of (code.Load addr size) = Loads addr size
need_of (code.Store addr size value) = Stores addr size value
need_of (code.Amo addr op value) = Changes addr (λ old. amo_result op old value)
need_of (code.Console byte) = Prints byte
need_of code.End = Ends
need_of (code.Halt status) = Halts status
need_of (code.Trap cause) = Traps cause

-- an access is aligned, a stored value is no longer than the access, and the causes of traps that need no memory to be
-- known are: misaligned instruction, breakpoint, misaligned load, misaligned store and environment call
-- (RISC-V Privileged ISA, mcause)
abbrev pub IsPlanned : CodeNeed → Type 0
IsPlanned code.Nothing = Unit {0}
IsPlanned (code.Load addr size) = addr % bytes_of size ≡ 0
IsPlanned (code.Store addr size value) = (addr % bytes_of size ≡ 0) × (value < 256 ^ bytes_of size)
IsPlanned (code.Amo addr op value) = addr % 4 ≡ 0
IsPlanned (code.Console byte) = Unit {0}
IsPlanned code.End = Unit {0}
IsPlanned (code.Halt status) = Unit {0}
IsPlanned (code.Trap cause) = IsTrue (cause == 0 || cause == 3 || cause == 4 || cause == 6 || cause == 11)
