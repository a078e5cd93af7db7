-- Digests, by which states are found: numbers of 64 bits that are mixed of all that a state holds.
use Rattle.std.specs.Prelude.{ℕ, zero, suc, ◌+◌, ◌*◌, ◌%◌, ◌^◌, List, bit_xor}
use Rattle.std.specs.Int.{rotate_left, w64}
use Rattle.std.specs.List.{fold}
use Rattle.run_outcomes.specs.declared.states.Snapshot.{Snapshot}
use Rattle.rv_plain.specs.declared.plain.CoreState.{CoreState}
use Rattle.tcc_base.specs.declared.access.CoreEnd.{CoreEnd}
use Rattle.tcc_base.specs.declared.access.CoreEnd.TheVariants.{Run, Halt, Trap}
use Rattle.rules_program.specs.Registers.{register}

-- a further number is mixed into a digest
unfoldable pub mixed : (sum more : ℕ) → ℕ
mixed sum more = (bit_xor (rotate_left w64 sum 5) more * 0x517c_c1b7_2722_0a95) % 2 ^ 64

-- the first n registers are mixed into a digest
unfoldable pub mixed_registers : List ℕ → (sum n : ℕ) → ℕ
mixed_registers regs sum zero = sum
mixed_registers regs sum (suc n) = mixed (mixed_registers regs sum n) (register regs n)

unfoldable pub mixed_bytes : (sum : ℕ) → List ℕ → ℕ
mixed_bytes sum bytes = fold (λ s byte. mixed s byte) sum bytes

abbrev pub end_digest : CoreEnd → ℕ
end_digest Run = 0
end_digest (Halt code) = 1 + code
end_digest (Trap cause) = 1 + 2 ^ 32 + cause

unfoldable pub core_digest : CoreState → ℕ
core_digest core =
    mixed_bytes (mixed_registers core.state.regs (mixed core.state.pc (end_digest core.ended)) 32) core.console

unfoldable pub mixed_cores : List CoreState → ℕ
mixed_cores cores = fold (λ s core. mixed s (core_digest core)) 0 cores

unfoldable pub mixed_changes : (sum : ℕ) → List (ℕ × ℕ) → ℕ
mixed_changes sum changes = fold (λ s change. mixed (mixed s change.0) change.1) sum changes

-- the digest of a state
unfoldable pub state_digest : Snapshot → ℕ
state_digest s = mixed_changes (mixed_cores s.cores) s.changes
