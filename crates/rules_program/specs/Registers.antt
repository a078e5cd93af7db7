-- The integer registers: a list of 32 words, the first of which is x0 (RISC-V Unprivileged ISA, 2.1).
use Rattle.std.specs.Prelude.{ℕ, List, replicate, slice_index, slice_set, ◌==◌, if◌then◌else◌}

unfoldable pub zeroed : List ℕ
zeroed = replicate 32 0

unfoldable pub register : List ℕ → ℕ → ℕ
register regs r = slice_index regs r

-- x0 ignores writes
unfoldable pub written : List ℕ → ℕ → ℕ → List ℕ
written regs r v = (if r == 0 then regs else slice_set regs r v)
