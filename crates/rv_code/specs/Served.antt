-- What a need asks of a memory.
use Rattle.std.specs.Prelude.{ℕ, ◌+◌, ◌%◌, ◌≤◌, ◌≡◌}
use Rattle.rv_exec.specs.declared.need.Need.{Need as CodeNeed}
use Rattle.rv_exec.specs.declared.need.Need.TheVariants as need
use Rattle.tcc_base.specs.Bytes.{bytes_of}

-- an access lies in RAM
abbrev pub Lies : (base ram addr size : ℕ) → Type 0
Lies base ram addr size = (base ≤ addr) × (addr + size ≤ base + ram)

-- what a need asks of a RAM of so many bytes: that its access lies there and is aligned
abbrev pub IsServed : (base ram : ℕ) → CodeNeed → Type 0
IsServed base ram need.Nothing = Unit {0}
IsServed base ram (need.Load addr size) = Lies base ram addr (bytes_of size) × (addr % bytes_of size ≡ 0)
IsServed base ram (need.Store addr size value) = Lies base ram addr (bytes_of size) × (addr % bytes_of size ≡ 0)
IsServed base ram (need.Amo addr op value) = Lies base ram addr 4 × (addr % 4 ≡ 0)
IsServed base ram (need.Console byte) = Unit {0}
IsServed base ram need.End = Unit {0}
IsServed base ram (need.Halt c) = Unit {0}
IsServed base ram (need.Trap c) = Unit {0}
