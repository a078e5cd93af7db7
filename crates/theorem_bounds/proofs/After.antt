-- The laws as a machine's code cites them: of the state that a run has led to, and as widths of numbers.
use Rattle.std.specs.Prelude.{ℕ, ◌^◌, ◌≡◌, ◌<◌, ◌≤◌, List, length, Some}
use Rattle.std.proofs.Common.{arith}
use Rattle.std.proofs.lemmas.Nat.{mul-le}
use Rattle.image_load.specs.Start.{Start}
use Rattle.rv_code.specs.Machine.{program}
use Rattle.tcc_base.specs.Limits.{run_limit}
use Rattle.tcc_base.specs.Settings.{IsAllowed}
use Rattle.rules_program.specs.Program.{Local, Program}
use Rattle.rules_maps.specs.Nodes.{Node, Event}
use Rattle.rules_maps.specs.Shape.{Shape}
use Rattle.rules_tcc.specs.State.{start}
use Rattle.rules_tcc.specs.Step.{History, run}
use Rattle.theorem_serial.specs.InMemory.{StaysInMemory}
use Rattle.rules_riscv.specs.Starting.{world_at_start}
use Rattle.theorem_bounds.specs.Bounds.{IsBounded, most_sent}
use Rattle.rules_maps.specs.Messages.{WasGranted}
use Rattle.theorem_bounds.proofs.Bounded.{runs_are_bounded}
use Rattle.theorem_bounds.proofs.Riscv.{riscv_runs_are_bounded}

pub bounded_after : (sh : Shape) (p : Program) (entries : ℕ → Local) (ram : ℕ → ℕ) (es : List Event) (h : History) → 1 ≤ sh.dirs
    → StaysInMemory sh p → run sh p (start entries ram) es ≡ Some h → IsBounded sh es h
bounded_after sh p entries ram es h d i e = rw e at (runs_are_bounded sh p entries ram es d i)

pub riscv_bounded_after : (s : Start) (es : List Event) (h : History) → IsAllowed s.settings
    → run s.settings (program s) (world_at_start s) es ≡ Some h → IsBounded s.settings es h
riscv_bounded_after s es h k e = rw e at (riscv_runs_are_bounded s es k)

-- a TID that was granted is at most the number of events
pub granted_most : (sh : Shape) (es : List Event) (h : History) (t : ℕ) → IsBounded sh es h → WasGranted h.world.next t → t ≤ length es
granted_most sh es h t b w = omega (arith, b.next_most, w.1)

-- after as many events as a schedule may have, 2 ^ 22, in the largest memory, a link is shorter than 2 ^ 43
pub link_short : (sh : Shape) (es : List Event) (h : History) (src dst : Node) → IsAllowed sh → IsBounded sh es h
    → length es ≤ run_limit → length (h.world.net src dst) < 2 ^ 43
link_short sh es h src dst k b i =
    let (cores, dirs, sets, ways, ram, base) = k in
    let r = ram.1 in
    omega (arith, b.links src dst, mul-le (length es) (most_sent sh) run_limit 1048578 i (omega (arith, r)))
