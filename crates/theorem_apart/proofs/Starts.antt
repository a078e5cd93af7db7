-- Before its first event a node is in bounds.
use Rattle.std.specs.Prelude.{ℕ, ◌+◌, ◌≡◌, ◌<◌}
use Rattle.std.proofs.Common.{arith, refl}
use Rattle.std.proofs.lemmas.Bool.Decides.{nat_tests}
use Rattle.image_load.specs.Start.{first_ram}
use Rattle.rules_riscv.specs.Starting.{local_at_start}
use Rattle.rules_program.specs.Program.{Local}
use Rattle.rules_maps.specs.Lines.{no_lines}
use Rattle.rules_maps.specs.Nodes.{Core, Dir, Vendor}
use Rattle.rules_maps.specs.Serving.{first_serving}
use Rattle.rules_maps.specs.Shape.{Shape}
use Rattle.rules_tcc.specs.State.{start, core_start, dir_start, vendor_start}
use Rattle.theorem_serial.specs.Tids.{has_tid}
use Rattle.theorem_serial.proofs.Lemmas.{start-cores, start-memory}
use Rattle.theorem_bounds.specs.Bounds.{AttemptCounted}
use Rattle.theorem_bounds.proofs.Lemmas.{none}
use Rattle.theorem_apart.specs.Apart.{CoreApart, DirApart}
use Rattle.theorem_apart.specs.Laws.{NodesStartInBounds, RiscvNodesStartInBounds}
use Rattle.theorem_apart.proofs.Cores.{core-apart}
use Rattle.theorem_apart.proofs.sends.Timely.{HasTids}

no-tid : (entries : ℕ → Local) (ram : ℕ → ℕ) (c : ℕ) → HasTids ((start entries ram).cores c)
unfolding start core_start has_tid
no-tid entries ram c t e = absurd (cc)

no-instruction : (entries : ℕ → Local) (ram : ℕ → ℕ) (c : ℕ) → AttemptCounted 0 ((start entries ram).cores c)
unfolding start core_start
no-instruction entries ram c = none 0

start-core : (sh : Shape) (entries : ℕ → Local) (ram : ℕ → ℕ) (c : ℕ) → c < sh.cores → CoreApart sh 0 c ((start entries ram).cores c)
start-core sh entries ram c l = core-apart sh 0 c ((start entries ram).cores c) l (no-instruction entries ram c) (no-tid entries ram c)
    (start-cores sh entries ram c) ((start-memory sh entries ram).cores c)

start-dir : (sh : Shape) (entries : ℕ → Local) (ram : ℕ → ℕ) (d : ℕ) → d < sh.dirs → DirApart sh d ((start entries ram).dirs d)
unfolding start dir_start no_lines first_serving
start-dir sh entries ram d l = record {
  exists = l;
  serves = omega arith;
  owners = λ l c e. absurd (cc);
  marked = λ l e. absurd (cc);
}

start-vendor : (entries : ℕ → Local) (ram : ℕ → ℕ) → (start entries ram).next ≡ 0 + 1
unfolding start vendor_start
start-vendor entries ram = refl

pub nodes_start : NodesStartInBounds
nodes_start sh entries ram (Core c) e = start-core sh entries ram c (grind (arith, nat_tests))
nodes_start sh entries ram (Dir d) e = start-dir sh entries ram d (grind (arith, nat_tests))
nodes_start sh entries ram Vendor e = start-vendor entries ram

pub riscv_nodes_start : RiscvNodesStartInBounds
riscv_nodes_start s n e = nodes_start s.settings (local_at_start s) (first_ram s) n e
