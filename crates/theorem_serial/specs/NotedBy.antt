-- Which cores the commits are by.
use Rattle.std.specs.Prelude.{ℕ, Bool, List, IfSome, map, nat_lt}
use Rattle.tcc_base.specs.declared.access.Commit.{Commit as Noted}
use Rattle.rules_program.specs.Cores.{AreBy}
use Rattle.rules_program.specs.Orders.{order_of_commit}
use Rattle.rules_program.specs.Program.{Local, Program}
use Rattle.rules_maps.specs.Nodes.{Event}
use Rattle.rules_maps.specs.Shape.{Shape}
use Rattle.rules_tcc.specs.State.{start}
use Rattle.rules_tcc.specs.Step.{run}

abbrev pub is_core : Shape → (core : ℕ) → Bool
is_core sh c = nat_lt c sh.cores

-- each commit is by a core of the machine
abbrev pub AreByCores : Shape → List Noted → Type 0
AreByCores sh cs = AreBy (is_core sh) (map order_of_commit cs)

-- So it is after every run.
abbrev pub CommitsAreByCores : Type 0
CommitsAreByCores =
    (sh : Shape) (p : Program) (entries : ℕ → Local) (ram : ℕ → ℕ) (es : List Event)
    → IfSome (run sh p (start entries ram) es) (λ h. AreByCores sh h.commits)
