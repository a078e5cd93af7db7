-- Links carry only what their ends say to one another, and only between nodes that the machine has.
use Rattle.std.specs.Prelude.{ℕ, ◌≡◌, ◌<◌, ◌≤◌, true, List, Some, IfSome}
use Rattle.rules_program.specs.Program.{Local, Program}
use Rattle.rules_maps.specs.Messages.{fits}
use Rattle.rules_maps.specs.Nodes.{Node, Event, Msg}
use Rattle.rules_maps.specs.Shape.{Shape}
use Rattle.rules_tcc.specs.State.{World, start}
use Rattle.rules_tcc.specs.Links.{in_flight}
use Rattle.rules_tcc.specs.Step.{run}

-- every message in flight fits its link
abbrev pub LinksFit : Shape → World → Type 0
LinksFit sh w = (src dst : Node) (k : ℕ) (m : Msg) → in_flight w.net src dst k ≡ Some m → fits sh src dst m ≡ true

-- and each line's owner is a core of the machine, and each directory serves a TID
pub record KeptFits (sh : Shape) (w : World) : Type 0 where
  pub links : LinksFit sh w
  pub owners : (d l c : ℕ) → (w.dirs d).lines.owner l ≡ Some c → c < sh.cores
  pub serves : (d : ℕ) → 1 ≤ (w.dirs d).serving.serving

-- So it is in every state that a run reaches, where there is a directory.
abbrev pub LinksFitAlways : Type 0
LinksFitAlways = (sh : Shape) (p : Program) (entries : ℕ → Local) (ram : ℕ → ℕ) (es : List Event) → 1 ≤ sh.dirs
    → IfSome (run sh p (start entries ram) es) (λ h. KeptFits sh h.world)
