-- What a node knows of a message that a link brings it.
use Rattle.std.specs.Prelude.{ℕ, ◌^◌, ◌≡◌, ◌<◌, true, IfSome}
use Rattle.rules_maps.specs.Nodes.{Node, Msg}
use Rattle.rules_maps.specs.Shape.{Shape, home, lines}
use Rattle.rules_tcc.specs.Step.{is_node}
use Rattle.rules_maps.specs.Messages.{goes_to_dir, line_named, tid_named}

-- The machine has both ends of the link.
pub record JoinsNodes (sh : Shape) (src dst : Node) : Type 0 where
  pub source : is_node sh src ≡ true
  pub destination : is_node sh dst ≡ true

-- a message that comes from core c to directory d
pub record BroughtToDir (sh : Shape) (c d : ℕ) (m : Msg) : Type 0 where
  -- The machine has both.
  pub core : c < sh.cores
  pub dir : d < sh.dirs
  -- It is of a kind that goes to directories.
  pub kind : goes_to_dir m ≡ true
  -- A line that it names is one of memory, at home there.
  pub line : IfSome (line_named m) (λ l. (l < lines sh) × (home sh l ≡ d))
  -- A TID of which it speaks is one that can be given.
  pub tid : IfSome (tid_named m) (λ t. t < 2 ^ 62)
