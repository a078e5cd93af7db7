-- Which messages of a machine wait, and why.
use Rattle.std.specs.Prelude.{ℕ, ◌≡◌, true, not, Option, Some, None, is_some}
use Rattle.directory.specs.Gives.{is_taken}
use Rattle.rules_maps.specs.Messages.{goes_to_dir}
use Rattle.rules_maps.specs.Nodes.{Node, Dir, Msg}
use Rattle.rules_maps.specs.Shape.{Shape}
use Rattle.rules_tcc.specs.DirDeliver.{dir_deliver}
use Rattle.rules_tcc.specs.Links.{in_flight}
use Rattle.rules_tcc.specs.State.{DirState, World}
use Rattle.live_core.specs.Reasons.{Reason, reason_of}

-- a core and the vendor take all that comes to them
abbrev pub reason_at : Shape → World → (dst : Node) → Option Msg → Option Reason
reason_at sh w (Dir d) (Some m) = reason_of sh (w.dirs d) m
reason_at _ _ _ _ = None

-- the reason for which the message of this name waits; None where none of this name is in flight
abbrev pub reason_in : Shape → World → (src dst : Node) → (k : ℕ) → Option Reason
reason_in sh w src dst k = reason_at sh w dst (in_flight w.net src dst k)

-- A directory takes what a core says to it exactly where there is no reason to wait.
abbrev pub ReasonsAreTheRules : Type 0
ReasonsAreTheRules = (sh : Shape) (s : DirState) (c : ℕ) (m : Msg) → goes_to_dir m ≡ true
    → is_taken (dir_deliver sh s c m) ≡ not (is_some (reason_of sh s m))
