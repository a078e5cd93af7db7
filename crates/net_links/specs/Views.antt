-- The two ends of a link as plain data.
use Rattle.std.specs.Prelude.{List}
use Rattle.std.specs.declared.alloc.Global.{Global}
use Rattle.crossbeam_queue.specs.SegTies.{SegId}
use Rattle.rules_apart.specs.declared.logs.Mail.{Mail}
use Rattle.net_links.specs.declared.rule.Ends.{Ends}

-- what tells one link from another
abbrev pub LinkId : Type 0
LinkId = SegId Global

-- an outlet: its link, from which node to which that goes, and all that was sent on it
pub record OutletData : Type 0 where
  pub link : LinkId
  pub ends : Ends
  pub sent : List Mail

-- an inlet, and all that was taken from it
pub record InletData : Type 0 where
  pub link : LinkId
  pub ends : Ends
  pub got : List Mail
