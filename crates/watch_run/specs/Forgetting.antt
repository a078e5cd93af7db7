-- A machine that forgets commits, beside the rules' history, which keeps them all.
use Rattle.std.specs.Prelude.{ℕ, ◌≡◌, ◌<◌, ◌≤◌}
use Rattle.rules_maps.specs.Shape.{Shape}
use Rattle.rules_tcc.specs.Step.{History}
use Rattle.net_core.specs.Machine.{Machine, history_of, settings_of, world_of}
use Rattle.watch.specs.Messages.{commit_of}

-- the state is the history's, and of each TID that some directory hasn't passed, so is the commit
pub record IsKeptOf (sh : Shape) (kept h : History) : Type 0 where
  pub world : kept.world ≡ h.world
  pub commits :
      (d t : ℕ) → d < sh.dirs → (h.world.dirs d).serving.serving ≤ t → commit_of t kept.commits ≡ commit_of t h.commits

-- no event is taken, and what was kept of a history is kept still
pub record StillKeeps (old new : Machine) : Type 0 where
  pub keeps : (h : History) → IsKeptOf (settings_of old) (history_of old) h → IsKeptOf (settings_of old) (history_of new) h
  pub world : world_of new ≡ world_of old
  pub unsent : new.unsent ≡ old.unsent
  pub events : new.events ≡ old.events
  pub code : new.cores.code ≡ old.cores.code
