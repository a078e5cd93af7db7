-- The commits that a machine forgets: those that every directory has passed.
use Rattle.std.specs.Prelude.{ℕ, ◌≡◌, ◌<◌, ◌≤◌}
use Rattle.machine_commits.specs.Forgetting.{Forgets}
use Rattle.net_core.specs.Machine.{Machine, settings_of, world_of}

-- the TID that a directory serves
abbrev pub served : Machine → (dir : ℕ) → ℕ
served m d = ((world_of m).dirs d).serving.serving

-- one of the first directories, so many, serves this TID, and none of them a smaller one
pub record IsLeast (m : Machine) (dirs tid : ℕ) : Type 0 where
  pub dir : ℕ
  pub exists : dir < dirs
  pub own : served m dir ≡ tid
  pub all : (d : ℕ) → d < dirs → tid ≤ served m d

-- the commits of TIDs below all that the directories serve were forgotten, and no others
pub record Forgot (old new : Machine) : Type 0 where
  pub tid : ℕ
  pub least : IsLeast old (settings_of old).dirs tid
  pub forgets : Forgets tid old.commits new.commits
