-- What a directory does with words that come home: the tag on them tells whether they are of the line's last commit.
use Rattle.std.specs.Prelude.{ℕ, Bool, false, nat_lt, ◌==◌, ◌&&◌, Option, Some, None, if◌then◌else◌}

pub data Judgement : Type 0 where
  Current : Judgement  -- they are the line's last commit, from its owner
  Outdated : Judgement  -- they are of an earlier commit, or came already
  TooEarly : Judgement  -- they are of a commit that this directory has not heard of yet

-- the owner is this core
abbrev pub is_owner : Option ℕ → ℕ → Bool
is_owner None c = false
is_owner (Some o) c = o == c

unfoldable pub judge : Option ℕ → ℕ → ℕ → ℕ → Judgement
judge owner tag from back_tag =
    if nat_lt tag back_tag then TooEarly
    else if tag == back_tag && is_owner owner from then Current
    else Outdated
