-- What a directory knows of each line that is at home there, as maps from the line.
use Rattle.std.specs.Prelude.{ℕ, Bool, false, Option, None, nat_lt}
use Rattle.rules_maps.specs.Words.{put, put_at}

pub record Lines : Type 0 where
  pub sharers : ℕ → ℕ → Bool  -- line, core
  pub owner : ℕ → Option ℕ
  pub tag : ℕ → ℕ  -- the TID of the last commit of the line, or 0
  pub asked : ℕ → Bool  -- the owner was asked for its data
  pub mark : ℕ → ℕ  -- the mask that the serving TID marked, or 0

unfoldable pub no_lines : Lines
no_lines = record {
  sharers = λ l c. false;
  owner = λ l. None;
  tag = λ l. 0;
  asked = λ l. false;
  mark = λ l. 0;
}

unfoldable pub with_sharer : ℕ → ℕ → Bool → Lines → Lines
with_sharer l c on d = record d { sharers = put_at d.sharers l c on }

unfoldable pub with_owner : ℕ → Option ℕ → Lines → Lines
with_owner l o d = record d { owner = put d.owner l o }

unfoldable pub with_tag : ℕ → ℕ → Lines → Lines
with_tag l t d = record d { tag = put d.tag l t }

unfoldable pub with_asked : ℕ → Bool → Lines → Lines
with_asked l on d = record d { asked = put d.asked l on }

unfoldable pub with_mark : ℕ → ℕ → Lines → Lines
with_mark l m d = record d { mark = put d.mark l m }

-- all marks are cleared
unfoldable pub unmarked : Lines → Lines
unmarked d = record d { mark = λ l. 0 }

-- the line is marked
abbrev pub has_mark : Lines → ℕ → Bool
has_mark d l = nat_lt 0 (d.mark l)
