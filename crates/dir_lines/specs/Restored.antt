-- A record in the place of all that is known of a line, which records a machine can have, and of which lines nothing is known.
use Rattle.std.specs.Prelude.{ℕ, ◌≡◌, ◌<◌, Bool, true, false, Option, None, IfSome, option_map}
use Rattle.rules_maps.specs.Words.{put}
use Rattle.rules_maps.specs.Masks.{has}
use Rattle.rules_maps.specs.Lines.{Lines}
use Rattle.dir_lines.specs.Record.{Record}

unfoldable pub with_record : ℕ → Record → Lines → Lines
with_record l r d = record {
  sharers = put d.sharers l (has r.sharers.0);
  owner = put d.owner l (option_map (λ c. c.0) r.owner);
  tag = put d.tag l r.tag.0;
  asked = put d.asked l r.asked;
  mark = put d.mark l r.mark.0;
}

-- these sharers and this owner are among the first n cores
abbrev pub HasCores : (n : ℕ) → (ℕ → Bool) → Option ℕ → Type 0
HasCores n sharers owner = ((c : ℕ) → sharers c ≡ true → c < n) × IfSome owner (λ c. c < n)

-- those of a record, and those of a line
abbrev pub RecordFits : (cores : ℕ) → Record → Type 0
RecordFits n r = HasCores n (has r.sharers.0) (option_map (λ c. c.0) r.owner)

abbrev pub LineFits : (cores : ℕ) → Lines → (line : ℕ) → Type 0
LineFits n d l = HasCores n (d.sharers l) (d.owner l)

-- nothing is known of the line
pub record IsUnknown (d : Lines) (l : ℕ) : Type 0 where
  pub sharers : (c : ℕ) → d.sharers l c ≡ false
  pub owner : d.owner l ≡ None
  pub tag : d.tag l ≡ 0
  pub asked : d.asked l ≡ false
  pub mark : d.mark l ≡ 0
