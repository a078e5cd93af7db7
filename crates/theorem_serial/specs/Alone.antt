-- What holds of one core by itself, fact by fact.
use Rattle.std.specs.Prelude.{ℕ, ◌≡◌, ◌<◌, ◌≤◌, true, false, ◌||◌, None, is_some}
use Rattle.rules_maps.specs.Words.{any_below, line_of}
use Rattle.rules_maps.specs.Shape.{Shape}
use Rattle.rules_maps.specs.Cache.{Cache, writes_at, reads_at}
use Rattle.rules_tcc.specs.Attempt.{is_solo}
use Rattle.rules_tcc.specs.State.{CoreState}
use Rattle.theorem_attempt.specs.Follows.{Uses}
use Rattle.theorem_attempt.specs.Marks.{UsesStand, is_used}
use Rattle.theorem_serial.specs.OneCore.{awaits_replies, rests, Empty}
use Rattle.theorem_serial.specs.Probes.{asks_dir}

-- modified and dirty words are valid, and a frame has modified or dirty words, not both
pub record IsApart (c : Cache) : Type 0 where
  pub modified : (x : ℕ) → c.modified x ≡ true → is_some (c.value x) ≡ true
  pub dirty : (x : ℕ) → is_some (c.dirty x) ≡ true → is_some (c.value x) ≡ true
  pub either : (x y : ℕ) → line_of x ≡ line_of y → c.modified x ≡ true → c.dirty y ≡ None

-- a directory owes a reply only in a phase that waits for replies, only where the core asked it; and in such a phase some does
pub record OwingFits (sh : Shape) (s : CoreState) : Type 0 where
  pub asked : (d : ℕ) → s.owing d ≡ true → d < sh.dirs × (asks_dir s.phase (writes_at sh s.cache d || reads_at sh s.cache d) ≡ true)
  pub waits : (d : ℕ) → s.owing d ≡ true → awaits_replies s.phase ≡ true
  pub some : awaits_replies s.phase ≡ true → 1 ≤ sh.dirs → any_below s.owing sh.dirs ≡ true

-- words are spilled only where the core is alone, and then none is marked read; a core that is doomed or has halted has no attempt
pub record PhaseFits (s : CoreState) : Type 0 where
  pub spilled : is_solo s.phase ≡ false → (x : ℕ) → s.spilled x ≡ None
  pub unread : is_solo s.phase ≡ true → (x : ℕ) → s.cache.read x ≡ false
  pub rested : rests s.phase ≡ true → Empty s

-- until the core is alone the words marked read are those of the view, and such a word that isn't modified has the view's value
-- while it is valid
pub record ReadFits (s : CoreState) (us : Uses) : Type 0 where
  pub stand : UsesStand s.cache us s.phase
  pub used : is_solo s.phase ≡ false → (x : ℕ) → s.cache.read x ≡ true → is_used us x ≡ true
