-- What holds of each core by itself in every state that a run reaches: its cache, its spilled words and its marks fit its phase.
use Rattle.std.specs.Prelude.{ℕ, ◌≡◌, Bool, true, false, List, Option, Some, None, IfSome, is_some}
use Rattle.rules_program.specs.Program.{Local, Program}
use Rattle.rules_maps.specs.Words.{line_of}
use Rattle.rules_maps.specs.Nodes.{Event}
use Rattle.rules_maps.specs.Shape.{Shape}
use Rattle.rules_maps.specs.Cache.{Cache, IsCache}
use Rattle.rules_tcc.specs.State.{CoreState, Awaited, Phase, Running, AwaitTid, DoomedTid, Probing, Ready, Overflowing, Solo, Halted, start}
use Rattle.rules_tcc.specs.Attempt.{is_solo}
use Rattle.rules_tcc.specs.Step.{run}

-- the awaited line has a frame
abbrev pub AwaitsHeld : Cache → Option Awaited → Type 0
AwaitsHeld c None = Unit {0}
AwaitsHeld c (Some a) = c.held a.line ≡ true

-- the phases in which a core has no attempt
abbrev pub is_idle : Phase → Bool
is_idle DoomedTid = true
is_idle Halted = true
is_idle Running = false
is_idle AwaitTid = false
is_idle (Probing t) = false
is_idle (Ready t) = false
is_idle (Overflowing t) = false
is_idle (Solo t) = false

pub record SoundCore (sh : Shape) (s : CoreState) : Type 0 where
  pub cache : IsCache sh s.cache
  pub awaits : AwaitsHeld s.cache s.awaited
  -- only a core that is alone has spilled
  pub alone : is_solo s.phase ≡ false → (w : ℕ) → s.spilled w ≡ None
  -- a line with a spilled word has no modified and no dirty word in its frame
  pub apart : (v w : ℕ) → line_of v ≡ line_of w → is_some (s.spilled v) ≡ true → (s.cache.modified w ≡ false) × (s.cache.dirty w ≡ None)
  -- without an attempt there are no marks
  pub unmarked : is_idle s.phase ≡ true → (w : ℕ) → (s.cache.read w ≡ false) × (s.cache.modified w ≡ false)

abbrev pub CoresSound : Type 0
CoresSound = (sh : Shape) (p : Program) (entries : ℕ → Local) (ram : ℕ → ℕ) (es : List Event) →
    IfSome (run sh p (start entries ram) es) (λ h. (c : ℕ) → SoundCore sh (h.world.cores c))
