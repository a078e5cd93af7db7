-- What holds of each core by itself, whatever messages come.
use Rattle.std.specs.Prelude.{ℕ, ◌≡◌, ◌≤◌, Bool, true, false, ◌||◌, List, [], Some, None, is_some}
use Rattle.tcc_base.specs.declared.access.Stored.{Stored}
use Rattle.rules_maps.specs.Words.{line_of}
use Rattle.rules_maps.specs.Shape.{Shape}
use Rattle.rules_maps.specs.Cache.{Cache, IsCache}
use Rattle.rules_maps.specs.Spilled.{Spilled}
use Rattle.rules_tcc.specs.State.{CoreState, Awaited, Phase, Running, DoomedTid, Probing, Overflowing, Solo, Halted, World}
use Rattle.rules_tcc.specs.Attempt.{is_solo}
use Rattle.theorem_serial.specs.Uses.{stores_word}

-- a core executes in this phase
abbrev pub executes : Phase → Bool
executes Running = true
executes (Solo t) = true
executes _ = false

-- directories may owe a reply in this phase
abbrev pub awaits_replies : Phase → Bool
awaits_replies (Probing t) = true
awaits_replies (Overflowing (Some t)) = true
awaits_replies _ = false

-- there is no attempt in this phase
abbrev pub rests : Phase → Bool
rests DoomedTid = true
rests Halted = true
rests _ = false

-- The words of an attempt: words are spilled only where the core is alone, and then none is marked read; the modified and the
-- spilled words are those that the stores name; and of a line with a spilled word nothing is modified or dirty in a frame.
pub record Words (sh : Shape) (solo : Bool) (c : Cache) (sp : Spilled) (stores : List Stored) : Type 0 where
  pub cache : IsCache sh c
  pub spilled_alone : solo ≡ false → (w : ℕ) → sp w ≡ None
  pub unread_alone : solo ≡ true → (w : ℕ) → c.read w ≡ false
  pub named : (w : ℕ) → (c.modified w || is_some (sp w)) ≡ stores_word sh.base stores w
  pub clean : (v w : ℕ) → line_of v ≡ line_of w → is_some (sp v) ≡ true → (c.modified w ≡ false) × (c.dirty w ≡ None)

-- an attempt that has not begun
pub record Empty (s : CoreState) : Type 0 where
  pub n : s.n ≡ 0
  pub loads : s.loads ≡ []
  pub stores : s.stores ≡ []
  pub console : s.console ≡ []
  pub unread : (w : ℕ) → s.cache.read w ≡ false
  pub unmodified : (w : ℕ) → s.cache.modified w ≡ false

-- and: an awaited line has a frame, in a core that executes; a directory owes a reply only while the core waits for replies, and only one
-- that the machine has; and
-- a core that was doomed or has halted has no attempt
pub record OneCore (sh : Shape) (s : CoreState) : Type 0 where
  pub words : Words sh (is_solo s.phase) s.cache s.spilled s.stores
  pub awaited : (a : Awaited) → s.awaited ≡ Some a → (executes s.phase ≡ true) × (s.cache.held a.line ≡ true)
  pub owing : (d : ℕ) → awaits_replies s.phase ≡ false → s.owing d ≡ false
  pub owers : (d : ℕ) → sh.dirs ≤ d → s.owing d ≡ false
  pub rested : rests s.phase ≡ true → Empty s

abbrev pub KeptCores : Shape → World → Type 0
KeptCores sh w = (c : ℕ) → OneCore sh (w.cores c)
