-- What a core's marks say of its attempt: which words it used and stored, and which replies and fills it waits for.
use Rattle.std.specs.Prelude.{ℕ, ◌≡◌, ◌⊎◌, Bool, true, false, ◌==◌, ◌||◌, List, [], ◌∷◌, Option, Some, None, IfSome, nat_lt}
use Rattle.rules_program.specs.Program.{Local, Program}
use Rattle.rules_maps.specs.Nodes.{Event}
use Rattle.rules_maps.specs.Shape.{Shape}
use Rattle.rules_maps.specs.Cache.{Cache}
use Rattle.rules_tcc.specs.State.{CoreState, Phase, Running, AwaitTid, DoomedTid, Probing, Ready, Overflowing, Solo, Halted, start}
use Rattle.rules_tcc.specs.Step.{run}
use Rattle.theorem_attempt.specs.Follows.{Uses, Follows, Fits}
use Rattle.theorem_attempt.specs.Views.{no_views, views_from}

-- a used word that the attempt hasn't stored since has the value that it had, or, where that is allowed, is invalid
abbrev pub StillHas : (may_be_gone : Bool) → Option ℕ → ℕ → Type 0
StillHas false value x = value ≡ Some x
StillHas true value x = (value ≡ Some x) ⊎ (value ≡ None)

pub record UseStands (gone : Bool) (c : Cache) (w x : ℕ) : Type 0 where
  pub marked : c.read w ≡ true
  pub value : c.modified w ≡ false → StillHas gone (c.value w) x

abbrev pub AllStand : Bool → Cache → Uses → Type 0
AllStand gone c [] = Unit {0}
AllStand gone c (u ∷ us) = UseStands gone c u.0 u.1 × AllStand gone c us

-- before a TID is known an invalidation of a used word rolls back; with one it may leave the word invalid; alone there are no marks
abbrev pub UsesStand : Cache → Uses → Phase → Type 0
UsesStand c us Running = AllStand false c us
UsesStand c us AwaitTid = AllStand false c us
UsesStand c us (Overflowing None) = AllStand false c us
UsesStand c us (Overflowing (Some t)) = AllStand true c us
UsesStand c us (Probing t) = AllStand true c us
UsesStand c us (Ready t) = AllStand true c us
UsesStand c us (Solo t) = (w : ℕ) → c.read w ≡ false
UsesStand c us DoomedTid = us ≡ []
UsesStand c us Halted = Unit {0}

-- a word of the uses
unfoldable pub is_used : Uses → (word : ℕ) → Bool
is_used [] w = false
is_used (u ∷ us) w = (u.0 == w) || is_used us w

-- no other word is marked read
abbrev pub OnlyUsed : Cache → Uses → Type 0
OnlyUsed c us = (w : ℕ) → c.read w ≡ true → is_used us w ≡ true

-- a line is awaited in Running and Solo alone
abbrev pub awaits_in : Phase → Bool
awaits_in Running = true
awaits_in (Solo t) = true
awaits_in AwaitTid = false
awaits_in DoomedTid = false
awaits_in (Probing t) = false
awaits_in (Ready t) = false
awaits_in (Overflowing t) = false
awaits_in Halted = false

-- a directory owes a reply in Probing and in Overflowing with a TID alone
abbrev pub owed_in : Phase → Bool
owed_in (Probing t) = true
owed_in (Overflowing (Some t)) = true
owed_in (Overflowing None) = false
owed_in Running = false
owed_in AwaitTid = false
owed_in DoomedTid = false
owed_in (Ready t) = false
owed_in (Solo t) = false
owed_in Halted = false

pub record MarksFit (sh : Shape) (s : CoreState) (us : Uses) : Type 0 where
  pub stand : UsesStand s.cache us s.phase
  pub used : OnlyUsed s.cache us
  pub awaits : awaits_in s.phase ≡ false → s.awaited ≡ None
  pub owes : (d : ℕ) → s.owing d ≡ true → (owed_in s.phase ≡ true) × (nat_lt d sh.dirs ≡ true)

-- the attempt follows from these uses, and the core's marks fit them
pub record AttemptFits (sh : Shape) (p : Program) (s : CoreState) (us : Uses) : Type 0 where
  pub follows : Follows sh p s us
  pub marks : MarksFit sh s us

-- in every state that a run reaches each core's attempt fits its view
abbrev pub AttemptsFit : Type 0
AttemptsFit = (sh : Shape) (p : Program) (entries : ℕ → Local) (ram : ℕ → ℕ) (es : List Event) → Fits p →
    IfSome (run sh p (start entries ram) es)
    (λ h. (c : ℕ)
    → AttemptFits sh p (h.world.cores c) (views_from sh p es no_views (record { world = start entries ram; commits = [] }) c))
