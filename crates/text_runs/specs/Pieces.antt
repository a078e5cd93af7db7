-- What is written of a text that comes piece by piece.
use Rattle.std.specs.Prelude.{ℕ, ◌≡◌, ◌<◌, ◌⊎◌, Bool, true, false, List, [], ◌∷◌, ◌++◌, Option, drop, length, take, if◌then◌else◌}
use Rattle.std.specs.Io.KnownBytes.{Appends}
use Rattle.schedule_text.specs.Grammar.{joined}
use Rattle.tcc_world.specs.Faults.{Rose}
use Rattle.tcc_world.specs.Page.{Written}
use Rattle.text_runs.specs.declared.pieces.Broken.{Broken}
use Rattle.text_runs.specs.declared.pieces.Broken.TheVariants.{Memory, Output}

-- the texts from number `from` on, one after another, where the first is number 0
abbrev pub window : (from : ℕ) → List (List ℕ) → List ℕ
window from texts = joined (drop from texts)

-- of what was held, with this behind it, a first part was written, and the rest is held now
pub record IsPut (held now : List ℕ) (before after : Option (List ℕ)) (more : List ℕ) : Type 0 where
  pub written : List ℕ
  pub all : held ++ more ≡ written ++ now
  pub appended : Appends before after written

-- a first part of these bytes was written
abbrev pub IsPart : List ℕ → (before after : Option (List ℕ)) → Type 0
IsPart bytes before after = (n : ℕ) × Appends before after (take n bytes)

-- a first part, but not all
abbrev pub IsCut : List ℕ → (before after : Option (List ℕ)) → Type 0
IsCut bytes before after = (n : ℕ) × (n < length bytes) × Appends before after (take n bytes)

-- an event came, with this text, which is appended where it is shown; or none comes any more
abbrev pub Tells : (leads : List (List ℕ) → Type 0) → (ended : Type 0) → (shown : Bool) → (before after : List ℕ) → (more : Bool) → Type 0
Tells leads ended shown before after true =
    (text : List ℕ) × leads (text ∷ []) × (after ≡ before ++ (if shown then text else []))
Tells leads ended shown before after false = leads [] × ended × (after ≡ before)

-- all events came, with these texts, of which the last part is held and the rest was written
pub record IsTold (leads : List (List ℕ) → Type 0) (ended : Type 0) (from : ℕ) (held now : List ℕ) (before after : Option (List ℕ))
    : Type 0 where
  pub texts : List (List ℕ)
  pub led : leads texts
  pub end : ended
  pub put : IsPut held now before after (window from texts)

-- some events came, with these texts, and a first part of what was held, with the texts behind it, was written
pub record HasBegun {Run : Type 0} (leads : Run → List (List ℕ) → Type 0) (from : ℕ) (held : List ℕ) (before after : Option (List ℕ))
    : Type 0 where
  pub at : Run
  pub texts : List (List ℕ)
  pub led : leads at texts
  pub part : IsPart (held ++ window from texts) before after

-- why the texts broke off, and what was written of them
abbrev pub IsStopped : {Run : Type 0} → (leads : Run → List (List ℕ) → Type 0) → (from : ℕ) → (held : List ℕ) → Written → Broken → Type 0
IsStopped leads from held o Memory = HasBegun leads from held o.before.bytes o.after.bytes
IsStopped leads from held o Output = HasBegun leads from held o.before.bytes o.after.bytes × Rose o.before.faults o.after.faults

-- the last lines aren't all there: a first part of what was held was written, or all of it and a first part of the last lines
abbrev pub IsEndCut : (held tail : List ℕ) → Written → Broken → Type 0
IsEndCut held tail o Memory = IsPart held o.before.bytes o.after.bytes
IsEndCut held tail o Output = (IsPart held o.before.bytes o.after.bytes ⊎ IsCut (held ++ tail) o.before.bytes o.after.bytes)
    × Rose o.before.faults o.after.faults
