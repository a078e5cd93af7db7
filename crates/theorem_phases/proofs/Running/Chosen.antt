-- What a chooser takes of the useful events that aren't held back: a schedule that it picks by phases is a run by phases, and ends early
-- only where none is left.
use Rattle.std.specs.Prelude.{ℕ, suc, ◌≡◌, ◌<◌, ◌%◌, Bool, true, false, not, List, [], ◌∷◌, length, filter}
use Rattle.std.specs.Prelude.{Option, Some, None, is_some, IfSome, if◌then◌else◌}
use Rattle.std.proofs.Common.{arith, refl, ◌⊎◌, inl, inr}
use Rattle.base_lemmas.proofs.Lemmas.{and-left}
use Rattle.image_load.specs.Start.{Start}
use Rattle.rv_code.specs.Machine.{program}
use Rattle.rules_maps.specs.Nodes.{Event}
use Rattle.rules_tcc.specs.Laws.{IsIn}
use Rattle.rules_tcc.specs.Picked.{chosen}
use Rattle.rules_tcc.specs.Step.{History, Stepped, step, is_enabled, recorded, next_history, and_then}
use Rattle.rules_tcc.specs.Useful.{is_of_use, is_useful, useful}
use Rattle.rules_tcc.proofs.Lemmas.{useful-holds, in-get}
use Rattle.theorem_phases.specs.Laws.{PhasedPickedRuns}
use Rattle.rules_phases.specs.Phased.{is_held, phased_next, phased_from, phased_useful, pick, after_event, phased_picked}

-- lists

in-filter : (t : Event → Bool) (e : Event) (es : List Event) → IsIn e (filter t es) → (t e ≡ true) × IsIn e es
in-filter t e [] i = absurd i
in-filter t e (f ∷ es) i = go (t f) refl i (in-filter t e es)
  where
    go : (b : Bool) → t f ≡ b → IsIn e (if b then f ∷ filter t es else filter t es)
        → (IsIn e (filter t es) → (t e ≡ true) × IsIn e es) → (t e ≡ true) × IsIn e (f ∷ es)
    go true q (inl x) r = (rw x at q, inl x)
    go true q (inr k) r = let y = r k in (y.0, inr (y.1))
    go false q k r = let y = r k in (y.0, inr (y.1))

-- where a test leaves none, it fails for each
pub fails-each : (t : Event → Bool) (e : Event) (es : List Event) → filter t es ≡ [] → IsIn e es → t e ≡ false
fails-each t e [] z i = absurd i
fails-each t e (f ∷ es) z i = go (t f) refl z i (fails-each t e es)
  where
    go : (b : Bool) → t f ≡ b → (if b then f ∷ filter t es else filter t es) ≡ [] → (f ≡ e) ⊎ IsIn e es
        → (filter t es ≡ [] → IsIn e es → t e ≡ false) → t e ≡ false
    go true q z i r = absurd (cc)
    go false q z (inl x) r = rw x at q
    go false q z (inr k) r = r z k

-- what is chosen

abbrev ChosenOf : List Event → Option Event → Type 0
ChosenOf es None = es ≡ []
ChosenOf es (Some e) = IsIn e es

chosen-of : (r : ℕ) (es : List Event) → ChosenOf es (chosen r es)
unfolding chosen
chosen-of r [] = refl
chosen-of r (e ∷ es) = in-get e (e ∷ es) (r % length (e ∷ es)) e (omega arith)

some-recorded : (h : History) (o : Option Stepped) → is_some o ≡ true → is_some (recorded h o) ≡ true
some-recorded h None e = absurd (cc)
some-recorded h (Some o) e = refl

-- a useful event that isn't held back happens
happens : (s : Start) (h : History) (e : Event) → IsIn e (phased_useful s h) → is_some (phased_next s h e) ≡ true
unfolding phased_useful phased_next next_history is_useful is_enabled
happens s h e i =
    let k = in-filter (λ e. not (is_held s h e)) e (useful s.settings (program s) h.world) i in
    let u : is_useful s.settings (program s) h.world e ≡ true = (useful-holds s.settings (program s) h.world e).0 (k.1) in
    let n : is_some (step s.settings (program s) h.world e) ≡ true =
    and-left (is_enabled s.settings (program s) h.world e) (is_of_use s.settings (program s) h.world e) u in
    go (is_held s h e) (k.0) (some-recorded h (step s.settings (program s) h.world e) n)
  where
    go : (b : Bool) → not b ≡ true → is_some (next_history s.settings (program s) h e) ≡ true
        → is_some (if b then None else next_history s.settings (program s) h e) ≡ true
    go true q n = absurd (cc)
    go false q n = n

-- schedules

-- what is said of a picked schedule from a state on, n random words being left
pub record Picks (s : Start) (n : ℕ) (es : List Event) (o : Option History) : Type 0 where
  pub runs : is_some o ≡ true
  pub ends : length es < n → IfSome o (λ g. phased_useful s g ≡ [])

event-picks : (s : Start) (n : ℕ) (rest : History → List Event) (e : Event) (o : Option History) → is_some o ≡ true
    → ((g : History) → Picks s n (rest g) (phased_from s (rest g) g))
    → Picks s (suc n) (e ∷ after_event rest o) (and_then (phased_from s (after_event rest o)) o)
event-picks s n rest e None i f = absurd (cc)
event-picks s n rest e (Some g) i f = let k = f g in record { runs = k.runs; ends = λ l. k.ends (omega arith) }

pick-picks : (s : Start) (n : ℕ) (rest : History → List Event) (h : History) (o : Option Event) → ChosenOf (phased_useful s h) o
    → ((g : History) → Picks s n (rest g) (phased_from s (rest g) g))
    → Picks s (suc n) (pick s h rest o) (phased_from s (pick s h rest o) h)
unfolding phased_from
pick-picks s n rest h None c f = record { runs = refl; ends = λ l. c }
pick-picks s n rest h (Some e) c f = event-picks s n rest e (phased_next s h e) (happens s h e c) f

pub picks : (s : Start) (rs : List ℕ) (h : History)
    → Picks s (length rs) (phased_picked s rs h) (phased_from s (phased_picked s rs h) h)
unfolding phased_picked phased_from
picks s [] h = record { runs = refl; ends = λ l. absurd (omega arith) }
picks s (r ∷ rs) h =
    pick-picks s (length rs) (phased_picked s rs) h (chosen r (phased_useful s h)) (chosen-of r (phased_useful s h)) (picks s rs)

pub a_schedule_picked_by_phases_runs : PhasedPickedRuns
a_schedule_picked_by_phases_runs s rs h = (picks s rs h).runs
