-- A picked schedule is a run.
use Rattle.std.proofs.Common.{◌≡◌, ℕ, suc, zero, ◌<◌, ◌≤◌, ◌%◌, true, inl, inr, List, [], ◌∷◌, length, Option, Some, None, is_some, refl}
use Rattle.std.proofs.Common.{arith}
use Rattle.std.specs.Prelude.{slice_index_or}
use Rattle.rules_program.specs.Program.{Program}
use Rattle.rules_maps.specs.Nodes.{Event}
use Rattle.rules_maps.specs.Shape.{Shape}
use Rattle.rules_tcc.specs.State.{World}
use Rattle.rules_tcc.specs.Step.{Stepped, History, step, recorded, and_noted, next_history, and_then, run_from, run}
use Rattle.rules_tcc.specs.Useful.{useful}
use Rattle.rules_tcc.specs.Picked.{picked, pick, chosen, after_step}
use Rattle.rules_tcc.specs.Laws.{IsIn, EndsUseless}
use Rattle.rules_tcc.proofs.Useful.{useful-holds, useful-enabled}

pub in-get : (e : Event) (es : List Event) (k : ℕ) (d : Event) → k < length es → IsIn (slice_index_or es k d) es
in-get e [] k d h = absurd (omega arith)
in-get e (f ∷ es) zero d h = inl refl
in-get e (f ∷ es) (suc k) d h = inr (in-get e es k d (omega arith))

-- what is chosen is in the list; nothing is chosen from the empty list alone
abbrev ChosenOf : List Event → Option Event → Type 0
ChosenOf es None = es ≡ []
ChosenOf es (Some e) = IsIn e es

chosen-of : (r : ℕ) (es : List Event) → ChosenOf es (chosen r es)
unfolding chosen
chosen-of r [] = refl
chosen-of r (e ∷ es) = in-get e (e ∷ es) (r % length (e ∷ es)) e (omega arith)

-- what is said of a picked schedule from a state on
pub record PicksRun (sh : Shape) (p : Program) (n : ℕ) (es : List Event) (o : Option History) : Type 0 where
  pub runs : is_some o ≡ true
  pub few : length es ≤ n
  pub ends : length es < n → EndsUseless sh p o

step-picks : (sh : Shape) (p : Program) (n : ℕ) (rest : World → List Event) (h : History) (e : Event) (o : Option Stepped)
    → step sh p h.world e ≡ o → is_some o ≡ true →
    ((g : History) → PicksRun sh p n (rest g.world) (run_from sh p (rest g.world) g))
    → PicksRun sh p (suc n) (e ∷ after_step rest o) (and_then (run_from sh p (after_step rest o)) (recorded h o))
step-picks sh p n rest h e None q s f = absurd (cc)
step-picks sh p n rest h e (Some t) q s f =
    let i = f (record { world = t.world; commits = and_noted t.noted h.commits }) in
    record { runs = i.runs; few = (let x = i.few in omega arith); ends = λ l. i.ends (omega arith) }

pick-runs : (sh : Shape) (p : Program) (n : ℕ) (rest : World → List Event) (h : History) (o : Option Event)
    → ChosenOf (useful sh p h.world) o →
    ((g : History) → PicksRun sh p n (rest g.world) (run_from sh p (rest g.world) g))
    → PicksRun sh p (suc n) (pick sh p h.world rest o) (run_from sh p (pick sh p h.world rest o) h)
unfolding run_from next_history
pick-runs sh p n rest h None c f = record { runs = refl; few = omega arith; ends = λ l. c }
pick-runs sh p n rest h (Some e) c f =
    step-picks sh p n rest h e (step sh p h.world e) refl (useful-enabled sh p h.world e ((useful-holds sh p h.world e).0 c)) f

pub picked-runs : (sh : Shape) (p : Program) (rs : List ℕ) (h : History)
    → PicksRun sh p (length rs) (picked sh p rs h.world) (run_from sh p (picked sh p rs h.world) h)
unfolding picked run_from
picked-runs sh p [] h = record { runs = refl; few = omega arith; ends = λ l. absurd (omega arith) }
picked-runs sh p (r ∷ rs) h = pick-runs sh p (length rs) (picked sh p rs) h (chosen r (useful sh p h.world))
    (chosen-of r (useful sh p h.world)) (picked-runs sh p rs)

pub picked-is_run : (sh : Shape) (p : Program) (rs : List ℕ) (w : World)
    → PicksRun sh p (length rs) (picked sh p rs w) (run sh p w (picked sh p rs w))
unfolding run
picked-is_run sh p rs w = picked-runs sh p rs (record { world = w; commits = [] })
