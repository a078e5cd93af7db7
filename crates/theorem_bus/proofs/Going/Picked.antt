-- A picked schedule is a run, and a chooser stops early only where no event is useful.
use Rattle.std.specs.Prelude.{ℕ, zero, suc, ◌≡◌, ◌<◌, ◌%◌, Bool, true, false, List, [], ◌∷◌, length, filter, slice_index_or, Option}
use Rattle.std.specs.Prelude.{Some, None, is_some, IfSome, if◌then◌else◌}
use Rattle.std.proofs.Common.{arith, refl}
use Rattle.base_lemmas.proofs.Lemmas.{and-left}
use Rattle.rules_maps.specs.Shape.{Shape}
use Rattle.rules_program.specs.Program.{Program}
use Rattle.rules_bus.specs.State.{BusWorld, BusEvent, bus_start}
use Rattle.rules_bus.specs.Commit.{BusStepped}
use Rattle.rules_bus.specs.Step.{BusHistory, recorded, bus_step, bus_next, and_then, bus_from, bus_run}
use Rattle.rules_bus.specs.Useful.{is_of_use, bus_is_useful, bus_useful, bus_chosen, after_event, bus_pick, bus_picked, BusIsDone}
use Rattle.theorem_bus.specs.Laws.{first_bus_history, BusPickedEndsDone}
use Rattle.theorem_bus.proofs.Going.Listed.{Each}
use Rattle.theorem_bus.proofs.Going.Live.{bus_never_stuck}

-- each that passes the test
each-passes : {A : Type 0} (p : A → Bool) (xs : List A) → Each (λ x. p x ≡ true) (filter p xs)
each-passes p [] = tt
each-passes p (x ∷ xs) = go (p x) refl (each-passes p xs)
  where
    go : (b : Bool) → p x ≡ b → Each (λ x. p x ≡ true) (filter p xs)
        → Each (λ x. p x ≡ true) (if b then x ∷ filter p xs else filter p xs)
    go true e k = (e, k)
    go false e k = k

each-get : (P : BusEvent → Type 0) (xs : List BusEvent) (k : ℕ) (d : BusEvent) → P d → Each P xs → P (slice_index_or xs k d)
each-get P [] k d h e = h
each-get P (x ∷ xs) zero d h e = e.0
each-get P (x ∷ xs) (suc k) d h e = each-get P xs k d h (e.1)

-- what is chosen is useful, and nothing is chosen from the empty list alone
abbrev Chosen : Shape → Program → BusWorld → Option BusEvent → Type 0
Chosen sh p w None = bus_useful sh p w ≡ []
Chosen sh p w (Some e) = bus_is_useful sh p w e ≡ true

chosen-is : (sh : Shape) (p : Program) (w : BusWorld) (r : ℕ) → Chosen sh p w (bus_chosen r (bus_useful sh p w))
unfolding bus_chosen bus_useful
chosen-is sh p w r = go (bus_useful sh p w) refl (each-passes (bus_is_useful sh p w) _)
  where
    go : (xs : List BusEvent) → bus_useful sh p w ≡ xs → Each (λ e. bus_is_useful sh p w e ≡ true) xs → Chosen sh p w (bus_chosen r xs)
    go [] e k = e
    go (x ∷ xs) e k = each-get (λ e. bus_is_useful sh p w e ≡ true) (x ∷ xs) (r % length (x ∷ xs)) x (k.0) k

-- what is said of a picked schedule from a state on
record PicksRun (sh : Shape) (p : Program) (n : ℕ) (es : List BusEvent) (o : Option BusHistory) : Type 0 where
  runs : is_some o ≡ true
  ends : length es < n → IfSome o (λ h. bus_useful sh p h.world ≡ [])

useful-happens : (sh : Shape) (p : Program) (h : BusHistory) (e : BusEvent) → bus_is_useful sh p h.world e ≡ true
    → is_some (bus_next sh p h e) ≡ true
unfolding bus_is_useful bus_next
useful-happens sh p h e u =
    go (bus_step sh p h.world e) (and-left (is_some (bus_step sh p h.world e)) (is_of_use sh p h.world e) u)
  where
    go : (o : Option BusStepped) → is_some o ≡ true → is_some (recorded h o) ≡ true
    go None i = absurd (cc)
    go (Some r) i = refl

step-picks : (sh : Shape) (p : Program) (n : ℕ) (rest : BusHistory → List BusEvent) (h : BusHistory) (e : BusEvent)
    (o : Option BusHistory) → is_some o ≡ true → ((g : BusHistory) → PicksRun sh p n (rest g) (bus_from sh p (rest g) g))
    → PicksRun sh p (suc n) (e ∷ after_event rest o) (and_then (bus_from sh p (after_event rest o)) o)
step-picks sh p n rest h e None s f = absurd (cc)
step-picks sh p n rest h e (Some g) s f = let i = f g in record { runs = i.runs; ends = λ l. i.ends (omega arith) }

pick-runs : (sh : Shape) (p : Program) (n : ℕ) (rest : BusHistory → List BusEvent) (h : BusHistory) (o : Option BusEvent)
    → Chosen sh p h.world o → ((g : BusHistory) → PicksRun sh p n (rest g) (bus_from sh p (rest g) g))
    → PicksRun sh p (suc n) (bus_pick sh p h rest o) (bus_from sh p (bus_pick sh p h rest o) h)
unfolding bus_from
pick-runs sh p n rest h None c f = record { runs = refl; ends = λ l. c }
pick-runs sh p n rest h (Some e) c f = step-picks sh p n rest h e (bus_next sh p h e) (useful-happens sh p h e c) f

picked-runs : (sh : Shape) (p : Program) (rs : List ℕ) (h : BusHistory)
    → PicksRun sh p (length rs) (bus_picked sh p rs h) (bus_from sh p (bus_picked sh p rs h) h)
unfolding bus_picked bus_from
picked-runs sh p [] h = record { runs = refl; ends = λ l. absurd (omega arith) }
picked-runs sh p (r ∷ rs) h =
    pick-runs sh p (length rs) (bus_picked sh p rs) h (bus_chosen r (bus_useful sh p h.world)) (chosen-is sh p h.world r)
    (picked-runs sh p rs)

-- a picked schedule is a run
pub picked-is_run : (sh : Shape) (p : Program) (rs : List ℕ) (h : BusHistory) → is_some (bus_from sh p (bus_picked sh p rs h) h) ≡ true
picked-is_run sh p rs h = (picked-runs sh p rs h).runs

pub bus_picked_ends_done : BusPickedEndsDone
unfolding bus_run
bus_picked_ends_done sh p entries ram rs s l =
    go (bus_run sh p (bus_start entries ram) es) ((picked-runs sh p rs (first_bus_history entries ram)).ends l)
    (bus_never_stuck sh p entries ram es s) (picked-is_run sh p rs (first_bus_history entries ram))
  where
    es : List BusEvent
    es = bus_picked sh p rs (first_bus_history entries ram)

    go : (o : Option BusHistory) → IfSome o (λ h. bus_useful sh p h.world ≡ [])
        → IfSome o (λ h. bus_useful sh p h.world ≡ [] → BusIsDone sh h.world) → is_some o ≡ true → IfSome o (λ h. BusIsDone sh h.world)
    go None a b r = tt
    go (Some h) a b r = b a
