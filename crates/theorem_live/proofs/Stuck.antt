-- No state that a run reaches is stuck.
use Rattle.std.specs.Prelude.{ℕ, ◌≡◌, ◌≢◌, ◌<◌, List, [], Option, Some, None, IfSome}
use Rattle.std.proofs.Common.{refl, ◌⊎◌, inl, inr}
use Rattle.rules_program.specs.Program.{Program}
use Rattle.rules_maps.specs.Nodes.{Event}
use Rattle.rules_maps.specs.Shape.{Shape}
use Rattle.rules_tcc.specs.Laws.{IsIn, EndsUseless}
use Rattle.rules_tcc.specs.Picked.{picked}
use Rattle.rules_tcc.specs.State.{Phase, Halted, World, start}
use Rattle.rules_tcc.specs.Step.{History, run}
use Rattle.rules_tcc.specs.Useful.{useful}
use Rattle.rules_tcc.proofs.Lemmas.{useful-holds, picked-is_run}
use Rattle.theorem_serial.specs.Invariants.{Carried, CarriedInMemory, first_state}
use Rattle.theorem_serial.specs.Owners.{Grant, grants_from}
use Rattle.theorem_serial.specs.Ways.{Ways, first_ways, ways_from}
use Rattle.theorem_serial.proofs.Lemmas.{runs_carry, runs_stay_in_memory}
use Rattle.theorem_live.specs.Fits.{KeptFits}
use Rattle.theorem_live.specs.Progress.{InEachState, EachGoesOn, DoneWhereNoneUseful, EndsDone, PickedEndsDone}
use Rattle.theorem_live.proofs.FitSteps.{links_fit}
use Rattle.theorem_live.proofs.GoesOn.{each_goes_on}
use Rattle.theorem_live.proofs.Halted.{IsStill, done}
use Rattle.theorem_live.proofs.State.{Reached}

-- what holds of a state with all that is proved of it holds of every state that a run reaches
from_reached : (P : Shape → Program → World → Type 0) → ((sh : Shape) (p : Program) (h : History) → Reached sh p h → P sh p h.world)
    → InEachState P
from_reached P f sh p entries ram es k = go (run sh p (start entries ram) es) (links_fit sh p entries ram es k.dirs)
    (runs_carry sh p entries ram es) (runs_stay_in_memory sh p entries ram es k.inside)
  where
    gs : List Grant
    gs = grants_from sh p es (first_state entries ram)

    ys : Ways
    ys = ways_from sh p es first_ways (first_state entries ram)

    go : (x : Option History) → IfSome x (λ h. KeptFits sh h.world) → IfSome x (λ h. Carried sh gs ys h)
        → IfSome x (λ h. CarriedInMemory sh h) → IfSome x (λ h. P sh p h.world)
    go None a b c = tt
    go (Some h) a b c = f sh p h (record { grants = gs; ways = ys; equipped = k; fits = a; carried = b; memory = c })

pub each_core_goes_on : InEachState EachGoesOn
each_core_goes_on = from_reached EachGoesOn each_goes_on

-- none is useful where the list is empty
none_useful : (sh : Shape) (p : Program) (w : World) → useful sh p w ≡ [] → IsStill sh p w
none_useful sh p w z e u = in_none ((useful-holds sh p w e).1 u)
  where
    in_none : IsIn e (useful sh p w) → ⊥
    in_none i = (rw z at i)

pub halted-or : (q : Phase) → (q ≡ Halted) ⊎ (q ≢ Halted)
halted-or Halted = inl refl
halted-or q = inr (λ e. absurd (cc))

done_where_none_useful : (sh : Shape) (p : Program) (h : History) → Reached sh p h → DoneWhereNoneUseful sh p h.world
done_where_none_useful sh p h k z = done sh p h k (none_useful sh p h.world z) halted
  where
    halted : (c : ℕ) → c < sh.cores → (h.world.cores c).phase ≡ Halted
    halted c l = go (halted-or (h.world.cores c).phase)
      where
        go : ((h.world.cores c).phase ≡ Halted) ⊎ ((h.world.cores c).phase ≢ Halted) → (h.world.cores c).phase ≡ Halted
        go (inl e) = e
        go (inr n) = absurd (let g = each_goes_on sh p h k c l n in none_useful sh p h.world z g.event g.is_useful)

pub no_state_is_stuck : InEachState DoneWhereNoneUseful
no_state_is_stuck = from_reached DoneWhereNoneUseful done_where_none_useful

-- a chooser stops early only where none is useful
pub picked_ends_done : PickedEndsDone
picked_ends_done sh p entries ram rs k l = go (run sh p w es) (no_state_is_stuck sh p entries ram es k) ((picked-is_run sh p rs w).ends l)
  where
    w : World
    w = start entries ram

    es : List Event
    es = picked sh p rs w

    go : (o : Option History) → IfSome o (λ h. DoneWhereNoneUseful sh p h.world) → EndsUseless sh p o → EndsDone sh o
    go None a b = tt
    go (Some h) a b = a b
