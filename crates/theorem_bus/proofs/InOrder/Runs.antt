-- What each event keeps holds along every run.
use Rattle.std.specs.Prelude.{ℕ, ◌+◌, ◌≡◌, List, [], ◌∷◌, length, Option, Some, None, IfSome}
use Rattle.std.proofs.Common.{arith, subst}
use Rattle.rules_maps.specs.Shape.{Shape}
use Rattle.rules_program.specs.Program.{Program}
use Rattle.rules_bus.specs.Commit.{BusStepped}
use Rattle.rules_bus.specs.State.{BusWorld, BusEvent}
use Rattle.rules_bus.specs.Step.{BusHistory, and_noted, recorded, bus_step, bus_next, and_then, bus_from, bus_run}
use Rattle.theorem_bus.proofs.InOrder.Events.{Happened, bus-happened}

abbrev pub stepped_to : BusHistory → BusStepped → BusHistory
stepped_to h r = record { world = r.world; commits = and_noted r.noted h.commits }

-- a fact that each event keeps; n counts the events
abbrev pub EventsKeep : Shape → Program → (ℕ → BusHistory → Type 0) → Type 0
EventsKeep sh p P = (n : ℕ) (h : BusHistory) (r : BusStepped) → Happened sh p h.world r → P n h → P (n + 1) (stepped_to h r)

next-keeps : (sh : Shape) (p : Program) (P : BusHistory → Type 0) (h : BusHistory) (e : BusEvent)
    → ((r : BusStepped) → Happened sh p h.world r → P (stepped_to h r)) → IfSome (bus_next sh p h e) P
unfolding bus_next
next-keeps sh p P h e f = go (bus_step sh p h.world e) (bus-happened sh p h.world e)
  where
    go : (o : Option BusStepped) → IfSome o (Happened sh p h.world) → IfSome (recorded h o) P
    go None k = tt
    go (Some r) k = f r k

then-keeps : (f : BusHistory → Option BusHistory) (P Q : BusHistory → Type 0) (o : Option BusHistory) → IfSome o P
    → ((h : BusHistory) → P h → IfSome (f h) Q) → IfSome (and_then f o) Q
then-keeps f P Q None k g = tt
then-keeps f P Q (Some h) k g = g h k

from-keeps : (sh : Shape) (p : Program) (P : ℕ → BusHistory → Type 0) → EventsKeep sh p P → (es : List BusEvent) (n : ℕ)
    (h : BusHistory) → P n h → IfSome (bus_from sh p es h) (P (n + length es))
unfolding bus_from
from-keeps sh p P f [] n h k = let q : n ≡ n + length {A = BusEvent} [] = omega arith in subst (λ m. P m h) q k
from-keeps sh p P f (e ∷ es) n h k =
    then-keeps (bus_from sh p es) (P (n + 1)) (P (n + length (e ∷ es))) (bus_next sh p h e)
    (next-keeps sh p (P (n + 1)) h e (λ r d. f n h r d k))
    (λ g j. let q : (n + 1) + length es ≡ n + length (e ∷ es) = omega arith in
    subst (λ m. IfSome (bus_from sh p es g) (P m)) q (from-keeps sh p P f es (n + 1) g j))

pub run-keeps : (sh : Shape) (p : Program) (P : ℕ → BusHistory → Type 0) (w : BusWorld) (es : List BusEvent) → EventsKeep sh p P
    → P 0 (record { world = w; commits = [] }) → IfSome (bus_run sh p w es) (P (length es))
unfolding bus_run
run-keeps sh p P w es f k =
    let q : 0 + length es ≡ length es = omega arith in
    subst (λ m. IfSome (bus_from sh p es (record { world = w; commits = [] })) (P m)) q
    (from-keeps sh p P f es 0 (record { world = w; commits = [] }) k)
