-- What is proved of the rules by themselves: each statement is the contract of an empty function of this crate.
use Rattle.std.specs.Prelude.{◌≤◌, ◌<◌, ℕ, suc, zero, ◌+◌, ◌-◌, ◌≡◌, ◌↔◌, ◌⊎◌, true, false, List, [], ◌∷◌, ◌++◌, length, drop, Option, Some}
use Rattle.std.specs.Prelude.{None, IfSome, IsSome}
use Rattle.rules_program.specs.Program.{Local, Program}
use Rattle.rules_maps.specs.Nodes.{Node, Core, Dir, Vendor, Msg, TidGrant, Event, Exec, Evict, Deliver, node_eq}
use Rattle.rules_maps.specs.Shape.{Shape}
use Rattle.rules_tcc.specs.State.{World, Link, start}
use Rattle.rules_tcc.specs.Links.{in_flight, sent_all, taking}
use Rattle.rules_tcc.specs.Step.{Stepped, History, step, run}
use Rattle.rules_tcc.specs.Seen.{IsDone}
use Rattle.rules_tcc.specs.Local.{at_node}
use Rattle.rules_tcc.specs.Picked.{picked}
use Rattle.rules_tcc.specs.Useful.{is_useful, useful, event_before}

-- a link after an event: as it was, with what the node sent at its end; only the node's own links grow
abbrev pub Grows : (at src : Node) → (old new : Link) → Type 0
Grows at src old new = (more : List Msg) × (new ≡ old ++ sent_all more) × (node_eq src at ≡ false → more ≡ [])

-- what an event does to the links
abbrev pub OnLinks : World → Event → World → Type 0
OnLinks w (Exec c) v = (s d : Node) → Grows (Core c) s (w.net s d) (v.net s d)
OnLinks w (Evict c x y) v = (s d : Node) → Grows (Core c) s (w.net s d) (v.net s d)
OnLinks w (Deliver src dst k) v =
    IsSome (in_flight w.net src dst k)
    × (((s d : Node) → Grows dst s (w.net s d) (v.net s d)) ⊎ ((s d : Node) → Grows dst s (taking w.net src dst k s d) (v.net s d)))

-- no other node's state changes, a message that is consumed was in flight, and each link grows at its end alone
pub record ActsOnOne (w : World) (e : Event) (v : World) : Type 0 where
  pub cores : (c : ℕ) → node_eq (at_node e) (Core c) ≡ false → v.cores c ≡ w.cores c
  pub dirs : (d : ℕ) → node_eq (at_node e) (Dir d) ≡ false → v.dirs d ≡ w.dirs d
  pub vendor : node_eq (at_node e) Vendor ≡ false → v.next ≡ w.next
  pub links : OnLinks w e v

abbrev pub StepsActOnOne : Type 0
StepsActOnOne = (sh : Shape) (p : Program) (w : World) (e : Event) → IfSome (step sh p w e) (λ o. ActsOnOne w e o.world)

-- an event is in a list
abbrev pub IsIn : Event → List Event → Type 0
IsIn e [] = ⊥
IsIn e (f ∷ fs) = (f ≡ e) ⊎ IsIn e fs

-- an event stands before each of a list
abbrev pub IsBeforeAll : Event → List Event → Type 0
IsBeforeAll e [] = Unit {0}
IsBeforeAll e (f ∷ fs) = (event_before e f ≡ true) × IsBeforeAll e fs

-- each event of a list stands before all behind it
abbrev pub IsOrdered : List Event → Type 0
IsOrdered [] = Unit {0}
IsOrdered (e ∷ es) = IsBeforeAll e es × IsOrdered es

-- the list of useful events holds exactly these, in their order, so each once
abbrev pub UsefulHolds : Type 0
UsefulHolds = (sh : Shape) (p : Program) (w : World) (e : Event) → IsIn e (useful sh p w) ↔ (is_useful sh p w e ≡ true)

abbrev pub UsefulOrdered : Type 0
UsefulOrdered = (sh : Shape) (p : Program) (w : World) → IsOrdered (useful sh p w)

-- no event is before itself
abbrev pub NotBeforeItself : Type 0
NotBeforeItself = (e : Event) → event_before e e ≡ false

-- each useful event is enabled
abbrev pub UsefulEnabled : Type 0
UsefulEnabled = (sh : Shape) (p : Program) (w : World) (e : Event) → is_useful sh p w e ≡ true → IsSome (step sh p w e)

-- in a done state none is useful
abbrev pub DoneUseless : Type 0
DoneUseless = (sh : Shape) (p : Program) (w : World) → IsDone sh w → useful sh p w ≡ []

-- the TIDs among messages
abbrev pub tid_in : Option Msg → List ℕ
tid_in (Some (TidGrant t)) = t ∷ []
tid_in _ = []

unfoldable pub tids_in : Link → List ℕ
tids_in [] = []
tids_in (m ∷ ms) = tid_in m ++ tids_in ms

-- the TIDs that the vendor sent to the one whose message it took
abbrev pub given_by : World → Event → World → List ℕ
given_by w (Deliver src Vendor k) v = tids_in (drop (length (w.net Vendor src)) (v.net Vendor src))
given_by w _ v = []

abbrev pub and_given : (rest : World → List ℕ) → World → Event → Option Stepped → List ℕ
and_given rest w e None = []
and_given rest w e (Some o) = given_by w e o.world ++ rest o.world

-- the TIDs that are given along a list of events, in their order
unfoldable pub given : Shape → Program → List Event → World → List ℕ
given sh p [] w = []
given sh p (e ∷ es) w = and_given (given sh p es) w e (step sh p w e)

-- n numbers from a on
unfoldable pub counting : (a n : ℕ) → List ℕ
counting a zero = []
counting a (suc n) = a ∷ counting (a + 1) n

-- the TIDs that are given are 1, 2, 3 and so on
abbrev pub TidsCount : Type 0
TidsCount = (sh : Shape) (p : Program) (entries : ℕ → Local) (ram : ℕ → ℕ) (es : List Event) →
    IfSome (run sh p (start entries ram) es) (λ h. given sh p es (start entries ram) ≡ counting 1 (h.world.next - 1))

-- the state at the end of a list of events
abbrev pub EndsUseless : Shape → Program → Option History → Type 0
EndsUseless sh p o = IfSome o (λ h. useful sh p h.world ≡ [])

-- what is picked is a run, of as many events as there are words or of fewer where no event is useful at its end
abbrev pub PickedRuns : Type 0
PickedRuns = (sh : Shape) (p : Program) (rs : List ℕ) (w : World) → IsSome (run sh p w (picked sh p rs w))

abbrev pub PickedEnds : Type 0
PickedEnds = (sh : Shape) (p : Program) (rs : List ℕ) (w : World) →
    (length (picked sh p rs w) ≤ length rs) × (length (picked sh p rs w) < length rs → EndsUseless sh p (run sh p w (picked sh p rs w)))
