-- No state is stuck: what is useful in each state that a run reaches.
use Rattle.std.specs.Prelude.{ℕ, ◌≡◌, ◌≢◌, ◌<◌, ◌≤◌, ◌⊎◌, Bool, true, List, [], length, Option, IfSome, ◌==◌}
use Rattle.rules_program.specs.Program.{Local, Program}
use Rattle.rules_maps.specs.Nodes.{Core, Vendor, Event, Exec, Deliver}
use Rattle.rules_maps.specs.Shape.{Shape}
use Rattle.rules_tcc.specs.State.{World, Halted, start}
use Rattle.rules_tcc.specs.Picked.{picked}
use Rattle.rules_tcc.specs.Seen.{IsDone}
use Rattle.rules_tcc.specs.Step.{History, run}
use Rattle.rules_tcc.specs.Useful.{is_useful, useful}
use Rattle.theorem_serial.specs.InMemory.{StaysInMemory}
use Rattle.theorem_serial.specs.Tids.{has_tid}

-- there is a directory, caches have a set and a way, and the program's accesses lie in memory
pub record IsEquipped (sh : Shape) (p : Program) : Type 0 where
  pub dirs : 1 ≤ sh.dirs
  pub sets : 1 ≤ sh.sets
  pub ways : 1 ≤ sh.ways
  pub inside : StaysInMemory sh p

-- P holds of every state that a run of such a machine reaches
abbrev pub InEachState : (Shape → Program → World → Type 0) → Type 0
InEachState P = (sh : Shape) (p : Program) (entries : ℕ → Local) (ram : ℕ → ℕ) (es : List Event) → IsEquipped sh p
    → IfSome (run sh p (start entries ram) es) (λ h. P sh p h.world)

-- Where no event is useful the state is done.
abbrev pub DoneWhereNoneUseful : Shape → Program → World → Type 0
DoneWhereNoneUseful sh p w = useful sh p w ≡ [] → IsDone sh w

-- the event doesn't deliver another core's request for a TID
abbrev pub spares : (core : ℕ) → Event → Bool
spares c (Deliver (Core j) Vendor k) = j == c
spares c _ = true

-- the core has a TID, and so a place in the order
abbrev pub IsPlaced : World → (core : ℕ) → Type 0
IsPlaced w c = (tid : ℕ) × (has_tid (w.cores c).phase tid ≡ true)

-- a useful event for which no other core gets a place in the order, and by which no other core executes but one that has a place
pub record GoesOn (sh : Shape) (p : Program) (w : World) (c : ℕ) : Type 0 where
  pub event : Event
  pub is_useful : is_useful sh p w event ≡ true
  pub spares : spares c event ≡ true
  pub executes : (a : ℕ) → event ≡ Exec a → (a ≡ c) ⊎ IsPlaced w a

-- For each core that hasn't halted there is one.
abbrev pub EachGoesOn : Shape → Program → World → Type 0
EachGoesOn sh p w = (c : ℕ) → c < sh.cores → (w.cores c).phase ≢ Halted → GoesOn sh p w c

-- A schedule that a chooser picks from a list of random words, and that ends before the last word, ends where all is done.
abbrev pub EndsDone : Shape → Option History → Type 0
EndsDone sh o = IfSome o (λ h. IsDone sh h.world)

abbrev pub PickedEndsDone : Type 0
PickedEndsDone = (sh : Shape) (p : Program) (entries : ℕ → Local) (ram : ℕ → ℕ) (rs : List ℕ) → IsEquipped sh p
    → length (picked sh p rs (start entries ram)) < length rs
    → EndsDone sh (run sh p (start entries ram) (picked sh p rs (start entries ram)))
