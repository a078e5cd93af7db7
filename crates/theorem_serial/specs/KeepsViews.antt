-- That every event keeps what the list says of views.
use Rattle.std.specs.Prelude.{ℕ, ◌++◌, List, IfSome}
use Rattle.rules_program.specs.Plain.{Plain}
use Rattle.rules_program.specs.Program.{Local, Program}
use Rattle.rules_maps.specs.Nodes.{Event}
use Rattle.rules_maps.specs.Shape.{Shape}
use Rattle.rules_tcc.specs.Step.{History, next_history}
use Rattle.theorem_attempt.specs.Follows.{Uses}
use Rattle.theorem_attempt.specs.Views.{views_after}
use Rattle.theorem_serial.specs.Invariants.{Carried, CarriedViews, Invariants}
use Rattle.theorem_serial.specs.Owners.{Grant, granted_by}
use Rattle.theorem_serial.specs.Values.{ViewedWords, HaltedUsesNone}
use Rattle.theorem_serial.specs.Ways.{Ways, sent_by, ways_after}

-- Where the whole list holds, every event leaves each word of a core's view with the value that it has for the core at its bound, or the
-- attempt doomed; and a halted core's view stays empty.
abbrev pub KeepsViews : Type 0
KeepsViews =
    (sh : Shape) (p : Program) (entries : ℕ → Local) (ram : ℕ → ℕ) (gs : List Grant) (ys : Ways) (views : ℕ → Uses) (m : Plain)
    (h : History) (e : Event)
    → Invariants sh p entries ram gs ys views m h
    → IfSome (next_history sh p h e) (λ g. Carried sh (gs ++ granted_by h.world e) (ways_after (sent_by sh p h.world e) ys) g
    → CarriedViews sh p (views_after sh p h.world e views) g
    → ViewedWords sh ram g.world g.commits (views_after sh p h.world e views) × HaltedUsesNone g.world (views_after sh p h.world e views))
