-- That each event keeps the words in frames and Fills as their cores see them, but for those whose invalidations are on their way.
use Rattle.std.specs.Prelude.{ℕ, ◌++◌, List, IfSome}
use Rattle.rules_program.specs.Plain.{Plain}
use Rattle.rules_program.specs.Program.{Local, Program}
use Rattle.rules_maps.specs.Nodes.{Event}
use Rattle.rules_maps.specs.Shape.{Shape}
use Rattle.rules_tcc.specs.Step.{History, next_history}
use Rattle.theorem_attempt.specs.Follows.{Uses}
use Rattle.theorem_serial.specs.Theorem.{Suits}
use Rattle.theorem_serial.specs.Invariants.{Carried, Invariants}
use Rattle.theorem_serial.specs.Owners.{Grant, granted_by}
use Rattle.theorem_serial.specs.Values.{UnmodifiedWords, FilledWords}
use Rattle.theorem_serial.specs.Ways.{Ways, ways_after, sent_by}

-- An event of a state that has the invariants of the list leaves the unmodified words of frames, and those of Fills, current or about to
-- be invalidated.
abbrev pub EventsKeepWords : Type 0
EventsKeepWords =
    (sh : Shape) (p : Program) (entries : ℕ → Local) (ram : ℕ → ℕ) (gs : List Grant) (ys : Ways) (views : ℕ → Uses) (m : Plain)
    (h : History) (e : Event) → Suits sh p ram → Invariants sh p entries ram gs ys views m h
    → IfSome (next_history sh p h e) (λ g. Carried sh (gs ++ granted_by h.world e) (ways_after (sent_by sh p h.world e) ys) g
    → UnmodifiedWords sh ram g.world g.commits × FilledWords sh ram g.world g.commits)
