-- A trace as a list: each event of a run with what it did.
use Rattle.std.specs.Prelude.{List, [], ◌∷◌, ◌++◌, Option, Some, None}
use Rattle.rules_maps.specs.Nodes.{Event}
use Rattle.rules_maps.specs.Shape.{Shape}
use Rattle.rules_program.specs.Program.{Program}
use Rattle.rules_tcc.specs.State.{World}
use Rattle.rules_tcc.specs.Step.{History, next_history}
use Rattle.watch.specs.Facts.{Fact}
use Rattle.watch.specs.Happened.{happened}

-- an event, and what it did
pub record Told : Type 0 where
  pub event : Event
  pub facts : List Fact

-- nothing more where the event isn't enabled
abbrev pub if_enabled : Told → (History → List Told) → Option History → List Told
if_enabled first later None = []
if_enabled first later (Some h) = first ∷ later h

-- each event with what it did, from this state on, up to the first that isn't enabled
unfoldable pub told : Shape → Program → List Event → History → List Told
told sh p [] h = []
told sh p (e ∷ es) h = if_enabled (record { event = e; facts = happened sh p h e }) (told sh p es) (next_history sh p h e)

-- all facts, in the order told
unfoldable pub facts_in : List Told → List Fact
facts_in [] = []
facts_in (t ∷ ts) = t.facts ++ facts_in ts

-- before the first event of a run
abbrev pub begun : World → History
begun w = record { world = w; commits = [] }
