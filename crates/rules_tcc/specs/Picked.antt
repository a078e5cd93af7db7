-- The schedule that a chooser takes from a list of random words.
use Rattle.std.specs.Prelude.{ℕ, ◌%◌, List, [], ◌∷◌, length, slice_index_or, Option, Some, None}
use Rattle.rules_program.specs.Program.{Program}
use Rattle.rules_maps.specs.Nodes.{Event}
use Rattle.rules_maps.specs.Shape.{Shape}
use Rattle.rules_tcc.specs.State.{World}
use Rattle.rules_tcc.specs.Step.{Stepped, step}
use Rattle.rules_tcc.specs.Useful.{useful}

-- the event at r mod m of m useful ones
unfoldable pub chosen : ℕ → List Event → Option Event
chosen r [] = None
chosen r (e ∷ es) = Some (slice_index_or (e ∷ es) (r % length (e ∷ es)) e)

abbrev pub after_step : (World → List Event) → Option Stepped → List Event
after_step rest None = []
after_step rest (Some o) = rest o.world

abbrev pub pick : Shape → Program → World → (rest : World → List Event) → Option Event → List Event
pick sh p w rest None = []
pick sh p w rest (Some e) = e ∷ after_step rest (step sh p w e)

-- one event a word, ending earlier where no event is useful
unfoldable pub picked : Shape → Program → List ℕ → World → List Event
picked sh p [] w = []
picked sh p (r ∷ rs) w = pick sh p w (picked sh p rs) (chosen r (useful sh p w))
