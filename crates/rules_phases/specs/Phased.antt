-- Runs in which earlier phases commit before later ones: a core's request for a TID is held back while another core that hasn't halted is
-- in an earlier phase. All other events happen as they do without phases.
use Rattle.std.specs.Prelude.{ℕ, Bool, true, false, not, List, [], ◌∷◌, filter, Option, Some, None, nat_lt, ◌&&◌}
use Rattle.std.specs.Prelude.{if◌then◌else◌}
use Rattle.image_load.specs.Start.{Start}
use Rattle.rv_code.specs.Machine.{program}
use Rattle.rules_maps.specs.Nodes.{Core, Vendor, Event, Deliver}
use Rattle.rules_maps.specs.Words.{any_below}
use Rattle.rules_tcc.specs.Picked.{chosen}
use Rattle.rules_tcc.specs.State.{Phase, Halted}
use Rattle.rules_tcc.specs.Step.{History, next_history, and_then}
use Rattle.rules_tcc.specs.Useful.{useful}
use Rattle.rules_phases.specs.Phases.{phase_of}

abbrev pub has_halted : Phase → Bool
has_halted Halted = true
has_halted _ = false

-- core j hasn't halted, and is in an earlier phase
abbrev pub goes_before : Start → History → (core j : ℕ) → Bool
goes_before s h c j = not (has_halted (h.world.cores j).phase) && nat_lt (phase_of s h j) (phase_of s h c)

-- some core does
unfoldable pub is_late : Start → History → (core : ℕ) → Bool
is_late s h c = any_below (goes_before s h c) s.settings.cores

-- the delivery of the request of a late core is held back; a core says nothing else to the vendor
unfoldable pub is_held : Start → History → Event → Bool
is_held s h (Deliver (Core c) Vendor k) = is_late s h c
is_held s h _ = false

-- the state and the commits after an event; None: it isn't enabled, or it is held back
unfoldable pub phased_next : Start → History → Event → Option History
phased_next s h e = if is_held s h e then None else next_history s.settings (program s) h e

-- the events one after another, each enabled and not held back where it comes
unfoldable pub phased_from : Start → List Event → History → Option History
phased_from s [] h = Some h
phased_from s (e ∷ es) h = and_then (phased_from s es) (phased_next s h e)

-- the useful events that aren't held back, in their order
unfoldable pub phased_useful : Start → History → List Event
phased_useful s h = filter (λ e. not (is_held s h e)) (useful s.settings (program s) h.world)

abbrev pub after_event : (History → List Event) → Option History → List Event
after_event rest None = []
after_event rest (Some h) = rest h

abbrev pub pick : Start → History → (rest : History → List Event) → Option Event → List Event
pick s h rest None = []
pick s h rest (Some e) = e ∷ after_event rest (phased_next s h e)

-- the schedule that a chooser takes from a list of random words: one event a word, ending earlier where no event is useful
unfoldable pub phased_picked : Start → List ℕ → History → List Event
phased_picked s [] h = []
phased_picked s (r ∷ rs) h = pick s h (phased_picked s rs) (chosen r (phased_useful s h))
