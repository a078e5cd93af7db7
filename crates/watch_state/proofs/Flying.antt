-- On a link the messages in flight are all of which anything is written.
use Rattle.std.proofs.Common.{◌≡◌, ℕ, false, List, [], ◌∷◌, ◌++◌, append-nil, length, Option, Some, None, is_some, refl, ap, sym, ◌∙◌}
use Rattle.std.specs.List.{flat_map}
use Rattle.std.proofs.lemmas.List.Folds.{flat_map-map}
use Rattle.rules_maps.specs.Nodes.{Node, Event, Deliver, Msg}
use Rattle.rules_maps.specs.Words.{those}
use Rattle.rules_tcc.specs.Links.{in_flight}
use Rattle.rules_tcc.specs.Seen.{numbers}
use Rattle.rules_tcc.specs.State.{World}
use Rattle.rules_tcc.specs.Step.{is_enabled}
use Rattle.net_core.proofs.Lemmas.{absent-refused}
use Rattle.net_core.specs.Machine.{Machine, program_of, settings_of, world_of}
use Rattle.watch_state.specs.Events.{link_delivers}
use Rattle.watch_state.specs.Lines.{led_lines, record_line}
use Rattle.watch_state.specs.Records.{InFlight}
use Rattle.watch_state.specs.Text.{event_text, events_text, flight_record, link_records}
use Rattle.watch_state.proofs.Listed.{flat-flat, only-those}

-- the numbers of those in flight on a link
abbrev pub flying_on : World → (src dst : Node) → List ℕ
flying_on w src dst = those (λ k. is_some (in_flight w.net src dst k)) (length (w.net src dst))

-- ---- their records

abbrev pub flight_lines : (lead : List ℕ) → World → (src dst : Node) → ℕ → List ℕ
flight_lines lead w src dst k = led_lines lead (flight_record src dst k (in_flight w.net src dst k))

none-flies : (lead : List ℕ) (src dst : Node) (k : ℕ) (o : Option Msg) → is_some o ≡ false
    → led_lines lead (flight_record src dst k o) ≡ []
unfolding led_lines
none-flies lead src dst k None e = refl
none-flies lead src dst k (Some m) e = absurd (cc)

pub flight-written : (lead : List ℕ) (w : World) (src dst : Node) (k : ℕ) (m : Msg) → in_flight w.net src dst k ≡ Some m
    → lead ++ record_line (InFlight src dst k m) ≡ flight_lines lead w src dst k
unfolding led_lines
flight-written lead w src dst k m e =
    sym (ap (λ o. led_lines lead (flight_record src dst k o)) e ∙ append-nil (lead ++ record_line (InFlight src dst k m)))

pub flights-written : (lead : List ℕ) (w : World) (src dst : Node)
    → flat_map (flight_lines lead w src dst) (flying_on w src dst) ≡ led_lines lead (link_records w src dst)
unfolding link_records led_lines
flights-written lead w src dst =
    only-those (flight_lines lead w src dst) (λ k. is_some (in_flight w.net src dst k))
    (λ k e. none-flies lead src dst k (in_flight w.net src dst k) e) (length (w.net src dst))
    ∙ sym (flat-flat (λ r. lead ++ record_line r) (λ k. flight_record src dst k (in_flight w.net src dst k))
    (numbers (length (w.net src dst))))

-- ---- their deliveries

-- what is written of an event
abbrev pub text_of_event : Machine → Event → List ℕ
text_of_event m e = event_text (settings_of m) (program_of m) (world_of m) e

abbrev pub deliver_text : Machine → (src dst : Node) → ℕ → List ℕ
deliver_text m src dst k = text_of_event m (Deliver src dst k)

not-some : (o : Option Msg) → is_some o ≡ false → o ≡ None
not-some None e = refl
not-some (Some m) e = absurd (cc)

none-delivered : (m : Machine) (src dst : Node) (k : ℕ) → is_some (in_flight (world_of m).net src dst k) ≡ false
    → deliver_text m src dst k ≡ []
unfolding event_text is_enabled
none-delivered m src dst k e =
    let absent = absent-refused m src dst k (not-some (in_flight (world_of m).net src dst k) e) in
    rw absent refl

pub delivers-written : (m : Machine) (src dst : Node)
    → flat_map (deliver_text m src dst) (flying_on (world_of m) src dst)
    ≡ events_text (settings_of m) (program_of m) (world_of m) (link_delivers (world_of m) src dst)
unfolding events_text link_delivers
delivers-written m src dst =
    only-those (deliver_text m src dst) (λ k. is_some (in_flight (world_of m).net src dst k)) (none-delivered m src dst)
    (length ((world_of m).net src dst))
    ∙ sym (flat_map-map (text_of_event m) (λ k. Deliver src dst k) (numbers (length ((world_of m).net src dst))))
