-- The event that a word chooses stands at the word modulo the number of events.
use Rattle.std.proofs.Common.{◌≡◌, ℕ, ◌%◌, ◌<◌, List, [], ◌∷◌, length, Option, Some, None, refl, ap, ◌∙◌, arith}
use Rattle.std.specs.Prelude.{slice_get, get_or, is_some, option_map, true}
use Rattle.std.proofs.lemmas.Option.{slice_get-get_or}
use Rattle.rules_bus.specs.State.{BusEvent}
use Rattle.rules_bus.specs.Useful.{bus_chosen}
use Rattle.bus_tcc.specs.Machine.{bus_event_of}
use Rattle.bus_tcc.specs.declared.event.BusEvent.{BusEvent as CodeEvent}

pub chosen-none : (r : ℕ) (l : List BusEvent) → length l ≡ 0 → bus_chosen r l ≡ None
unfolding bus_chosen
chosen-none r [] e = refl
chosen-none r (x ∷ xs) e = absurd (omega (arith, e))

pub none-chosen : (r : ℕ) (l : List BusEvent) → bus_chosen r l ≡ None → l ≡ []
unfolding bus_chosen
none-chosen r [] e = refl
none-chosen r (x ∷ xs) e = absurd (cc)

chosen-at : (r : ℕ) (l : List BusEvent) → 0 < length l → slice_get l (r % length l) ≡ bus_chosen r l
unfolding bus_chosen
chosen-at r [] h = absurd (omega (arith, h))
chosen-at r (x ∷ xs) h = slice_get-get_or (x ∷ xs) (r % length (x ∷ xs)) x (omega arith)

chosen-some : (r : ℕ) (l : List BusEvent) → 0 < length l → (e : BusEvent) × (bus_chosen r l ≡ Some e)
unfolding bus_chosen
chosen-some r [] h = absurd (omega (arith, h))
chosen-some r (x ∷ xs) h = (get_or (x ∷ xs) (r % length (x ∷ xs)) x, refl)

-- what is answered by number is the event that the word chooses, and there is one
pub answered-so : (o : Option CodeEvent) (word r n : ℕ) (l : List BusEvent) → n ≡ length l → word ≡ r
    → option_map bus_event_of o ≡ slice_get l (word % n) → 0 < n → option_map bus_event_of o ≡ bus_chosen r l
answered-so o word r n l c w a h =
    a ∙ ap (λ k. slice_get l (word % k)) c ∙ ap (λ k. slice_get l (k % length l)) w ∙ chosen-at r l (omega (arith, c, h))

pub is-one : (o : Option CodeEvent) (r : ℕ) (l : List BusEvent) → 0 < length l → option_map bus_event_of o ≡ bus_chosen r l
    → is_some o ≡ true
is-one None r l h e = let s = (chosen-some r l h).1 in absurd (cc)
is-one (Some x) r l h e = refl
