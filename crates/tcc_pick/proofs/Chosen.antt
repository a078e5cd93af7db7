-- The event that a word chooses stands at the word modulo the number of events.
use Rattle.std.proofs.Common.{◌≡◌, ℕ, ◌%◌, ◌<◌, List, [], ◌∷◌, length, Option, Some, None, refl, ap, ◌∙◌, arith}
use Rattle.std.specs.Prelude.{slice_get, get_or, is_some, option_map, true}
use Rattle.std.proofs.lemmas.Option.{slice_get-get_or}
use Rattle.rules_maps.specs.Nodes.{Event}
use Rattle.tcc_msg.specs.Plain.{event_of}
use Rattle.tcc_msg.specs.declared.event.Event.{Event as CodeEvent}
use Rattle.rules_tcc.specs.Picked.{chosen}

pub chosen-none : (r : ℕ) (l : List Event) → length l ≡ 0 → chosen r l ≡ None
unfolding chosen
chosen-none r [] e = refl
chosen-none r (x ∷ xs) e = absurd (omega (arith, e))

pub chosen-at : (r : ℕ) (l : List Event) → 0 < length l → slice_get l (r % length l) ≡ chosen r l
unfolding chosen
chosen-at r [] h = absurd (omega (arith, h))
chosen-at r (x ∷ xs) h = slice_get-get_or (x ∷ xs) (r % length (x ∷ xs)) x (omega arith)

pub chosen-some : (r : ℕ) (l : List Event) → 0 < length l → (e : Event) × (chosen r l ≡ Some e)
unfolding chosen
chosen-some r [] h = absurd (omega (arith, h))
chosen-some r (x ∷ xs) h = (get_or (x ∷ xs) (r % length (x ∷ xs)) x, refl)

-- what is answered by number is the event that the word chooses, and there is one
pub answered-so : (o : Option CodeEvent) (word r n : ℕ) (l : List Event) → n ≡ length l → word ≡ r
    → option_map event_of o ≡ slice_get l (word % n) → 0 < n → option_map event_of o ≡ chosen r l
answered-so o word r n l c w a h =
    a ∙ ap (λ k. slice_get l (word % k)) c ∙ ap (λ k. slice_get l (k % length l)) w ∙ chosen-at r l (omega (arith, c, h))

pub is-one : (o : Option CodeEvent) (r : ℕ) (l : List Event) → 0 < length l → option_map event_of o ≡ chosen r l → is_some o ≡ true
is-one None r l h e = let s = (chosen-some r l h).1 in absurd (cc)
is-one (Some x) r l h e = refl
