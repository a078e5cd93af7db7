-- Words stand for one command at most.
use Rattle.std.proofs.Common.{◌≡◌, ℕ, ◌+◌, ◌*◌, ◌==◌, if◌then◌else◌, List, [], ◌∷◌, Some, map, get_or, refl, sym, ap, subst, ◌∙◌}
use Rattle.std.specs.Prelude.{option_map, slice_get}
use Rattle.std.specs.Borrow.{Bor}
use Rattle.clap.specs.Faults.{fault_of}
use Rattle.clap.specs.Walk.{Row, Text}
use Rattle.clap.specs.Words.{matches_of}
use Rattle.tcc_words.specs.Asked.{HasPlaces, IsRefused, Stands}
use Rattle.tcc_words.specs.Grammar.{IsRefusal, grammar, verb_word}
use Rattle.tcc_words.specs.declared.command.WordsFault.{WordsFault}
use Rattle.tcc_words.specs.declared.command.WordsFault.TheVariants as fault
use Rattle.tcc_words.specs.declared.command.Verb.{Verb}
use Rattle.tcc_words.specs.declared.command.Verb.TheVariants.{Run, Replay, Serial, Trial, Why, Phases, Bus, Trace, Count, State}
use Rattle.tcc_words.specs.declared.command.Verb.TheVariants.{Outcomes, Follow}

-- a number by which the names of commands differ
tag : Text → ℕ
tag text = 4 * get_or text 0 0 + get_or text 2 0

tagged : ℕ → Verb
tagged n =
    if n == 566 then Run else if n == 568 then Replay else if n == 574 then Serial else if n == 569 then Trial
    else if n == 597 then Why else if n == 545 then Phases else if n == 507 then Bus else if n == 561 then Trace
    else if n == 513 then Count else if n == 557 then State
    else if n == 516 then Follow else Outcomes

tagged-again : (v : Verb) → tagged (tag (verb_word v)) ≡ v
unfolding tag tagged
tagged-again Run = refl
tagged-again Replay = refl
tagged-again Serial = refl
tagged-again Trial = refl
tagged-again Why = refl
tagged-again Phases = refl
tagged-again Bus = refl
tagged-again Trace = refl
tagged-again Count = refl
tagged-again State = refl
tagged-again Outcomes = refl
tagged-again Follow = refl

verb-same : (v w : Verb) → verb_word v ≡ verb_word w → v ≡ w
verb-same v w e = sym (tagged-again v) ∙ ap (λ (text : Text). tagged (tag text)) e ∙ tagged-again w

some-same : (a b : Text) → Some a ≡ Some b → a ≡ b
some-same a b e = cc

-- the command that words stand for is the one that their first word names
pub stands-verb : (words : List Text) (verb other : Verb) (rows : List Row) → slice_get words 0 ≡ Some (verb_word verb)
    → Stands words other rows → other ≡ verb
stands-verb words verb other rows first s = verb-same other verb (some-same _ _ (sym s.first ∙ first))

-- where clap refuses them, they stand for none
pub refused-stands_not : (words : List Text) (verb other : Verb) (rows : List Row) → slice_get words 0 ≡ Some (verb_word verb)
    → (fault_of (grammar verb) words ≡ [] → ⊥) → Stands words other rows → ⊥
refused-stands_not words verb other rows first refused s =
    refused (ap (λ v. fault_of (grammar v) words) (sym (stands-verb words verb other rows first s)) ∙ s.taken)

-- and where a place is missing
pub placeless-stands_not : (words : List Text) (verb other : Verb) (read rows : List Row) → slice_get words 0 ≡ Some (verb_word verb)
    → read ≡ matches_of (grammar verb) words → (HasPlaces verb read → ⊥) → Stands words other rows → ⊥
placeless-stands_not words verb other read rows first is missing s =
    let same : other ≡ verb = stands-verb words verb other rows first s in
    let found : rows ≡ read = sym s.read ∙ (ap (λ v. matches_of (grammar v) words) same ∙ sym is) in
    missing (subst (λ v. HasPlaces v read) same (subst (HasPlaces other) found s.places))

-- the text of the first word
pub first-text : (words : List (Bor Text)) (word : Bor Text) → slice_get words 0 ≡ Some word
    → slice_get (map (λ w. w.now) words) 0 ≡ Some word.now
first-text [] word e = cc
first-text (w ∷ words) word e = ap (option_map (λ x. x.now)) e

-- clap's refusal is one of the words
pub refusal : (words : List Text) (verb : Verb) (why : WordsFault) → slice_get words 0 ≡ Some (verb_word verb)
    → IsRefusal (fault_of (grammar verb) words) why → IsRefused words why
refusal words verb fault.Words first h = λ other rows s. refused-stands_not words verb other rows first h s
refusal words verb (fault.Value field) first h = absurd h
refusal words verb fault.Memory first h = tt
