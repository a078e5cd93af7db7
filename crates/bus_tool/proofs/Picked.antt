-- The events that random words pick, one after another.
use Rattle.std.proofs.Common.{◌≡◌, ℕ, suc, ◌+◌, ◌-◌, ◌<◌, ◌≤◌, [], ◌∷◌, List, length, Option, Some, None, refl, ap, sym, ◌∙◌, arith}
use Rattle.base_lemmas.proofs.Lemmas.{fewer}
use Rattle.image_load.specs.Contents.{started}
use Rattle.rand_core.specs.Steps.{first_words}
use Rattle.rand_pcg.specs.Lcg.{Lcg}
use Rattle.rand_pcg.specs.Pcg.{pcg32}
use Rattle.rv_code.specs.Machine.{program}
use Rattle.rules_bus.specs.State.{BusEvent}
use Rattle.rules_bus.specs.Step.{BusHistory, and_then, bus_from, bus_next}
use Rattle.rules_bus.specs.Useful.{after_event, bus_chosen, bus_pick, bus_picked}
use Rattle.bus_tcc.specs.Chosen.{bus_useful_of}
use Rattle.bus_tcc.specs.Machine.{BusMachine, bus_history_of, bus_program_of, bus_settings_of}
use Rattle.bus_tool.specs.Picking.{TookPicked, picks}
use Rattle.bus_tool.proofs.Chosen.{none-chosen}

-- ---- what words pick

-- the event that a generator's next word chooses
abbrev pub chosen_at : Lcg → BusMachine → Option BusEvent
chosen_at g m = bus_chosen (pcg32 g).0 (bus_useful_of m)

picks-first : (k : ℕ) (g : Lcg) (m : BusMachine)
    → picks (suc k) g m
    ≡ bus_pick (bus_settings_of m) (bus_program_of m) (bus_history_of m)
    (bus_picked (bus_settings_of m) (bus_program_of m) (first_words pcg32 k (pcg32 g).1)) (chosen_at g m)
unfolding bus_picked first_words bus_history_of
picks-first k g m = refl

pub picks-none : (k : ℕ) (g : Lcg) (m : BusMachine) → chosen_at g m ≡ None → picks (suc k) g m ≡ []
picks-none k g m e = picks-first k g m
    ∙ ap (bus_pick (bus_settings_of m) (bus_program_of m) (bus_history_of m)
    (bus_picked (bus_settings_of m) (bus_program_of m) (first_words pcg32 k (pcg32 g).1))) e

pub no-words : (k : ℕ) (g : Lcg) (m : BusMachine) → k ≡ 0 → picks k g m ≡ []
unfolding bus_picked first_words
no-words k g m e = ap (λ j. picks j g m) e

-- the same words pick the same of the same program
same-code : (k : ℕ) (g : Lcg) (m n : BusMachine) → n.code ≡ m.code
    → bus_picked (bus_settings_of m) (bus_program_of m) (first_words pcg32 k g) (bus_history_of n) ≡ picks k g n
same-code k g m n c =
    λ i. bus_picked (sym c i).settings (program (started (sym c i))) (first_words pcg32 k g) (bus_history_of n)

pub picks-one : (k : ℕ) (g : Lcg) (m n : BusMachine) (e : BusEvent) → chosen_at g m ≡ Some e
    → bus_next (bus_settings_of m) (bus_program_of m) (bus_history_of m) e ≡ Some (bus_history_of n) → n.code ≡ m.code
    → picks (suc k) g m ≡ e ∷ picks k (pcg32 g).1 n
picks-one k g m n e c s code =
    let rest = bus_picked (bus_settings_of m) (bus_program_of m) (first_words pcg32 k (pcg32 g).1) in
    picks-first k g m ∙ ap (bus_pick (bus_settings_of m) (bus_program_of m) (bus_history_of m) rest) c
    ∙ ap (λ o. e ∷ after_event rest o) s ∙ ap (λ es. e ∷ es) (same-code k (pcg32 g).1 m n code)

-- ---- from one machine to the next

-- what is taken from here
abbrev runs : BusMachine → List BusEvent → Option BusHistory
runs m es = bus_from (bus_settings_of m) (bus_program_of m) es (bus_history_of m)

runs-one : (m n : BusMachine) (e : BusEvent) (es : List BusEvent)
    → bus_next (bus_settings_of m) (bus_program_of m) (bus_history_of m) e ≡ Some (bus_history_of n) → n.code ≡ m.code
    → runs m (e ∷ es) ≡ runs n es
unfolding bus_from
runs-one m n e es s code =
    ap (and_then (bus_from (bus_settings_of m) (bus_program_of m) es)) s
    ∙ (λ i. bus_from (sym code i).settings (program (started (sym code i))) es (bus_history_of n))

runs-none : (m : BusMachine) (es : List BusEvent) → es ≡ [] → runs m es ≡ Some (bus_history_of m)
unfolding bus_from
runs-none m es e = ap (runs m) e

-- after i words, what all words pick from the first machine comes to what the words that are left pick from this one
pub record Going (m n : BusMachine) (f g : Lcg) (all i : ℕ) : Type 0 where
  pub code : n.code ≡ m.code
  pub run : runs m (picks all f m) ≡ runs n (picks (all - i) g n)
  pub count : length (picks all f m) ≡ i + length (picks (all - i) g n)
  pub events : n.events ≡ m.events + i

pub going-none : (m : BusMachine) (g : Lcg) (all : ℕ) → Going m m g g all 0
going-none m g all =
    let same : all ≡ all - 0 = omega arith in
    let long : length (picks all g m) ≡ length (picks (all - 0) g m) = ap (λ k. length (picks k g m)) same in
    record {
      code = refl;
      run = ap (λ k. runs m (picks k g m)) same;
      count = omega (arith, long);
      events = omega arith;
    }

pub going-more : {m n : BusMachine} {f g : Lcg} {all i : ℕ} (o : BusMachine) (e : BusEvent) → Going m n f g all i → i < all
    → chosen_at g n ≡ Some e
    → bus_next (bus_settings_of n) (bus_program_of n) (bus_history_of n) e ≡ Some (bus_history_of o) → o.events ≡ n.events + 1
    → o.code ≡ n.code → Going m o f (pcg32 g).1 all (i + 1)
going-more {m} {n} {f} {g} {all} {i} o e s l chose next events code =
    let one : picks (all - i) g n ≡ e ∷ picks (all - (i + 1)) (pcg32 g).1 o =
    ap (λ k. picks k g n) (fewer all i l) ∙ picks-one (all - (i + 1)) g n o e chose next code in
    let count = s.count in
    let longer = ap length one in
    let before = s.events in
    record {
      code = code ∙ s.code;
      run = s.run ∙ ap (runs n) one ∙ runs-one n o e (picks (all - (i + 1)) (pcg32 g).1 o) next code;
      count = omega (arith, count, longer);
      events = omega (arith, events, before);
    }

-- nothing is picked any more
ends : {m n : BusMachine} {f g : Lcg} {all i : ℕ} → Going m n f g all i → i ≤ all → picks (all - i) g n ≡ []
    → (i < all → bus_useful_of n ≡ []) → TookPicked m n f all
ends {m} {n} {f} {g} {all} {i} s l none stuck =
    let count = s.count in
    let empty = ap length none in
    let so : length (picks all f m) ≡ i = omega (arith, count, empty) in
    let before = s.events in
    record {
      ran = s.run ∙ runs-none n (picks (all - i) g n) none;
      events = omega (arith, so, before);
      few = omega (arith, so, l);
      stuck = λ h. stuck (omega (arith, so, h));
      code = s.code;
    }

-- no event is useful
pub going-stops : {m n : BusMachine} {f g : Lcg} {all i : ℕ} → Going m n f g all i → i < all → chosen_at g n ≡ None
    → TookPicked m n f all
going-stops {m} {n} {f} {g} {all} {i} s l none =
    ends s (omega (arith, l)) (ap (λ k. picks k g n) (fewer all i l) ∙ picks-none (all - (i + 1)) g n none)
    (λ h. none-chosen (pcg32 g).0 (bus_useful_of n) none)

-- all words are drawn
pub going-ends : {m n : BusMachine} {f g : Lcg} {all i : ℕ} → Going m n f g all i → i ≡ all → TookPicked m n f all
going-ends {m} {n} {f} {g} {all} {i} s e =
    ends s (omega (arith, e)) (no-words (all - i) g n (omega (arith, e))) (λ h. absurd (omega (arith, e, h)))
