-- The events that random words pick by phases, one after another.
use Rattle.std.proofs.Common.{◌≡◌, ℕ, suc, ◌+◌, ◌-◌, ◌<◌, [], ◌∷◌, ◌++◌, length, map, append-nil, append_assoc, Some, None, refl, ap, sym}
use Rattle.std.proofs.Common.{◌∙◌, arith}
use Rattle.std.proofs.lemmas.List.{map-append, length_push}
use Rattle.base_lemmas.proofs.Lemmas.{fewer}
use Rattle.image_load.specs.Contents.{Contents, started}
use Rattle.image_load.specs.Start.{Start}
use Rattle.rand_core.specs.Steps.{first_words}
use Rattle.rand_pcg.specs.Lcg.{Lcg}
use Rattle.rand_pcg.specs.Pcg.{pcg32}
use Rattle.rules_maps.specs.Nodes.{Event}
use Rattle.tcc_msg.specs.Plain.{event_of}
use Rattle.tcc_msg.specs.declared.event.Event.{Event as CodeEvent}
use Rattle.rules_tcc.specs.Picked.{chosen}
use Rattle.rules_tcc.specs.Step.{History}
use Rattle.rules_riscv.specs.Starting.{at_start}
use Rattle.rules_phases.specs.Phased.{after_event, phased_next, phased_picked, phased_useful, pick}
use Rattle.net_core.specs.Machine.{history_of}
use Rattle.tcc_pick.specs.Words.{words}
use Rattle.tcc_phase.specs.Answers.{next_of}
use Rattle.tcc_phase.specs.Phased.{PhaseMachine, useful_in}

-- what words pick
picks-first : (s : Start) (k : ℕ) (g : Lcg) (h : History)
    → phased_picked s (words (suc k) g) h ≡ pick s h (phased_picked s (words k (pcg32 g).1)) (chosen (pcg32 g).0 (phased_useful s h))
unfolding phased_picked first_words
picks-first s k g h = refl

picks-none : (s : Start) (k : ℕ) (g : Lcg) (h : History) → chosen (pcg32 g).0 (phased_useful s h) ≡ None
    → phased_picked s (words (suc k) g) h ≡ []
picks-none s k g h e = picks-first s k g h ∙ ap (pick s h (phased_picked s (words k (pcg32 g).1))) e

picks-one : (s : Start) (k : ℕ) (g : Lcg) (h f : History) (e : Event) → chosen (pcg32 g).0 (phased_useful s h) ≡ Some e
    → phased_next s h e ≡ Some f → phased_picked s (words (suc k) g) h ≡ e ∷ phased_picked s (words k (pcg32 g).1) f
picks-one s k g h f e c n =
    picks-first s k g h ∙ ap (pick s h (phased_picked s (words k (pcg32 g).1))) c
    ∙ ap (λ o. e ∷ after_event (phased_picked s (words k (pcg32 g).1)) o) n

no-words : (s : Start) (k : ℕ) (g : Lcg) (h : History) → k ≡ 0 → phased_picked s (words k g) h ≡ []
unfolding phased_picked first_words
no-words s k g h e = ap (λ j. phased_picked s (words j g) h) e

-- after i words all that they picked was taken, and the words that are left pick the rest
pub record Going (c : Contents) (p : PhaseMachine) (f g : Lcg) (all i : ℕ) : Type 0 where
  pub code : p.refined.machine.cores.code ≡ c
  pub rest : phased_picked (started c) (words all f) (at_start (started c))
      ≡ map event_of p.refined.taken ++ phased_picked (started c) (words (all - i) g) (history_of p.refined.machine)
  pub events : p.refined.machine.events ≡ i
  pub count : length p.refined.taken ≡ i

-- nothing but where messages stand has changed
pub going-same : {c : Contents} {p : PhaseMachine} {f g : Lcg} {all i : ℕ} (q : PhaseMachine) → Going c p f g all i
    → history_of q.refined.machine ≡ history_of p.refined.machine → q.refined.taken ≡ p.refined.taken
    → q.refined.machine.events ≡ p.refined.machine.events → q.refined.machine.cores.code ≡ p.refined.machine.cores.code
    → Going c q f g all i
going-same {c} {p} {f} {g} {all} {i} q s h t e k = record {
  code = k ∙ s.code;
  rest = s.rest ∙ (λ j. map event_of (sym t j) ++ phased_picked (started c) (words (all - i) g) (sym h j));
  events = e ∙ s.events;
  count = ap length t ∙ s.count;
}

-- one word more
pub going-more : {c : Contents} {p : PhaseMachine} {f g : Lcg} {all i : ℕ} (q : PhaseMachine) (e : CodeEvent) → Going c p f g all i
    → i < all
    → chosen (pcg32 g).0 (useful_in p.refined.machine) ≡ Some (event_of e)
    → next_of p.refined.machine (event_of e) ≡ Some (history_of q.refined.machine) → q.refined.taken ≡ p.refined.taken ++ e ∷ []
    → q.refined.machine.events ≡ p.refined.machine.events + 1 → q.refined.machine.cores.code ≡ p.refined.machine.cores.code
    → Going c q f (pcg32 g).1 all (i + 1)
going-more {c} {p} {f} {g} {all} {i} q e s l chose next taken events code =
    let st : Start = started c in
    let h : History = history_of p.refined.machine in
    let chose-c : chosen (pcg32 g).0 (phased_useful st h) ≡ Some (event_of e) =
    ap (λ k. chosen (pcg32 g).0 (phased_useful (started k) h)) (sym s.code) ∙ chose in
    let next-c : phased_next st h (event_of e) ≡ Some (history_of q.refined.machine) =
    ap (λ k. phased_next (started k) h (event_of e)) (sym s.code) ∙ next in
    let rest = phased_picked st (words (all - (i + 1)) (pcg32 g).1) (history_of q.refined.machine) in
    let se = s.events in
    let sc = s.count in
    record {
      code = code ∙ s.code;
      rest = s.rest
          ∙ ap (λ es. map event_of p.refined.taken ++ es) (ap (λ k. phased_picked st (words k g) h) (fewer all i l)
          ∙ picks-one st (all - (i + 1)) g h (history_of q.refined.machine) (event_of e) chose-c next-c)
          ∙ sym (append_assoc (map event_of p.refined.taken) (event_of e ∷ []) rest)
          ∙ ap (λ es. es ++ rest) (sym (ap (map event_of) taken ∙ map-append event_of p.refined.taken (e ∷ [])));
      events = omega (arith, events, se);
      count = ap length taken ∙ length_push p.refined.taken e ∙ ap (λ k. k + 1) sc;
    }

-- where no event is left, or no word, all was taken
pub going-stops : {c : Contents} {p : PhaseMachine} {f g : Lcg} {all i : ℕ} → Going c p f g all i → i < all
    → chosen (pcg32 g).0 (useful_in p.refined.machine) ≡ None
    → map event_of p.refined.taken ≡ phased_picked (started c) (words all f) (at_start (started c))
going-stops {c} {p} {f} {g} {all} {i} s l none =
    let st : Start = started c in
    let h : History = history_of p.refined.machine in
    let none-c : chosen (pcg32 g).0 (phased_useful st h) ≡ None =
    ap (λ k. chosen (pcg32 g).0 (phased_useful (started k) h)) (sym s.code) ∙ none in
    sym (s.rest
    ∙ ap (λ es. map event_of p.refined.taken ++ es)
    (ap (λ k. phased_picked st (words k g) h) (fewer all i l) ∙ picks-none st (all - (i + 1)) g h none-c)
    ∙ append-nil (map event_of p.refined.taken))

pub going-ends : {c : Contents} {p : PhaseMachine} {f g : Lcg} {all i : ℕ} → Going c p f g all i → i ≡ all
    → map event_of p.refined.taken ≡ phased_picked (started c) (words all f) (at_start (started c))
going-ends {c} {p} {f} {g} {all} {i} s e =
    sym (s.rest
    ∙ ap (λ es. map event_of p.refined.taken ++ es)
    (no-words (started c) (all - i) g (history_of p.refined.machine) (omega (arith, e)))
    ∙ append-nil (map event_of p.refined.taken))
