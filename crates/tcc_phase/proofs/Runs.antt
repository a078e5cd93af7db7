-- Events taken by phases one after another.
use Rattle.std.proofs.Common.{◌≡◌, ℕ, zero, suc, ◌+◌, ◌<◌, ◌↔◌, length, List, [], ◌∷◌, ◌++◌, map, take, Some, None, Err, IsErrOf, refl}
use Rattle.std.proofs.Common.{ap, sym, ◌∙◌, arith}
use Rattle.std.specs.Prelude.{slice_get}
use Rattle.std.proofs.lemmas.List.{map-append}
use Rattle.base_lemmas.proofs.Lemmas.{next-number}
use Rattle.image_load.specs.Contents.{started}
use Rattle.rules_maps.specs.Nodes.{Event}
use Rattle.tcc_msg.specs.Plain.{event_of}
use Rattle.tcc_msg.specs.declared.event.Event.{Event as CodeEvent}
use Rattle.rules_phases.specs.Phased.{phased_from, phased_next}
use Rattle.net_core.specs.Machine.{Machine, history_of, start_of}
use Rattle.net_core.specs.declared.taking.Step.{Step}
use Rattle.net_core.specs.declared.taking.StepError.{StepError}
use Rattle.net_core.specs.declared.taking.StepError.TheVariants.{Refused, Memory}
use Rattle.tcc_phase.specs.Answers.{Ran, StoppedAt, next_of}
use Rattle.tcc_phase.proofs.Keeping.Following.{phased-on}
use Rattle.net_core.proofs.Lemmas.{one-more}

-- so many were taken
pub record RanSo (m n : Machine) (k : ℕ) (es : List CodeEvent) : Type 0 where
  pub ran : Ran m n k es
  pub events : n.events ≡ m.events + k
  pub code : n.cores.code ≡ m.cores.code

pub ran-none : (m : Machine) (es : List CodeEvent) → RanSo m m 0 es
unfolding phased_from
ran-none m es = record { ran = refl; events = omega arith; code = refl }

pub ran-more : (m n o : Machine) (k : ℕ) (es : List CodeEvent) (e : CodeEvent) → RanSo m n k es → slice_get es k ≡ Some e
    → next_of n (event_of e) ≡ Some (history_of o) → o.events ≡ n.events + 1 → o.cores.code ≡ n.cores.code → RanSo m o (k + 1) es
ran-more m n o k es e r at step count code = record {
  ran = ap (λ xs. phased_from (start_of m) xs (history_of m))
      (ap (map event_of) (ap (λ j. take j es) (next-number k) ∙ one-more es k e at) ∙ map-append event_of (take k es) (e ∷ []))
      ∙ phased-on (start_of m) (event_of e) (map event_of (take k es)) (history_of m) (history_of n) (history_of o) r.ran
      (ap (λ c. phased_next (started c) (history_of n) (event_of e)) (sym r.code) ∙ step);
  events = let b = r.events in omega (arith, count, b);
  code = code ∙ r.code;
}

-- nothing has happened, so the event is what it was
same-next : (n o : Machine) (e : Event) → history_of o ≡ history_of n → o.cores.code ≡ n.cores.code → next_of o e ≡ next_of n e
same-next n o e h c = λ i. phased_next (started (c i)) (h i) e

pub stopped-at : (m n o : Machine) (k : ℕ) (es : List CodeEvent) (e : CodeEvent) (error : StepError) → RanSo m n k es
    → slice_get es k ≡ Some e
    → history_of o ≡ history_of n → o.cores.code ≡ n.cores.code → IsErrOf {T = Step} (Err error) Refused ↔ (next_of n (event_of e) ≡ None)
    → StoppedAt m o k es error
stopped-at m n o k es e Refused r at h c a = record {
  event = e;
  at = at;
  ran = r.ran ∙ ap (λ x. Some x) (sym h);
  refused = λ q. same-next n o (event_of e) h c ∙ a.0 refl;
  wanting = λ q. absurd (cc);
}
stopped-at m n o k es e Memory r at h c a = record {
  event = e;
  at = at;
  ran = r.ran ∙ ap (λ x. Some x) (sym h);
  refused = λ q. absurd (cc);
  wanting = λ q none. let s = a.1 (sym (same-next n o (event_of e) h c) ∙ none) in absurd (cc);
}

-- ---- one after another from a list

-- one more event of the list
pub took-more : (us : List Event) (k : ℕ) (x : Event) → slice_get us k ≡ Some x → take (k + 1) us ≡ take k us ++ x ∷ []
took-more us k x h = ap (λ j. take j us) (next-number k) ∙ go us k h
  where
    go : (us : List Event) (k : ℕ) → slice_get us k ≡ Some x → take (suc k) us ≡ take k us ++ x ∷ []
    go [] k h = absurd (cc)
    go (y ∷ us) zero h = let same : y ≡ x = cc in ap (λ z. z ∷ []) same
    go (y ∷ us) (suc k) h = ap (λ ys. y ∷ ys) (go us k h)

pub none-past : (us : List Event) (k : ℕ) → slice_get us k ≡ None → k < length us → ⊥
none-past [] k e l = omega (arith, l)
none-past (x ∷ us) zero e l = cc
none-past (x ∷ us) (suc k) e l = none-past us k e (omega (arith, l))
