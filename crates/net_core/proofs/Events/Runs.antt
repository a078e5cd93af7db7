-- Calls that leave the rules' state as it is, and events taken one after another.
use Rattle.std.proofs.Common.{◌≡◌, ◌≢◌, ℕ, zero, suc, ◌+◌, ◌↔◌, true, false, List, [], ◌∷◌, ◌++◌, map, take}
use Rattle.std.proofs.Common.{Option, Some, None, Ok, Err, IsErrOf, refl, ap, sym, ◌∙◌, subst, arith}
use Rattle.std.specs.Prelude.{slice_get, is_some}
use Rattle.std.proofs.lemmas.List.{map-append}
use Rattle.base_lemmas.proofs.Lemmas.{next-number}
use Rattle.image_load.specs.Contents.{started}
use Rattle.rv_code.specs.Machine.{program}
use Rattle.rules_maps.specs.Nodes.{Event}
use Rattle.tcc_msg.specs.Plain.{event_of, sends_of}
use Rattle.tcc_msg.specs.declared.event.Event.{Event as CodeEvent}
use Rattle.rules_tcc.specs.Step.{Stepped, and_then, next_history, recorded, run_from, step}
use Rattle.net_core.specs.Answers.{Answers, IsSent, Kept, Ran, StoppedAt, Took, acts_in, step_of, tid_noted}
use Rattle.net_core.specs.Machine.{Machine, history_of, program_of, settings_of, world_of}
use Rattle.net_core.specs.declared.taking.Step.{Step}
use Rattle.net_core.specs.declared.taking.StepError.{StepError}
use Rattle.net_core.specs.declared.taking.StepError.TheVariants.{Refused, Memory}
use Rattle.net_core.proofs.Running.{after-all}

-- ---- the state is as before

pub kept-step : (m n : Machine) (e : Event) → Kept m n → step_of n e ≡ step_of m e
unfolding history_of
kept-step m n e k = λ i. step (k.code i).settings (program (started (k.code i))) ((ap (λ h. h.world) k.history) i) e

pub kept-world : (m n : Machine) → Kept m n → world_of n ≡ world_of m
unfolding history_of
kept-world m n k = ap (λ h. h.world) k.history

pub kept-on : (m n o : Machine) → Kept m n → Kept n o → Kept m o
kept-on m n o k j = record { history = j.history ∙ k.history; events = j.events ∙ k.events; code = j.code ∙ k.code }

same-next : (m n : Machine) (e : Event) → Kept m n
    → next_history (settings_of m) (program_of m) (history_of m) e ≡ next_history (settings_of n) (program_of n) (history_of n) e
same-next m n e k = λ i. next_history (sym k.code i).settings (program (started (sym k.code i))) (sym k.history i) e

-- an event taken between two calls that keep the state
pub took-after : (m n o : Machine) (e : Event) (t : Step) → Kept m n → Took n o e t → Took m o e t
took-after m n o e t k w = record {
  next = same-next m n e k ∙ w.next;
  tells = w.tells ∙ ap tid_noted (kept-step m n e k);
  sent = subst (λ v. IsSent v (world_of o) (acts_in e) (sends_of o.last)) (kept-world m n k) w.sent;
  events = w.events ∙ ap (λ x. x + 1) k.events;
  code = w.code ∙ k.code;
}

pub answers-after : (m n o : Machine) (e : Event) (error : StepError) → Kept m n → Answers n o e (Err error) → Answers m o e (Err error)
answers-after m n o e Refused k a = (kept-on m n o k a.0, sym (kept-step m n e k) ∙ a.1)
answers-after m n o e Memory k a = (kept-on m n o k a.0, λ q. a.1 (kept-step m n e k ∙ q))

pub took-before : (m n o : Machine) (e : Event) (t : Step) → Took m n e t → Kept n o → o.last ≡ n.last → Took m o e t
took-before m n o e t w k last = record {
  next = w.next ∙ ap (λ h. Some h) (sym k.history);
  tells = w.tells;
  sent = subst (λ xs. IsSent (world_of m) (world_of o) (acts_in e) (sends_of xs)) (sym last)
      (subst (λ v. IsSent (world_of m) v (acts_in e) (sends_of n.last)) (sym (kept-world n o k)) w.sent);
  events = k.events ∙ w.events;
  code = k.code ∙ w.code;
}

-- ---- refused exactly where the event isn't enabled

pub refused-exactly : (m o : Machine) (e : Event) (error : StepError) → Answers m o e (Err error)
    → IsErrOf {T = Step} (Err error) Refused ↔ (step_of m e ≡ None)
refused-exactly m o e Refused a = (λ q. a.1, λ q. refl)
refused-exactly m o e Memory a = (λ q. absurd (cc), λ q. absurd (a.1 q))

pub taken-exactly : (m o : Machine) (e : Event) (t : Step) → Took m o e t → IsErrOf (Ok t) Refused ↔ (step_of m e ≡ None)
unfolding next_history history_of
taken-exactly m o e t w = (
  λ q. absurd (cc),
  λ q. let n = w.next in let none : None ≡ Some (history_of o) = sym (nothing q)
      ∙ n in absurd (cc),
)
  where
    nothing : step_of m e ≡ None → next_history (settings_of m) (program_of m) (history_of m) e ≡ None
    nothing q = ap (recorded (history_of m)) q

is-none : (o : Option Stepped) → false ≡ is_some o → o ≡ None
is-none None e = refl
is-none (Some x) e = absurd (cc)

is-not_none : (o : Option Stepped) → true ≡ is_some o → o ≢ None
is-not_none None e q = absurd (cc)
is-not_none (Some x) e q = absurd (cc)

-- where there was no memory to prepare, what `enabled` says tells the two apart
pub wanting : (m n : Machine) (e : Event) → Kept m n → true ≡ is_some (step_of n e) → Answers m n e (Err Memory)
wanting m n e k h = (k, λ q. is-not_none (step_of n e) h (kept-step m n e k ∙ q))

pub not-enabled : (m n : Machine) (e : Event) → Kept m n → false ≡ is_some (step_of n e) → Answers m n e (Err Refused)
not-enabled m n e k h = (k, sym (kept-step m n e k) ∙ is-none (step_of n e) h)

-- ---- one after another

-- so many were taken
pub record RanSo (m n : Machine) (k : ℕ) (es : List CodeEvent) : Type 0 where
  pub ran : Ran m n k es
  pub events : n.events ≡ m.events + k
  pub code : n.cores.code ≡ m.cores.code

pub ran-none : (m : Machine) (es : List CodeEvent) → RanSo m m 0 es
unfolding run_from
ran-none m es = record { ran = refl; events = omega arith; code = refl }

pub one-more : (es : List CodeEvent) (k : ℕ) (e : CodeEvent) → slice_get es k ≡ Some e → take (suc k) es ≡ take k es ++ e ∷ []
one-more [] k e h = absurd (cc)
one-more (x ∷ es) zero e h = let same : x ≡ e = cc in ap (λ y. y ∷ []) same
one-more (x ∷ es) (suc k) e h = ap (λ ys. x ∷ ys) (one-more es k e h)

pub same-code : (m n : Machine) (e : Event) → n.cores.code ≡ m.cores.code
    → next_history (settings_of m) (program_of m) (history_of n) e ≡ next_history (settings_of n) (program_of n) (history_of n) e
same-code m n e c = λ i. next_history (sym c i).settings (program (started (sym c i))) (history_of n) e

pub ran-more : (m n o : Machine) (k : ℕ) (es : List CodeEvent) (e : CodeEvent) → RanSo m n k es → slice_get es k ≡ Some e
    → next_history (settings_of n) (program_of n) (history_of n) (event_of e) ≡ Some (history_of o) → o.events ≡ n.events + 1
    → o.cores.code ≡ n.cores.code → RanSo m o (k + 1) es
ran-more m n o k es e r at step count code = record {
  ran = ap (λ xs. run_from (settings_of m) (program_of m) xs (history_of m))
      (ap (map event_of) (ap (λ j. take j es) (next-number k) ∙ one-more es k e at) ∙ map-append event_of (take k es) (e ∷ []))
      ∙ after-all (settings_of m) (program_of m) (event_of e) (map event_of (take k es)) (history_of m)
      ∙ ap (and_then (λ h. next_history (settings_of m) (program_of m) h (event_of e))) r.ran
      ∙ same-code m n (event_of e) r.code ∙ step;
  events = let b = r.events in omega (arith, count, b);
  code = code ∙ r.code;
}

-- what `step` answers, from its clauses
pub answers-by : (m n : Machine) (e : Event) (error : StepError) → Kept m n → IsErrOf {T = Step} (Err error) Refused ↔ (step_of m e ≡ None)
    → Answers m n e (Err error)
answers-by m n e Refused k r = (k, r.0 refl)
answers-by m n e Memory k r = (k, λ q. let p = r.1 q in absurd (cc))

pub stopped-at : (m n o : Machine) (k : ℕ) (es : List CodeEvent) (e : CodeEvent) (error : StepError) → RanSo m n k es
    → slice_get es k ≡ Some e
    → Answers n o (event_of e) (Err error) → StoppedAt m o k es error
stopped-at m n o k es e Refused r at a = record {
  event = e;
  at = at;
  ran = r.ran ∙ ap (λ h. Some h) (sym a.0.history);
  refused = λ q. kept-step n o (event_of e) a.0 ∙ a.1;
  wanting = λ q. absurd (cc);
}
stopped-at m n o k es e Memory r at a = record {
  event = e;
  at = at;
  ran = r.ran ∙ ap (λ h. Some h) (sym a.0.history);
  refused = λ q. absurd (cc);
  wanting = λ q h. a.1 (sym (kept-step n o (event_of e) a.0) ∙ h);
}
