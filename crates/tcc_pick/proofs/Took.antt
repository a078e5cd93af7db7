-- A machine that takes events one after another, with the list of what it took.
use Rattle.std.proofs.Common.{◌≡◌, ◌+◌, List, [], ◌∷◌, ◌++◌, map, append-nil, append_assoc}
use Rattle.std.proofs.Common.{Some, refl, ap, sym, ◌∙◌, arith}
use Rattle.std.proofs.lemmas.List.{map-append}
use Rattle.base_lemmas.proofs.Lemmas.{one-longer}
use Rattle.rules_maps.specs.Nodes.{Event}
use Rattle.tcc_msg.specs.Plain.{event_of}
use Rattle.tcc_msg.specs.declared.event.Event.{Event as CodeEvent}
use Rattle.rules_tcc.specs.Step.{and_then, next_history, run_from}
use Rattle.net_core.specs.Machine.{history_of, program_of, settings_of}
use Rattle.tcc_refine.specs.Refined.{Refined}
use Rattle.tcc_pick.specs.Picking.{TookAll}
use Rattle.net_core.proofs.Lemmas.{after-all, same-code}

-- a call that leaves the rules' state and the list as they are
pub record Same (m n : Refined) : Type 0 where
  pub history : history_of n.machine ≡ history_of m.machine
  pub taken : n.taken ≡ m.taken
  pub events : n.machine.events ≡ m.machine.events
  pub code : n.machine.cores.code ≡ m.machine.cores.code

-- a call that takes an event
pub record Takes (m n : Refined) (e : CodeEvent) : Type 0 where
  pub next : next_history (settings_of m.machine) (program_of m.machine) (history_of m.machine) (event_of e) ≡ Some (history_of n.machine)
  pub taken : n.taken ≡ m.taken ++ e ∷ []
  pub events : n.machine.events ≡ m.machine.events + 1
  pub code : n.machine.cores.code ≡ m.machine.cores.code

pub took-none : (m : Refined) → TookAll m m []
unfolding run_from
took-none m = record { taken = sym (append-nil (map event_of m.taken)); ran = refl; events = omega arith; code = refl }

pub took-same : (m n o : Refined) (es : List Event) → TookAll m n es → Same n o → TookAll m o es
took-same m n o es t s = record {
  taken = ap (map event_of) s.taken ∙ t.taken;
  ran = t.ran ∙ ap (λ h. Some h) (sym s.history);
  events = s.events ∙ t.events;
  code = s.code ∙ t.code;
}

pub took-more : (m n o : Refined) (es : List Event) (e : CodeEvent) → TookAll m n es → Takes n o e → TookAll m o (es ++ event_of e ∷ [])
took-more m n o es e t s =
    let sh = settings_of m.machine in
    let p = program_of m.machine in
    record {
      taken = ap (map event_of) s.taken ∙ map-append event_of n.taken (e ∷ []) ∙ ap (λ xs. xs ++ event_of e ∷ []) t.taken
          ∙ append_assoc (map event_of m.taken) es (event_of e ∷ []);
      ran = after-all sh p (event_of e) es (history_of m.machine) ∙ ap (and_then (λ h. next_history sh p h (event_of e))) t.ran
          ∙ same-code m.machine n.machine (event_of e) t.code ∙ s.next;
      events = let a = t.events in let b = one-longer es (event_of e) in let c = s.events in omega (arith, a, b, c);
      code = s.code ∙ t.code;
    }
