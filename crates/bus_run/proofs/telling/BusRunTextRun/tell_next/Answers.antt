-- The next event came, and its text is appended where it is shown.
use Rattle.std.proofs.Common.{append-nil, ap, false, map, option_map, subst, sym, ◌++◌, ◌∙◌, [], if◌then◌else◌}
use Rattle.std.specs.String.{string_bytes}
use Rattle.bus_tcc.specs.Machine.{bus_event_of, bus_history_of, bus_program_of, bus_settings_of}
use Rattle.bus_trace.specs.Text.{bus_event_and_facts, bus_event_text}
use Rattle.bus_watch.specs.Plain.{bus_fact_of}
use Rattle.bus_run.specs.Going.{Moves}
use Rattle.bus_run.proofs.Going.{led-one, text_at}
use Rattle.bus_run.proofs.telling.BusRunTextRun.tell_next.Goals as goal

pub returns-clause-tells : goal.returns-clause-tells
returns-clause-tells c =
    let run = c.args.self.now in
    let e = bus_event_of c.in-Some.e in
    let moves = subst (λ o. Moves run c.take_next.new.self (option_map bus_event_of o)) c.in-Some.is c.in_ok-e.ensures in (
      text_at false run.system c.take_next.new.self.system e,
      led-one false run c.take_next.new.self e moves,
      c.in_ok-push_shown.ensures
          ∙ ap (λ fs. string_bytes c.args.text.now ++ (if c.args.shown then bus_event_and_facts e fs else []))
          (ap (map bus_fact_of) (c.deref.ensures.value ∙ ap (λ r. r.facts) c.self.view_is) ∙ moves.0.told)
          ∙ ap (λ t. string_bytes c.args.text.now ++ (if c.args.shown then t else []))
          (sym (append-nil (bus_event_text (bus_settings_of run.system) (bus_program_of run.system) (bus_history_of run.system) e))),
    )
