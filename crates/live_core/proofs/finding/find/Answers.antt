-- Where the list of useful events is empty the machine is done, and the other way round.
use Rattle.std.proofs.Common.{◌≡◌, ◌∙◌, Option, Some, None, ap, sym, refl}
use Rattle.std.specs.Prelude.{slice_get}
use Rattle.std.specs.Option.{option_map}
use Rattle.tcc_msg.specs.Plain.{event_of}
use Rattle.tcc_msg.specs.declared.event.Event.{Event as CodeEvent}
use Rattle.net_core.specs.Machine.{program_of, settings_of, world_of}
use Rattle.live_core.specs.Chosen.{useful_events}
use Rattle.live_core.proofs.Filtered.{are-none}
use Rattle.live_core.proofs.finding.find.Goals as goal

none-mapped : (o : Option CodeEvent) → option_map event_of o ≡ None → o ≡ None
none-mapped None e = refl
none-mapped (Some x) e = absurd (cc)

pub returns-clause-done : goal.returns-clause-done
returns-clause-done c = λ r.
    let m = c.args.system.now in (
      λ e. (c.machines_are_live.ensures r).done (are-none (useful_events m) (sym c.useful_at.ensures ∙ ap (option_map event_of) e)),
      λ d. none-mapped c.useful_at.result (c.useful_at.ensures
          ∙ ap (λ es. slice_get es 0) (c.useful_events_are_listed.ensures.done (settings_of m) (program_of m) (world_of m) d)),
    )
