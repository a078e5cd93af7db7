-- The state at the end of the run by the events that the machine took.
use Rattle.std.proofs.Common.{◌≡◌, List, IfOk, None, ap, map, subst, sym}
use Rattle.std.specs.String.{string_bytes}
use Rattle.image_load.specs.Contents.{started}
use Rattle.net_core.specs.Machine.{Machine}
use Rattle.rules_maps.specs.Nodes.{Event}
use Rattle.tcc_msg.specs.Plain.{event_of}
use Rattle.tcc_msg.specs.declared.event.Event.{Event as Listed}
use Rattle.tcc_words.specs.declared.command.View.{View}
use Rattle.tcc_cli.proofs.Machines.{has-list}
use Rattle.tcc_cli.proofs.Watched.{state-so}
use Rattle.tcc_cli.specs.Looks.{LookedAt, view_text}
use Rattle.tcc_cli.specs.Schedules.{HasTaken}
use Rattle.tcc_cli.proofs.looks.look_at_taken.Goals as goal

pub returns-in-State : goal.returns-in-State
returns-in-State c =
    let taken : List Listed = c.args.refined.now.taken in
    let has = subst (λ (m : Machine). HasTaken (started c.args.loaded.now) (λ (es : List Listed). es ≡ taken) m)
    (sym c.system.ensures.machine) (has-list c.args.refined.now c.args.loaded.now c.taken-taken.ensures.refined c.requires.code) in
    subst (λ (v : View). IfOk c.state_of.result (λ f. LookedAt (started c.args.loaded.now)
    (λ (es : List Event). es ≡ map event_of taken) (view_text v None (started c.args.loaded.now)) f.done
    (string_bytes f.text))) (sym c.in-State.is)
    (state-so (started c.args.loaded.now) (λ (es : List Listed). es ≡ taken) (λ (es : List Event). es ≡ map event_of taken)
    c.in-State.events None c.system.result.now (λ f. f.done) (λ f. string_bytes f.text) c.state_of.result has
    (ap (map event_of) has.schedule) c.state_of.ensures.runs c.state_of.ensures.text)
