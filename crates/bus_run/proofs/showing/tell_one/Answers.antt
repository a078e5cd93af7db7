-- The next event came, and its text is appended where it is shown; what is kept goes along.
use Rattle.std.proofs.Common.{arith, ap, option_map, subst, sym, true, ◌++◌, ◌∙◌, ◌<◌, [], if◌then◌else◌}
use Rattle.std.specs.String.{string_bytes}
use Rattle.image_load.specs.Contents.{started}
use Rattle.image_load.specs.Start.{first_ram}
use Rattle.bus_tcc.specs.Machine.{bus_event_of, bus_history_of, bus_program_of, bus_settings_of, bus_world_of}
use Rattle.bus_trace.specs.Text.{bus_event_and_facts, bus_event_text}
use Rattle.bus_watch.specs.Happened.{core_of}
use Rattle.bus_changes.specs.Following.{Follows}
use Rattle.bus_changes.specs.Plain.{IsKept}
use Rattle.bus_changes.specs.Text.{bus_changes_lines}
use Rattle.bus_run.specs.Going.{Moves}
use Rattle.bus_run.proofs.Acting.{follows-one, kept-one, shown-both, there-one}
use Rattle.bus_run.proofs.Going.{led-one, text_at}
use Rattle.bus_run.proofs.showing.tell_one.Goals as goal

pub push_changed-requires-clause-exists : goal.push_changed-requires-clause-exists
push_changed-requires-clause-exists c =
    let run = c.args.run.now in
    let next = c.take_next.new.self in
    let e = bus_event_of c.in-Some.e in
    let moves = subst (λ o. Moves run next (option_map bus_event_of o)) c.in-Some.is c.in_ok-e.ensures in
    subst (λ d. d < (bus_settings_of next.system).cores) (sym c.core_of.ensures)
    (there-one run.system next.system e next.facts moves.0)

pub push_changed-requires-clause-fits : goal.push_changed-requires-clause-fits
push_changed-requires-clause-fits c =
    let run = c.args.run.now in
    let next = c.take_next.new.self in
    let moves = subst (λ o. Moves run next (option_map bus_event_of o)) c.in-Some.is c.in_ok-e.ensures in
    (kept-one run.system next.system c.args.kept.now moves.0.code c.requires.kept).fits

pub returns-in_default-clause-kept : goal.returns-in_default-clause-kept
returns-in_default-clause-kept c =
    let run = c.args.run.now in
    let next = c.take_next.new.self in
    let moves = subst (λ o. Moves run next (option_map bus_event_of o)) c.in_default.is c.in_ok-e.ensures in
    subst (λ m. IsKept c.args.kept.now (bus_settings_of m) (bus_world_of m)) (sym moves.0) c.requires.kept

pub returns-clause-tells : goal.returns-clause-tells
unfolding started bus_history_of
returns-clause-tells c =
    let run = c.args.run.now in
    let next = c.take_next.new.self in
    let e = bus_event_of c.in-Some.e in
    let moves = subst (λ o. Moves run next (option_map bus_event_of o)) c.in-Some.is c.in_ok-e.ensures in
    let w = bus_world_of run.system in
    let v = bus_world_of next.system in
    let t0 = string_bytes c.args.text.now in
    let t1 = string_bytes c.push_facts.new.text in
    let changed = c.in_ok-push_changed.ensures w (kept-one run.system next.system c.args.kept.now moves.0.code c.requires.kept)
    (subst (λ d. Follows (bus_settings_of next.system) d w v) (sym c.core_of.ensures)
    (follows-one run.system next.system e next.facts c.look.ensures.refined c.look.ensures.reached moves.0)) in (
      text_at true run.system next.system e,
      led-one true run next e moves,
      shown-both c.args.shown t0 t1 (string_bytes c.push_changed.new.text)
          (bus_event_text (bus_settings_of run.system) (bus_program_of run.system) (bus_history_of run.system) e)
          (bus_changes_lines (bus_settings_of run.system) (first_ram (started run.system.code)) (core_of e) w v)
          (c.in_ok-push_facts.ensures
          ∙ ap (λ fs. t0 ++ (if c.args.shown then bus_event_and_facts e fs else [])) moves.0.told)
          (changed.told
          ∙ (λ i. t1
          ++ (if c.args.shown
          then bus_changes_lines (moves.0.code i).settings (first_ram (started (moves.0.code i))) (c.core_of.ensures i) w v
          else []))),
    )

pub returns-clause-kept : goal.returns-clause-kept
returns-clause-kept c =
    let run = c.args.run.now in
    let next = c.take_next.new.self in
    let e = bus_event_of c.in-Some.e in
    let moves = subst (λ o. Moves run next (option_map bus_event_of o)) c.in-Some.is c.in_ok-e.ensures in
    let w = bus_world_of run.system in
    let v = bus_world_of next.system in
    (c.in_ok-push_changed.ensures w (kept-one run.system next.system c.args.kept.now moves.0.code c.requires.kept)
    (subst (λ d. Follows (bus_settings_of next.system) d w v) (sym c.core_of.ensures)
    (follows-one run.system next.system e next.facts c.look.ensures.refined c.look.ensures.reached moves.0))).kept

pub returns-clause-few : goal.returns-clause-few
returns-clause-few c =
    let run = c.args.run.now in
    let next = c.take_next.new.self in
    let moves = subst (λ o. Moves run next (option_map bus_event_of o)) c.in-Some.is c.in_ok-e.ensures in
    let events = moves.0.events in
    let left = moves.2 in
    omega (arith, events, left, c.requires.few)
