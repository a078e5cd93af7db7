-- The first event that will do is found, and for a core that goes on there is one.
use Rattle.std.proofs.Common.{◌≤◌, ◌∙◌, length, ap, sym, refl, arith}
use Rattle.std.specs.Prelude.{slice_get}
use Rattle.theorem_live.specs.Progress.{spares}
use Rattle.tcc_msg.specs.Plain.{event_of}
use Rattle.net_core.specs.Machine.{program_of, settings_of, world_of}
use Rattle.live_core.specs.Chosen.{useful_events}
use Rattle.live_core.proofs.Filtered.{all-dropped, first-is, is-at, is-past, none-next, none-passes}
use Rattle.live_core.proofs.finding.find_for.Goals as goal
use Rattle.live_core.proofs.finding.find_for.Goals.{in-Some+else-spares, in_default}

pub returns-then-spares : goal.returns-then-spares
returns-then-spares c =
    let m = c.args.system.now in
    let e = event_of c.in-Some.e in
    let at = sym c.in-Some.ensures in
    let will = sym c.spares.ensures ∙ c.if-spares.true in
    record {
      first = sym (first-is (spares c.args.core.0) (useful_events m) c.loop-k.k e c.loop-k.invariant at will);
      useful = (c.useful_events_are_listed.ensures.holds (settings_of m) (program_of m) (world_of m) e).0
          (is-at (useful_events m) c.loop-k.k e at);
      spares = will;
      found = λ r q. refl;
    }

pub loop-k-preserved : goal.loop-k-preserved
loop-k-preserved c =
    let us = useful_events c.args.system.now in
    elim c.match-useful_at.branch [
      | in-Some+else-spares w ↦
          none-next (spares c.args.core.0) us c.loop-k.k (event_of w.in-Some.e) c.loop-k.invariant (sym w.in-Some.ensures)
          (sym w.spares.ensures ∙ w.if-spares.false)
      | in_default w ↦
          let past = is-past us c.loop-k.k (sym w.in_default.ensures) in
          absurd (omega (arith, past, c.loop-k-test.true, c.useful_count-k-end.ensures))
    ]

pub returns-clause-first : goal.returns-clause-first
returns-clause-first c =
    let us = useful_events c.args.system.now in
    let all : length us ≤ c.loop-k.k = omega (arith, c.loop-k-test.false, c.useful_count-k-end.ensures) in
    let none = all-dropped (spares c.args.core.0) us c.loop-k.k c.loop-k.invariant all in
    ap (λ es. slice_get es 0) (sym none)

pub returns-clause-found : goal.returns-clause-found
returns-clause-found c = λ r runs.
    let m = c.args.system.now in
    let all : length (useful_events m) ≤ c.loop-k.k = omega (arith, c.loop-k-test.false, c.useful_count-k-end.ensures) in
    let goes = (c.machines_are_live.ensures r).goes_on c.args.core.0 c.requires.core runs in
    absurd (none-passes (spares c.args.core.0) (useful_events m) c.loop-k.k goes.event c.loop-k.invariant all
    ((c.useful_events_are_listed.ensures.holds (settings_of m) (program_of m) (world_of m) goes.event).1 goes.is_useful) goes.spares)
