-- The event at the next number is the one that is looked for, or it is passed over.
use Rattle.std.proofs.Common.{◌∙◌, List, arith, sym}
use Rattle.std.specs.Prelude.{option_map}
use Rattle.base_lemmas.proofs.Lemmas.{none-past}
use Rattle.rules_maps.specs.Nodes.{Event}
use Rattle.tcc_msg.specs.Plain.{event_of}
use Rattle.rules_tcc.specs.Useful.{useful}
use Rattle.net_core.specs.Machine.{Machine, program_of, settings_of, world_of}
use Rattle.run_follow.proofs.Finding.{next-here, next-none, next-past}
use Rattle.run_follow.proofs.following.next_event.Goals as goal
use Rattle.run_follow.proofs.following.next_event.Goals.{in-Some+else-in_turn, in_default}

abbrev all : Machine → List Event
all m = useful (settings_of m) (program_of m) (world_of m)

pub returns-then-in_turn : goal.returns-then-in_turn
returns-then-in_turn c =
    let turn = option_map (λ t. t.0) c.args.turn in
    sym (c.loop-k.invariant ∙ next-here turn (all c.args.system.now) c.loop-k.k (event_of c.in-Some.e) (sym c.in-Some.ensures)
    (sym c.in_turn.ensures ∙ c.if-in_turn.true))

pub loop-k-preserved : goal.loop-k-preserved
loop-k-preserved c =
    let turn = option_map (λ t. t.0) c.args.turn in
    let us = all c.args.system.now in
    elim c.match-useful_at.branch [
      | in-Some+else-in_turn w ↦
          c.loop-k.invariant
          ∙ next-past turn us c.loop-k.k (event_of w.in-Some.e) (sym w.in-Some.ensures) (sym w.in_turn.ensures ∙ w.if-in_turn.false)
      | in_default w ↦ absurd (none-past us c.loop-k.k (sym w.in_default.ensures) (omega arith))
    ]

pub returns : goal.returns
returns c =
    let turn = option_map (λ t. t.0) c.args.turn in
    let us = all c.args.system.now in
    sym (c.loop-k.invariant ∙ next-none turn us c.loop-k.k (omega (arith, c.loop-k-test.false)))
