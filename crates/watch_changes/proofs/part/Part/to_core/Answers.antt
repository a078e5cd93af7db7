-- The message is in flight, or there is none.
use Rattle.std.proofs.Common.{◌≡◌, ◌∙◌, None, Some, ap, sym}
use Rattle.std.proofs.lemmas.Result.{IfOk-weaker}
use Rattle.std.specs.Prelude.{option_map}
use Rattle.rules_maps.specs.Bridge.{node_of}
use Rattle.tcc_msg.specs.Plain.{msg_of}
use Rattle.rules_tcc.specs.Links.{in_flight}
use Rattle.net_core.specs.Machine.{settings_of, world_of}
use Rattle.watch_changes.specs.Plain.{part_of, reach_of}
use Rattle.watch_changes.specs.Touched.{no_frame, reach_of_msg, reached_by, touched, touched_at}
use Rattle.watch_changes.proofs.part.Part.to_core.Goals as goal
use Rattle.watch_changes.proofs.part.Part.to_core.Goals.{in-Some, in-None}

pub returns-clause-touched : goal.returns-clause-touched
unfolding touched
returns-clause-touched c =
    let m = c.args.system.now in
    let sh = settings_of m in
    let n = c.args.name in
    let k = c.args.core.0 in
    let s = (world_of m).cores k in
    elim c.match-in_flight.branch [
      | in-Some w ↦
          let msg = msg_of w.in-Some.msg.now in
          let flies : in_flight (world_of m).net (node_of n.src) (node_of n.dst) n.seq ≡ Some msg =
          sym c.in_flight.ensures ∙ ap (λ o. option_map (λ x. msg_of x.now) o) w.in-Some.is in
          let reach : reach_of c.match-in_flight.reach ≡ reach_of_msg s msg =
          ap (λ r. reach_of r) w.reach-is ∙ w.of_msg-reach.ensures ∙ ap (λ t. reach_of_msg t msg) w.core.ensures.state in
          IfOk-weaker c.of_core.result _ _
          (λ p h. h ∙ ap (λ r. reached_by sh k s.cache r) reach
          ∙ (λ i. touched_at sh (world_of m) (node_of (sym c.requires.destination i)) (sym flies i)))
          c.of_core.ensures.touched
      | in-None w ↦
          let none : in_flight (world_of m).net (node_of n.src) (node_of n.dst) n.seq ≡ None =
          sym c.in_flight.ensures ∙ ap (λ o. option_map (λ x. msg_of x.now) o) w.in-None.is in
          let reach : reach_of c.match-in_flight.reach ≡ no_frame = ap (λ r. reach_of r) w.reach-is in
          IfOk-weaker c.of_core.result _ _
          (λ p h. h ∙ ap (λ r. reached_by sh k s.cache r) reach
          ∙ (λ i. touched_at sh (world_of m) (node_of (sym c.requires.destination i)) (sym none i)))
          c.of_core.ensures.touched
    ]
