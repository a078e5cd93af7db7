-- The message is in flight, or there is none.
use Rattle.std.proofs.Common.{◌≡◌, ◌∙◌, None, Some, ap, sym}
use Rattle.std.proofs.lemmas.Result.{IfOk-weaker}
use Rattle.std.specs.Prelude.{option_map}
use Rattle.rules_maps.specs.Bridge.{node_of}
use Rattle.tcc_msg.specs.Plain.{msg_of}
use Rattle.rules_tcc.specs.Links.{in_flight}
use Rattle.net_core.specs.Machine.{settings_of, world_of}
use Rattle.watch_changes.specs.Plain.{part_of}
use Rattle.watch_changes.specs.Touched.{touched, touched_at}
use Rattle.watch_changes.proofs.part.Part.to_directory.Goals as goal

pub returns-in-Some-clause-touched : goal.returns-in-Some-clause-touched
unfolding touched
returns-in-Some-clause-touched c =
    let m = c.args.system.now in
    let n = c.args.name in
    let flies : in_flight (world_of m).net (node_of n.src) (node_of n.dst) n.seq ≡ Some (msg_of c.in-Some.msg.now) =
    sym c.in_flight.ensures ∙ ap (λ o. option_map (λ x. msg_of x.now) o) c.in-Some.is in
    IfOk-weaker c.by_message.result _ _
    (λ p h. h ∙ (λ i. touched_at (settings_of m) (world_of m) (node_of (sym c.requires.destination i)) (sym flies i)))
    c.by_message.ensures.touched

pub returns-in-None-clause-touched : goal.returns-in-None-clause-touched
unfolding touched
returns-in-None-clause-touched c =
    let m = c.args.system.now in
    let n = c.args.name in
    let none : in_flight (world_of m).net (node_of n.src) (node_of n.dst) n.seq ≡ None =
    sym c.in_flight.ensures ∙ ap (λ o. option_map (λ x. msg_of x.now) o) c.in-None.is in
    ap (λ p. part_of p) c.without_lines.ensures
    ∙ (λ i. touched_at (settings_of m) (world_of m) (node_of (sym c.requires.destination i)) (sym none i))
