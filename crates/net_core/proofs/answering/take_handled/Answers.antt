-- A message that its directory has consumed is taken out.
use Rattle.std.proofs.Common.{◌≡◌, ◌∙◌, Some, false, subst}
use Rattle.rules_maps.specs.Bridge.{node_of}
use Rattle.rules_tcc.specs.Links.{in_flight}
use Rattle.machine_links.specs.Flights.{is_ready, net_of}
use Rattle.machine_links.proofs.Lemmas.{with_mark-other}
use Rattle.net_core.proofs.Events.Marks.{still-flies}
use Rattle.net_core.proofs.answering.take_handled.Goals as goal

pub returns-in-Handled-clause-marks : goal.returns-in-Handled-clause-marks
returns-in-Handled-clause-marks c = λ s d k m fly.
    let f = c.args.flights.now in
    let still = still-flies (net_of f) (node_of c.args.name.src) (node_of c.args.name.dst) c.args.name.seq s d k m
    (subst (λ net. in_flight net s d k ≡ Some m) c.discard.ensures.net fly) in
    (λ i. c.discard.ensures.ready i s d k)
    ∙ with_mark-other (is_ready f) (node_of c.args.name.src) (node_of c.args.name.dst) c.args.name.seq false s d k still.apart
