use Rattle.std.proofs.Common.{sym, ap, ◌∙◌}
use Rattle.std.specs.Prelude.{slice_get}
use Rattle.rules_maps.specs.Bridge.{node_of}
use Rattle.machine_links.proofs.Reading.{flown-some, waiting-numbers, waiting-no_lane}
use Rattle.machine_links.proofs.flights.InFlight.waiting_at.Goals as goal

pub returns-in_err-lane-clause-number : goal.returns-in_err-lane-clause-number
returns-in_err-lane-clause-number c =
    rw c.from_residual.ensures
    (sym (ap (λ ks. slice_get ks c.args.i)
    (waiting-no_lane c.args.self.now (node_of c.args.src) (node_of c.args.dst) c.in_err-lane.ensures.none)))

pub returns-in_err-seq-clause-number : goal.returns-in_err-seq-clause-number
returns-in_err-seq-clause-number c =
    rw c.from_residual-in_err-seq.ensures (c.in_err-seq.ensures.number
    ∙ ap (λ ks. slice_get ks c.args.i)
    (waiting-numbers c.args.self.now (node_of c.args.src) (node_of c.args.dst) _ c.in_ok-lane.ensures.some))

pub returns-clause-number : goal.returns-clause-number
returns-clause-number c =
    c.in_ok-seq.ensures.number
    ∙ ap (λ ks. slice_get ks c.args.i)
    (waiting-numbers c.args.self.now (node_of c.args.src) (node_of c.args.dst) _ c.in_ok-lane.ensures.some)

pub returns-clause-own : goal.returns-clause-own
returns-clause-own c =
    sym (flown-some c.args.self.now (node_of c.args.src) (node_of c.args.dst) c.in_ok-seq.seq _ c.in_ok-seq.held.now
    c.in_ok-lane.ensures.some (sym c.in_ok-seq.ensures.own))
