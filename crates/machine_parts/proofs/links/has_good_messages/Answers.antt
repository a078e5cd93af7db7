-- Each message in turn.
use Rattle.std.proofs.Common.{refl, sym, arith}
use Rattle.base_lemmas.proofs.Lemmas.{none-past}
use Rattle.rules_maps.specs.Bridge.{node_of}
use Rattle.tcc_msg.specs.Plain.{msg_of}
use Rattle.machine_links.specs.Flights.{net_of}
use Rattle.machine_parts.specs.Links.{IsGoodMessage}
use Rattle.machine_parts.specs.Traffic.{traffic_of}
use Rattle.machine_parts.proofs.Flying.{all-are, first-more, first-none, waiting_on}
use Rattle.machine_parts.proofs.links.has_good_messages.Goals as goal
use Rattle.machine_parts.proofs.links.has_good_messages.Goals.{in-Some+else-not-is_good_message, in_default}

pub loop-i-init : goal.loop-i-init
loop-i-init c = first-none (net_of c.args.flights.now) (node_of c.args.src) (node_of c.args.dst)
    (IsGoodMessage c.args.config.now (traffic_of c.args.flights.now c.args.limits) (node_of c.args.src) (node_of c.args.dst))

pub loop-i-preserved : goal.loop-i-preserved
loop-i-preserved c =
    let net = net_of c.args.flights.now in
    let s = node_of c.args.src in
    let d = node_of c.args.dst in
    elim c.match-waiting_at.branch [
      | in-Some+else-not-is_good_message w ↦
          first-more net s d c.loop-i.i w.in-Some.seq (msg_of w.in-Some.msg.now)
          (IsGoodMessage c.args.config.now (traffic_of c.args.flights.now c.args.limits) s d)
          c.loop-i.invariant (sym w.in-Some.ensures.number) w.in-Some.ensures.own
          (w.is_good_message.ensures.0 w.if-not-is_good_message.false)
      | in_default w ↦
          absurd (none-past (waiting_on net s d) c.loop-i.i (sym w.in_default.ensures.number)
          (omega (arith, c.waiting-i-end.ensures, c.loop-i-test.true)))
    ]

pub returns : goal.returns
returns c = (
  λ t. all-are (net_of c.args.flights.now) (node_of c.args.src) (node_of c.args.dst) c.loop-i.i
      (IsGoodMessage c.args.config.now (traffic_of c.args.flights.now c.args.limits) (node_of c.args.src) (node_of c.args.dst))
      c.loop-i.invariant
      (omega (arith, c.waiting-i-end.ensures, c.loop-i-test.false)),
  λ h. refl,
)
