-- One more link is empty.
use Rattle.std.proofs.Common.{◌≡◌, None, arith, inl, inr, subst, sym}
use Rattle.std.proofs.lemmas.Bool.{cases_eq}
use Rattle.rules_maps.specs.Nodes.{Core, Dir}
use Rattle.rules_tcc.specs.Links.{in_flight}
use Rattle.machine_links.specs.Flights.{net_of}
use Rattle.machine_dirs.proofs.MarkedTo.{none-waiting}
use Rattle.machine_dirs.proofs.marking.next_busy.Goals as goal

pub loop-core-init : goal.loop-core-init
loop-core-init c = λ d k a b. absurd (omega (arith, a, b))

pub loop-core-preserved : goal.loop-core-preserved
loop-core-preserved c = λ d k a b. elim (cases_eq d c.loop-core.core) [
  | inl same ↦ subst (λ j. in_flight (net_of c.args.flights.now) (Core j) (Dir c.args.dst.0) k ≡ None) (sym same)
      (none-waiting c.args.flights.now c.loop-core.core c.args.dst.0 c.waiting.result k c.waiting.ensures c.if-waiting-gt0.false)
  | inr other ↦ c.loop-core.invariant d k a (omega (arith, b, other))
]

pub returns-then-waiting-gt0-clause-quiet : goal.returns-then-waiting-gt0-clause-quiet
returns-then-waiting-gt0-clause-quiet c = c.loop-core.invariant

pub returns-clause-quiet : goal.returns-clause-quiet
returns-clause-quiet c = λ d k a b. c.loop-core.invariant d k a (omega (arith, b, c.loop-core-test.false))
