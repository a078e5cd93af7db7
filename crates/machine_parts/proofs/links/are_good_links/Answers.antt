-- One directory after another, and the vendor.
use Rattle.std.proofs.Common.{◌<◌, ℕ, arith}
use Rattle.rules_maps.specs.Nodes.{Core, Dir}
use Rattle.machine_parts.specs.Links.{IsGoodLink}
use Rattle.machine_parts.specs.Traffic.{traffic_of}
use Rattle.machine_parts.proofs.Below.{below-more, below-none}
use Rattle.machine_parts.proofs.links.are_good_links.Goals as goal

pub loop-d-init : goal.loop-d-init
loop-d-init c =
    let t = traffic_of c.args.flights.now c.args.limits in
    below-none
    (λ d. IsGoodLink c.args.config.now t (Core c.args.core.0) (Dir d) × IsGoodLink c.args.config.now t (Dir d) (Core c.args.core.0))

pub loop-d-preserved : goal.loop-d-preserved
loop-d-preserved c =
    let t = traffic_of c.args.flights.now c.args.limits in
    below-more c.loop-d.d
    (λ d. IsGoodLink c.args.config.now t (Core c.args.core.0) (Dir d) × IsGoodLink c.args.config.now t (Dir d) (Core c.args.core.0))
    c.loop-d.invariant (c.are_good_pair.ensures.0 c.if-not-are_good_pair.false)

pub returns : goal.returns
returns c =
    let all : (d : ℕ) → d < c.args.config.now.dirs → d < c.loop-d.d =
    λ d l. omega (arith, l, c.loop-d-test.false, c.dirs-d-end.ensures.value) in (
      λ t. let vendor = c.are_good_pair-2.ensures.0 t in
          record {
            out = λ d l. (c.loop-d.invariant d (all d l)).0;
            back = λ d l. (c.loop-d.invariant d (all d l)).1;
            asks = vendor.0;
            grants = vendor.1;
          },
      λ g. c.are_good_pair-2.ensures.1 (g.asks, g.grants),
    )
