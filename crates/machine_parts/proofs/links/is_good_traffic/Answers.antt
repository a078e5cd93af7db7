-- One core after another.
use Rattle.std.proofs.Common.{refl, sym, ◌∙◌, arith}
use Rattle.rules_maps.specs.Nodes.{Core, Dir, Vendor}
use Rattle.machine_parts.specs.Links.{AreGoodLinks}
use Rattle.machine_parts.specs.Traffic.{traffic_of}
use Rattle.machine_parts.proofs.Below.{below-more, below-none}
use Rattle.machine_parts.proofs.Traffic.{all-good}
use Rattle.machine_parts.proofs.links.is_good_traffic.Goals as goal

pub loop-c-init : goal.loop-c-init
loop-c-init c =
    below-none (λ n. AreGoodLinks c.args.config.now (traffic_of c.args.flights.now c.args.limits) n c.args.config.now.dirs)

pub returns-then-not-are_good_links : goal.returns-then-not-are_good_links
returns-then-not-are_good_links c = (
  λ t. absurd (cc),
  λ g.
      let n = c.loop-c.c in
      sym c.if-not-are_good_links.true ∙ c.are_good_links.ensures.1 (record {
        out = λ d l. g (Core n) (Dir d);
        back = λ d l. g (Dir d) (Core n);
        asks = g (Core n) Vendor;
        grants = g Vendor (Core n);
      }),
)

pub loop-c-preserved : goal.loop-c-preserved
loop-c-preserved c =
    below-more c.loop-c.c (λ n. AreGoodLinks c.args.config.now (traffic_of c.args.flights.now c.args.limits) n c.args.config.now.dirs)
    c.loop-c.invariant (c.are_good_links.ensures.0 c.if-not-are_good_links.false)

pub returns : goal.returns
returns c = (
  λ t. all-good c.args.config.now c.args.flights.now c.args.limits c.requires.cores c.requires.dirs
      (λ n l. c.loop-c.invariant n (omega (arith, l, c.loop-c-test.false, c.cores-c-end.ensures.value))),
  λ g. refl,
)
