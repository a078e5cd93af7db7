-- The fields are those of an event that begins.
use Rattle.std.proofs.Common.{◌+◌, ◌≤◌, map, arith}
use Rattle.std.proofs.lemmas.List.Elements.{All-weaker}
use Rattle.watch_count.specs.KeptCores.{numbers_after}
use Rattle.watch_count.specs.CountsInside.{counts_of}
use Rattle.watch_count.proofs.Staying.{all-came}
use Rattle.watch_count.proofs.Views.{begun-is, begun-kept}
use Rattle.watch_count.proofs.counts.Counts.begin_event.Goals as goal
use Rattle.std.proofs.Common.{ap}

pub invariant_of-self : goal.invariant_of-self
invariant_of-self c =
    let k = c.self.inside in
    let bound = ap (λ s. s.bound) c.self.view_is in
    record {
      kept = begun-kept (counts_of k) (map (numbers_after (k.events + 1)) k.cores.items) c.self.invariant.kept
          (all-came k.events k.cores.items c.self.invariant.since) (omega (arith, bound, c.requires));
      since = All-weaker (λ x. x.since ≤ k.events) (λ x. x.since ≤ k.events + 1) (λ x h. omega arith) k.cores.items c.self.invariant.since;
      events = omega (arith, c.self.invariant.events);
    }

pub returns : goal.returns
returns c =
    let k = c.self.inside in
    begun-is (counts_of k) c.args.self.now (map (numbers_after (k.events + 1)) k.cores.items) c.self.view_is
    (all-came k.events k.cores.items c.self.invariant.since)
