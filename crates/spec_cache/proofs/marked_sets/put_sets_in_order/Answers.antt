use Rattle.std.proofs.Common.{ℕ, List, nat_eq}
use Rattle.std.proofs.lemmas.List.Filters.{dedup_is}
use Rattle.spec_cache.proofs.MarkedSets.{dedup-from, dedup-keeps, dedup-rises}
use Rattle.spec_cache.proofs.marked_sets.put_sets_in_order.Goals as goal

pub returns-clause-rising : goal.returns-clause-rising
returns-clause-rising c =
    dedup-rises c.sort_unstable.new.self.items c.dedup.new.self.items c.sort_unstable.ensures.sorted
    (dedup_is nat_eq c.sort_unstable.new.self.items _ c.dedup.ensures.filtered)

pub returns-clause-same : goal.returns-clause-same
returns-clause-same c = λ k.
    let was : List ℕ = c.args.sets.now.items in
    let in_order : List ℕ = c.sort_unstable.new.self.items in
    let kept = dedup_is nat_eq c.sort_unstable.new.self.items _ c.dedup.ensures.filtered in (
      (λ p. dedup-from was in_order c.dedup.new.self.items c.sort_unstable.ensures.permutation kept k p),
      (λ p. dedup-keeps was in_order c.dedup.new.self.items c.sort_unstable.ensures.permutation kept k p),
    )
