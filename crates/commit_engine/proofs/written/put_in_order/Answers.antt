use Rattle.std.proofs.Common.{◌≡◌, ◌∙◌, ℕ, sym, subst, nat_eq, List, Contains}
use Rattle.std.specs.List.{AllPairs, dedup}
use Rattle.std.proofs.lemmas.List.Filters.{dedup_is}
use Rattle.std.proofs.lemmas.List.Kept.{AllPairs-from_increasing, Contains-dedup_nat, Contains-from_dedup}
use Rattle.std.proofs.lemmas.List.Sorted.{Contains-permutation, IsPermutation-sym}
use Rattle.std.proofs.lemmas.Map.Keys.{IsStrictlyIncreasing-dedup}
use Rattle.commit_engine.proofs.written.put_in_order.Goals as goal

pub returns-clause-rising : goal.returns-clause-rising
returns-clause-rising c =
    let s : List ℕ = c.sort_unstable.new.self.items in
    let e : c.dedup.new.self.items ≡ dedup nat_eq s = dedup_is nat_eq s _ c.dedup.ensures.filtered in
    subst (λ (xs : List ℕ). AllPairs (λ a b. Rattle.std.proofs.Common.◌<◌ a b) xs) (sym e)
    (AllPairs-from_increasing (dedup nat_eq s) (IsStrictlyIncreasing-dedup s c.sort_unstable.ensures.sorted))

pub returns-clause-same : goal.returns-clause-same
returns-clause-same c =
    let s : List ℕ = c.sort_unstable.new.self.items in
    let e : c.dedup.new.self.items ≡ dedup nat_eq s = dedup_is nat_eq s _ c.dedup.ensures.filtered in
    λ l. (
      (λ p. Contains-permutation s c.args.lines.now.items l
          (IsPermutation-sym c.args.lines.now.items s c.sort_unstable.ensures.permutation)
          (Contains-from_dedup nat_eq s l (subst (λ (xs : List ℕ). Contains xs l) e p))),
      (λ p. subst (λ (xs : List ℕ). Contains xs l) (sym e)
          (Contains-dedup_nat s l (Contains-permutation c.args.lines.now.items s l c.sort_unstable.ensures.permutation p))),
    )
