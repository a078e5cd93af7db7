-- No number is above 0.
use Rattle.std.proofs.Common.{ℕ, List, ◌≡◌, ◌≤◌, ◌∙◌, arith, replicate, length, map, ap, subst, sym}
use Rattle.std.specs.Prelude.{All}
use Rattle.std.proofs.lemmas.List.{length-replicate}
use Rattle.std.specs.Map.{values_of}
use Rattle.std.proofs.lemmas.List.Elements.{All-nil, All-same, All-replicate}
use Rattle.watch_count.specs.declared.kept.KeptCore.{KeptCore}
use Rattle.watch_count.specs.KeptCores.{nothing_kept, numbers_after}
use Rattle.watch_count.specs.Tables.{nothing}
use Rattle.watch_count.specs.Messages.{no_messages}
use Rattle.watch_count.specs.Sizes.{attempts_size, instructions_size, accesses_size, evictions_size, phases_size, core_size}
use Rattle.watch_count.specs.Sizes.{messages_size, line_size, conflict_size}
use Rattle.watch_count.specs.Counts.{nothing_counted}
use Rattle.watch_count.proofs.Lists.{map-replicate}
use Rattle.watch_count.proofs.Staying.{numbers-settled}
use Rattle.watch_count.proofs.Views.{made}
use Rattle.watch_count.proofs.counts.Counts.new.Goals as goal

-- nothing is kept of each core
kept-nothing : (ks : List KeptCore) (n : ℕ) → ks ≡ replicate n nothing_kept → map (numbers_after 0) ks ≡ replicate n nothing
kept-nothing ks n e =
    ap (map (numbers_after 0)) e ∙ map-replicate (numbers_after 0) n nothing_kept ∙ ap (replicate n) (numbers-settled 0 nothing)

pub invariant_of-result : goal.invariant_of-result
unfolding attempts_size instructions_size accesses_size evictions_size phases_size messages_size
invariant_of-result c = record {
  kept = record {
    cores = All-same (λ x. core_size x ≤ 0) _ (replicate c.loop.counter nothing) (kept-nothing _ c.loop.counter c.loop.invariant)
        (All-replicate (λ x. core_size x ≤ 0) c.loop.counter nothing (omega arith));
    messages = subst (λ m. All (λ x. messages_size x ≤ 0) (replicate 15 m)) (sym c.nothing-2.ensures)
        (All-replicate (λ x. messages_size x ≤ 0) 15 no_messages (omega arith));
    lines = All-same (λ x. line_size x ≤ 0) _ _ (ap values_of c.new.ensures.empty) (All-nil (λ x. line_size x ≤ 0));
    conflicts = All-same (λ x. conflict_size x ≤ 0) _ _ (ap values_of c.new-2.ensures.empty) (All-nil (λ x. conflict_size x ≤ 0));
    small = omega arith;
    few = (let many = ap length (kept-nothing _ c.loop.counter c.loop.invariant) ∙ length-replicate c.loop.counter nothing in
        omega (arith, many, c.loop.auto.counter-end, c.cores-end.ensures.value, c.cores-end.ensures.allowed.0));
  };
  since = All-same (λ k. k.since ≤ 0) _ (replicate c.loop.counter nothing_kept) c.loop.invariant
      (All-replicate (λ k. k.since ≤ 0) c.loop.counter nothing_kept (omega arith));
  events = omega arith;
}

pub returns : goal.returns
unfolding nothing_counted
returns c =
    let many : c.loop.counter ≡ c.args.config.now.cores =
    omega (arith, c.loop-test.false, c.loop.auto.counter-end, c.cores-end.ensures.value) in
    let cores = kept-nothing _ c.loop.counter c.loop.invariant ∙ ap (λ n. replicate n nothing) many in
    λ i. made (cores i) (replicate 15 (c.nothing-2.ensures i)) (c.new.ensures.empty i) (c.new-2.ensures.empty i) 0
