-- The fields are those of the counts after the fact, and no number is above the bound, whichever of the last two calls fails.
use Rattle.std.proofs.Common.{ap, map, sym, subst, ◌+◌, ◌≤◌, ◌∙◌, arith}
use Rattle.std.specs.Prelude.{All}
use Rattle.std.specs.Map.{values_of}
use Rattle.std.proofs.lemmas.Result.{on_ok_weaker}
use Rattle.std.specs.Vec.{with_items}
use Rattle.std.proofs.lemmas.List.{with_items_is}
use Rattle.rules_maps.specs.Bridge.{node_of}
use Rattle.watch.specs.Plain.{fact_of}
use Rattle.watch_count.specs.KeptCores.{numbers_after}
use Rattle.watch_count.specs.Tables.{core_after}
use Rattle.watch_count.specs.Places.{no_conflict, conflict_of, conflict_after}
use Rattle.watch_count.specs.Sizes.{line_size, conflict_size, weight}
use Rattle.watch_count.specs.Counts.{core_of, changed_if, kept_changed_if, conflict_cmp}
use Rattle.watch_count.specs.CountsInside.{counts_of}
use Rattle.watch_count.proofs.Keeping.{all-below, lines-kept, conflicts-kept}
use Rattle.watch_count.proofs.Views.{counted-is, counted-kept, either}
use Rattle.watch_count.proofs.counts.Counts.count.Goals as goal

pub invariant_of-self : goal.invariant_of-self
invariant_of-self c =
    let f = fact_of c.args.fact.now in
    let a = node_of c.args.actor in
    let s = counts_of c.self.inside in
    let n = numbers_after c.self.inside.events in
    let items = with_items_is c.self.inside.cores c.count_core.new.cores
    (omega (arith, c.count_core.auto.cores, c.deref_mut.ensures.len)) in
    let cores = map n (with_items c.self.inside.cores c.count_core.new.cores).items in
    let cores_are = ap (map n) items ∙ c.count_core.ensures.counts
    ∙ ap (λ ks. changed_if (core_of a f) (core_after f) (map n ks)) c.deref_mut.ensures.value in
    let bound = ap (λ s. s.bound) c.self.view_is in
    record {
      kept = counted-kept a f s cores c.count_message.new.messages c.count_line.new.lines.entries s.conflicts c.weight.result
          c.self.invariant.kept cores_are c.count_message.ensures
          (subst (λ es. All (λ x. line_size x ≤ s.bound + weight f) (values_of es)) (sym c.in_err-count_line.ensures.unchanged)
          (all-below line_size s.bound (weight f) (values_of s.lines) c.self.invariant.kept.lines))
          (all-below conflict_size s.bound (weight f) (values_of s.conflicts) c.self.invariant.kept.conflicts)
          c.weight.ensures (omega (arith, bound, c.requires));
      since = subst (All (λ k. k.since ≤ c.self.inside.events)) (sym items) c.count_core.ensures.since;
      events = omega (arith, c.self.invariant.events);
    }

pub invariant_of-self-2 : goal.invariant_of-self-2
invariant_of-self-2 c =
    let f = fact_of c.args.fact.now in
    let a = node_of c.args.actor in
    let s = counts_of c.self.inside in
    let n = numbers_after c.self.inside.events in
    let items = with_items_is c.self.inside.cores c.count_core.new.cores
    (omega (arith, c.count_core.auto.cores, c.deref_mut.ensures.len)) in
    let cores = map n (with_items c.self.inside.cores c.count_core.new.cores).items in
    let cores_are = ap (map n) items ∙ c.count_core.ensures.counts
    ∙ ap (λ ks. changed_if (core_of a f) (core_after f) (map n ks)) c.deref_mut.ensures.value in
    let bound = ap (λ s. s.bound) c.self.view_is in
    record {
      kept = counted-kept a f s cores c.count_message.new.messages c.count_line.new.lines.entries
          c.count_conflict.new.conflicts.entries c.weight.result
          c.self.invariant.kept cores_are c.count_message.ensures
          (subst (λ es. All (λ x. line_size x ≤ s.bound + weight f) (values_of es)) (sym c.in_ok-count_line.ensures.counted)
          (lines-kept f s c.self.invariant.kept))
          (either (λ es. All (λ x. conflict_size x ≤ s.bound + weight f) (values_of es)) c.count_conflict.result
          c.count_conflict.new.conflicts.entries
          (kept_changed_if conflict_cmp no_conflict (conflict_of f) (conflict_after f) s.conflicts) s.conflicts
          c.count_conflict.ensures.counted c.count_conflict.ensures.unchanged
          (conflicts-kept f s c.self.invariant.kept)
          (all-below conflict_size s.bound (weight f) (values_of s.conflicts) c.self.invariant.kept.conflicts))
          c.weight.ensures (omega (arith, bound, c.requires));
      since = subst (All (λ k. k.since ≤ c.self.inside.events)) (sym items) c.count_core.ensures.since;
      events = omega (arith, c.self.invariant.events);
    }

pub returns : goal.returns
returns c =
    let f = fact_of c.args.fact.now in
    let a = node_of c.args.actor in
    let s = counts_of c.self.inside in
    let n = numbers_after c.self.inside.events in
    let items = with_items_is c.self.inside.cores c.count_core.new.cores
    (omega (arith, c.count_core.auto.cores, c.deref_mut.ensures.len)) in
    let cores = map n (with_items c.self.inside.cores c.count_core.new.cores).items in
    let cores_are = ap (map n) items ∙ c.count_core.ensures.counts
    ∙ ap (λ ks. changed_if (core_of a f) (core_after f) (map n ks)) c.deref_mut.ensures.value in
    on_ok_weaker c.count_conflict.result
    (λ conflicts. counted-is a f s c.args.self.now cores c.count_message.new.messages c.count_line.new.lines.entries
    c.count_conflict.new.conflicts.entries c.weight.result c.self.view_is
    cores_are c.count_message.ensures
    c.in_ok-count_line.ensures.counted conflicts c.weight.ensures)
    c.count_conflict.ensures.counted
