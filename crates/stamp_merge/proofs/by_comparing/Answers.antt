use Rattle.std.proofs.Common.{rules, ◌≡◌, ◌∙◌, map, ap, subst, List}
use Rattle.std.specs.List.{flat_map}
use Rattle.std.proofs.lemmas.Result.{IfOk-weaker}
use Rattle.std.proofs.lemmas.List.Sorted.{IsNonDecreasingBy-from_sort_by_key, answers_always}
use Rattle.rules_apart.specs.declared.logs.Logged.{Logged}
use Rattle.stamp_merge.specs.Merging.{AreByStamp}
use Rattle.stamp_merge.proofs.by_comparing.Goals as goal

pub returns : goal.returns
returns c =
    let laid : List Logged = flat_map (λ l. l) c.args.logs.now in
    let sorted : List Logged = c.sort_by_key.new.self.items in
    IfOk-weaker c.events_of.result (λ v. v.items ≡ map (λ e. e.event) c.deref.result.now) (λ v. AreByStamp laid v.items)
    (λ v e. subst (λ g. AreByStamp g v.items) c.in_ok-entries.ensures (record {
      sorted = sorted;
      events_are = e ∙ ap (map (λ x. x.event)) c.deref.ensures.value;
      same_entries = c.in_ok-sort_by_key.ensures.permutation;
      by_stamp = IsNonDecreasingBy-from_sort_by_key (λ x. x.stamp) sorted c.in_ok-sort_by_key.ensures.sorted (λ a r q h. search rules);
      stable = c.in_ok-sort_by_key.ensures.stable (λ x. x.stamp)
          (answers_always _ (λ a k. k ≡ a.0.now.stamp) _ (λ f a r q h. search rules));
    }))
    c.events_of.ensures
