-- The core's numbers are changed in their place, where there is such a core.
use Rattle.std.proofs.Common.{◌≤◌, ◌^◌, map, subst, sym, rules}
use Rattle.std.proofs.lemmas.List.{length-map}
use Rattle.std.proofs.lemmas.List.Elements.{All-set}
use Rattle.rules_maps.specs.Bridge.{node_of}
use Rattle.watch.specs.Plain.{fact_of}
use Rattle.watch_count.specs.KeptCores.{nothing_kept, numbers_after}
use Rattle.watch_count.specs.Sizes.{core_size}
use Rattle.watch_count.specs.Tables.{core_after}
use Rattle.watch_count.specs.Counts.{core_of}
use Rattle.watch_count.proofs.Lists.{changed_if-past, map-at, map-changed_if}
use Rattle.watch_count.proofs.counts.count_core.Goals as goal

pub count-requires-clause-small : goal.count-requires-clause-small
count-requires-clause-small c =
    map-at (λ x. core_size x ≤ 2 ^ 62) (numbers_after c.args.events) c.args.cores.now c.in-Some.place nothing_kept c.requires.small
    (search rules)

pub returns-then-place-cores-clause-counts : goal.returns-then-place-cores-clause-counts
returns-then-place-cores-clause-counts c =
    map-changed_if (numbers_after c.args.events) (core_after (fact_of c.args.fact.now)) c.in-Some.place
    (core_of (node_of c.args.actor) (fact_of c.args.fact.now)) c.args.cores.now c.count.new.self nothing_kept c.in-Some.ensures
    (search rules) c.count.ensures.counts

pub returns-then-place-cores-clause-since : goal.returns-then-place-cores-clause-since
returns-then-place-cores-clause-since c =
    All-set (λ k. k.since ≤ c.args.events) c.args.cores.now c.in-Some.place c.count.new.self c.count.ensures.since c.requires.since

pub returns-else-place-cores-clause-counts : goal.returns-else-place-cores-clause-counts
returns-else-place-cores-clause-counts c =
    sym (changed_if-past (core_after (fact_of c.args.fact.now)) c.in-Some.place (core_of (node_of c.args.actor) (fact_of c.args.fact.now))
    (map (numbers_after c.args.events) c.args.cores.now) c.in-Some.ensures
    (subst (λ n. n ≤ c.in-Some.place) (sym (length-map c.args.cores.now (numbers_after c.args.events))) (search rules)))
