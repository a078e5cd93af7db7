-- The line's set, the sets of marked frames, or all.
use Rattle.std.proofs.Common.{◌≡◌, ◌∙◌, ap, sym}
use Rattle.std.proofs.lemmas.Result.{IfOk-weaker}
use Rattle.std.specs.Option.{option_map}
use Rattle.rules_maps.specs.Words.{those}
use Rattle.core_node.specs.View.{core_of}
use Rattle.watch_changes.specs.Plain.{more_of, reach_of}
use Rattle.watch_changes.specs.Touched.{Every, Marked, NoMore, reaches}
use Rattle.watch_changes.proofs.ReachedSets.{every-reached, marked-reached, one-reached}
use Rattle.watch_changes.proofs.reach.sets_of.Goals as goal

pub returns-in-NoMore : goal.returns-in-NoMore
returns-in-NoMore c =
    let sh = c.args.core.now.config in
    let cache = (core_of c.args.core.now).cache in
    let line = c.args.reach.line in
    let set = c.set_of_some-set in
    let is : reach_of c.args.reach ≡ record { line = option_map (λ l. l.0) line; more = NoMore } =
    ap (λ m. record { line = option_map (λ l. l.0) line; more = more_of m }) c.in-NoMore.is in
    IfOk-weaker c.that_set.result _ _
    (λ sets h. h ∙ one-reached sh cache line set.result set.ensures.value set.ensures.exists set.ensures.consistent
    ∙ ap (λ r. those (reaches sh cache r) sh.sets) (sym is))
    c.that_set.ensures

pub returns-in-Marked : goal.returns-in-Marked
returns-in-Marked c =
    let sh = c.args.core.now.config in
    let cache = (core_of c.args.core.now).cache in
    let line = c.args.reach.line in
    let set = c.set_of_some-set in
    let is : reach_of c.args.reach ≡ record { line = option_map (λ l. l.0) line; more = Marked } =
    ap (λ m. record { line = option_map (λ l. l.0) line; more = more_of m }) c.in-Marked.is in
    IfOk-weaker c.marked_sets.result _ _
    (λ sets h. h ∙ marked-reached sh cache line set.result set.ensures.value set.ensures.consistent
    ∙ ap (λ r. those (reaches sh cache r) sh.sets) (sym is))
    c.marked_sets.ensures

pub returns-in-Every : goal.returns-in-Every
returns-in-Every c =
    let sh = c.args.core.now.config in
    let cache = (core_of c.args.core.now).cache in
    let line = c.args.reach.line in
    let is : reach_of c.args.reach ≡ record { line = option_map (λ l. l.0) line; more = Every } =
    ap (λ m. record { line = option_map (λ l. l.0) line; more = more_of m }) c.in-Every.is in
    let count : c.sets.result ≡ sh.sets = c.sets.ensures.value ∙ ap (λ n. n.config.sets) c.core.ensures in
    IfOk-weaker c.every_set.result _ _
    (λ sets h. h ∙ ap (λ n. those (λ x. Rattle.std.proofs.Common.true) n) count ∙ every-reached sh cache (option_map (λ l. l.0) line)
    ∙ ap (λ r. those (reaches sh cache r) sh.sets) (sym is))
    c.every_set.ensures
