-- What tells of a phase finds the numbers settled; any other fact leaves the core in its phase.
use Rattle.std.proofs.Common.{◌≤◌, ◌^◌, ap, subst, sym, ◌∙◌, arith}
use Rattle.watch.specs.Plain.{fact_of}
use Rattle.watch_count.specs.KeptCores.{numbers_after}
use Rattle.watch_count.specs.Sizes.{core_size}
use Rattle.watch_count.specs.Tables.{core_after}
use Rattle.watch_count.proofs.Staying.{kept-smaller, numbers-count, numbers-settled, stays-in}
use Rattle.watch_count.proofs.kept.KeptCore.count.Goals as goal
use Rattle.watch_count.proofs.kept.KeptCore.count.Goals.{in-CameTo, in_default}

pub count-requires : goal.count-requires
count-requires c = elim c.match-fact.branch [
  | in-CameTo w ↦ subst (λ k. core_size k.counts ≤ 2 ^ 62) (sym (w.self-is ∙ w.settle.ensures)) c.requires.small
  | in_default w ↦
      let kept = kept-smaller c.args.events c.args.self.now in
      subst (λ k. core_size k.counts ≤ 2 ^ 62) (sym w.self-is) (omega (arith, kept, c.requires.small))
]

pub returns-clause-counts : goal.returns-clause-counts
returns-clause-counts c =
    let f = fact_of c.args.fact.now in
    let e = c.args.events in
    elim c.match-fact.branch [
      | in-CameTo w ↦
          let is = w.self-is ∙ w.settle.ensures in
          ap (λ k. numbers_after e (record { counts = c.count.new.self; since = k.since })) is
          ∙ numbers-settled e c.count.new.self ∙ c.count.ensures ∙ ap (λ k. core_after f k.counts) is
      | in_default w ↦
          let counts = c.count.ensures ∙ ap (λ k. core_after f k.counts) w.self-is in
          (λ i. numbers_after e (record { counts = counts i; since = (w.self-is i).since }))
          ∙ numbers-count f e c.args.self.now.since c.args.self.now.counts
          (stays-in c.args.fact.now c.args.self.now.counts.phase w.in_default.not-CameTo)
    ]
