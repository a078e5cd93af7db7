-- All ways were gone through, or no line of RAM has a dirty word.
use Rattle.std.proofs.Common.{◌≡◌, ◌<◌, ap, subst, sym, ◌∙◌, arith}
use Rattle.tcc_base.specs.Settings.{Keeps, Settings}
use Rattle.tcc_base.specs.declared.config.Limit.TheVariants.{Sets}
use Rattle.rules_maps.specs.Shape.{lines}
use Rattle.core_node.specs.View.{core_of}
use Rattle.net_core.proofs.Words.Away.{clean-frames, clean-line}
use Rattle.net_core.proofs.noting.note_core.Goals as goal

pub returns-after-loop-set : goal.returns-after-loop-set
returns-after-loop-set c = λ l free.
    let s : Settings = c.args.core.now.config in
    let inv = c.loop-set.invariant l free in
    let sets : c.sets-set-end.result ≡ s.sets = c.sets-set-end.ensures.value ∙ ap (λ k. k.config.sets) c.core.ensures in
    let allowed = subst (λ k. Keeps k Sets) (ap (λ k. k.config) c.core.ensures) c.sets-set-end.ensures.allowed.2 in (
      inv.0,
      λ inside w own. clean-frames s (core_of c.args.core.now).cache l allowed.0 c.keeps_cache.ensures.consistent
          (λ x lt. inv.1 x (omega (arith, sets, c.loop-set-test.false))) w own,
    )

pub returns-else-any_dirty : goal.returns-else-any_dirty
returns-else-any_dirty c = λ l free.
    let s : Settings = c.args.core.now.config in (
      free,
      λ inside w own. clean-line s (core_of c.args.core.now).cache w (subst (λ n. n < lines s) (sym own) inside)
          (sym c.any_dirty.ensures ∙ c.if-any_dirty.false),
    )
