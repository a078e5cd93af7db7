-- One set more is there.
use Rattle.std.proofs.Common.{◌≡◌, ◌∙◌, ◌++◌, [], ◌∷◌, ap, refl, sym, true}
use Rattle.rules_maps.specs.Words.{those}
use Rattle.watch_changes.proofs.ReachedSets.{every-more}
use Rattle.watch_changes.proofs.reach.every_set.Goals as goal

pub loop-set-init : goal.loop-set-init
unfolding those
loop-set-init c = c.new-sets.ensures

pub loop-set-preserved : goal.loop-set-preserved
loop-set-preserved c = c.in_ok-push.ensures ∙ ap (λ xs. xs ++ c.loop-set.set ∷ []) c.loop-set.invariant ∙ sym (every-more c.loop-set.set)
