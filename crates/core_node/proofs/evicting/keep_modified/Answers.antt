use Rattle.std.proofs.Common.{◌≡◌, ℕ, Some, refl, ap, ◌∙◌, sym}
use Rattle.rules_maps.specs.Spilled.{spill_line}
use Rattle.spec_cache.specs.Held.{maps}
use Rattle.overflow_buf.specs.Kept.{spilled}
use Rattle.core_node.specs.View.{core_of}
use Rattle.core_node.proofs.Emptied.{spilled_as}
use Rattle.core_node.proofs.evicting.keep_modified.Goals as goal

pub returns-in-Ok-clause-kept : goal.returns-in-Ok-clause-kept
returns-in-Ok-clause-kept c = λ l e.
    let k = c.args.core.now in
    let f = c.in-Some.frame in
    let seen = c.in-Some.ensures in
    let here : Some f.line.0 ≡ Some l = sym seen.view.0 ∙ e in
    let same : f.line.0 ≡ l = cc in
    c.in-Ok.ensures.kept ∙ spilled_as k.cache.config (maps k.cache) seen.consistent f seen.view.1 c.maps_fit_together.ensures.spills
    (spilled k.spilled)
    ∙ ap (λ (x : ℕ). spill_line x (maps k.cache) (spilled k.spilled)) same

pub returns-in-Err-clause-unchanged : goal.returns-in-Err-clause-unchanged
unfolding core_of
returns-in-Err-clause-unchanged c = rw c.in-Err.ensures.unchanged refl
