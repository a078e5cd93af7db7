use Rattle.std.proofs.Common.{◌≡◌, map, IfOk, subst, sym, ◌∙◌}
use Rattle.rules_maps.specs.Spilled.{none_spilled}
use Rattle.spec_cache.specs.Held.{maps}
use Rattle.spec_cache.specs.Home.{mark_of}
use Rattle.overflow_buf.specs.Kept.{spilled}
use Rattle.core_node.proofs.OneHome.{marks-written}
use Rattle.core_node.proofs.closing.written_marks.Goals as goal

pub returns-then-is_empty-clause-marks : goal.returns-then-is_empty-clause-marks
returns-then-is_empty-clause-marks c =
    let k = c.args.core.now in
    let none : spilled k.spilled ≡ none_spilled = c.is_empty.ensures.0 c.if-is_empty.true in
    let same = marks-written k.config (maps k.cache) (spilled k.spilled) (sym c.dirs.ensures.value ∙ c.if-dirs-eq1.true) none in
    subst (λ ms. IfOk c.marks_at.result (λ v. map mark_of v.items ≡ ms)) same c.marks_at.ensures.marks
