use Rattle.std.proofs.Common.{◌≡◌, ℕ, ◌++◌, ◌<◌, ◌%◌, List, map, ap, subst, ◌∙◌, arith}
use Rattle.std.proofs.Math.Nat.{mod-lt}
use Rattle.tcc_base.specs.declared.names.LineAddr.{LineAddr}
use Rattle.tcc_base.specs.declared.names.Mask.{Mask}
use Rattle.rules_maps.specs.Cache.{marks_by_home}
use Rattle.rules_maps.specs.Shape.{Shape}
use Rattle.spec_cache.specs.Held.{maps}
use Rattle.spec_cache.specs.Home.{mark_of}
use Rattle.overflow_buf.specs.Kept.{spilled as words_of}
use Rattle.commit_engine.specs.Solo.{line_in}
use Rattle.commit_engine.proofs.WrittenLines.{gathered-none, gathered-more, gathered-all, marks-lines}
use Rattle.commit_engine.proofs.written.gather.Goals as goal

pub loop-d-init : goal.loop-d-init
loop-d-init c =
    gathered-none c.args.cfg.now (maps c.args.cache.now) (words_of c.args.spilled.now) c.in_ok-lines.lines.items c.in_ok-lines.ensures.kept

pub loop-d-preserved : goal.loop-d-preserved
loop-d-preserved c =
    let was : List ℕ = c.loop-d.lines.items in
    let ms : map mark_of c.in_ok-marks.marks.items ≡ marks_by_home c.args.cfg.now (maps c.args.cache.now) c.loop-d.d =
    subst (λ (sh : Shape). map mark_of c.in_ok-marks.marks.items ≡ marks_by_home sh (maps c.args.cache.now) c.loop-d.d) c.requires
    c.in_ok-marks.ensures in
    gathered-more c.args.cfg.now (maps c.args.cache.now) (words_of c.args.spilled.now) c.loop-d.d was c.add_lines.new.lines.items
    c.loop-d.invariant
    (c.in_ok-add_lines.ensures ∙ ap (λ (xs : List (LineAddr × Mask)). was ++ map line_in xs) c.deref.ensures.value
    ∙ ap (λ (xs : List ℕ). was ++ xs) (marks-lines c.args.cfg.now (maps c.args.cache.now) c.loop-d.d c.in_ok-marks.marks.items ms))

pub returns-clause-each : goal.returns-clause-each
returns-clause-each c =
    let sh = c.args.cfg.now in
    gathered-all sh (maps c.args.cache.now) (words_of c.args.spilled.now) c.loop-d.d c.loop-d.lines.items c.loop-d.invariant
    (λ l. let some : 0 < sh.dirs = omega (arith, c.dirs-d-end.ensures.allowed) in
    let b : l % sh.dirs < sh.dirs = mod-lt l some in omega (arith, b, c.dirs-d-end.ensures.value, c.loop-d-test.false))

pub returns-clause-only : goal.returns-clause-only
returns-clause-only c = c.loop-d.invariant.only
