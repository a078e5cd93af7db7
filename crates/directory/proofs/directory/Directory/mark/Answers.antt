use Rattle.std.proofs.Common.{◌≡◌, ◌==◌, None, if◌then◌else◌, ap, sym, ◌∙◌, arith}
use borrow.Author.Tests.{lt-ltb, le-ltb}
use Rattle.rules_maps.specs.Masks.{full}
use Rattle.rules_tcc.specs.DirDeliver.{ask_owner, mark_unless_owned, mark}
use Rattle.dir_lines.specs.Kept.{kept}
use Rattle.directory.specs.Data.{dir_of}
use Rattle.directory.specs.DataInside.{data_of}
use Rattle.directory.proofs.RuleCases.{mark-lower, mark-early, mark-served}
use Rattle.directory.proofs.Giving.{gives-from, gives-by, gives-ok, waits, drops, mark-marks}
use Rattle.directory.proofs.directory.Directory.mark.Goals as goal

pub returns-then-tid-serving-clause-gives : goal.returns-then-tid-serving-clause-gives
unfolding dir_of
returns-then-tid-serving-clause-gives c =
    let serving : c.serving-serving.result.0 ≡ c.args.self.now.serving.serving = c.serving-serving.ensures
    ∙ ap (λ d. d.serving.serving) c.self.view_is in
    drops (λ e. mark-lower c.args.line.0 c.args.mask.0 c.args.tid.0 (dir_of e c.args.self.now)
    (lt-ltb c.args.tid.0 c.args.self.now.serving.serving (omega arith)))

pub returns-then-serving-tid-clause-gives : goal.returns-then-serving-tid-clause-gives
unfolding dir_of
returns-then-serving-tid-clause-gives c =
    let serving : c.serving-serving.result.0 ≡ c.args.self.now.serving.serving = c.serving-serving.ensures
    ∙ ap (λ d. d.serving.serving) c.self.view_is in
    waits (λ e. mark-early c.args.line.0 c.args.mask.0 c.args.tid.0 (dir_of e c.args.self.now)
    (le-ltb c.args.tid.0 c.args.self.now.serving.serving (omega arith))
    (lt-ltb c.args.self.now.serving.serving c.args.tid.0 (omega arith)))

pub returns-in-Some-clause-gives : goal.returns-in-Some-clause-gives
unfolding dir_of
returns-in-Some-clause-gives c =
    let serving : c.serving-serving.result.0 ≡ c.args.self.now.serving.serving = c.serving-serving.ensures
    ∙ ap (λ d. d.serving.serving) c.self.view_is in
    gives-ok c.args.self.now c.ask.new.self c.args.out.now.list.items c.ask.new.out.list.items c.ask.result
    (ask_owner c.in-Some.owner.0 c.args.line.0) (mark c.args.line.0 c.args.mask.0 c.args.tid.0) (λ e.
    mark-served c.args.line.0 c.args.mask.0 c.args.tid.0 (dir_of e c.args.self.now)
    (le-ltb c.args.tid.0 c.args.self.now.serving.serving (omega arith))
    (le-ltb c.args.self.now.serving.serving c.args.tid.0 (omega arith))
    ∙ ap (mark_unless_owned c.args.line.0 c.args.mask.0 (dir_of e c.args.self.now))
    (ap (λ d. if c.args.mask.0 == full then None else (kept d.lines).owner c.args.line.0) (sym c.self.view_is) ∙ sym c.in-Some.ensures))
    c.ask.ensures.gives

pub returns-in-None-clause-gives : goal.returns-in-None-clause-gives
unfolding dir_of
returns-in-None-clause-gives c =
    gives-from c.self.view_is
    (gives-by (λ s. mark_unless_owned c.args.line.0 c.args.mask.0 s None) (mark c.args.line.0 c.args.mask.0 c.args.tid.0) (λ e.
    mark-served c.args.line.0 c.args.mask.0 c.args.tid.0 (dir_of e (data_of c.self.inside))
    (le-ltb c.args.tid.0 c.self.inside.skips.serving (omega (arith, c.serving-serving.ensures)))
    (le-ltb c.self.inside.skips.serving c.args.tid.0 (omega (arith, c.serving-serving.ensures)))
    ∙ ap (mark_unless_owned c.args.line.0 c.args.mask.0 (dir_of e (data_of c.self.inside))) (sym c.in-None.ensures))
    (mark-marks c.self.inside.lines c.self.inside.words c.self.inside.skips c.self.inside.owed c.set_mark.new.self c.args.out.now.list.items
    c.args.line.0 c.args.mask.0 c.set_mark.ensures.map))
