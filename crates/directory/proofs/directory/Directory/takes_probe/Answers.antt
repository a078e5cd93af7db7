use Rattle.std.proofs.Common.{◌≡◌, ◌==◌, None, if◌then◌else◌, not, option_map, ap, sym, ◌∙◌, arith}
use borrow.Author.Tests.{lt-ltb, le-ltb, eq-eqb, ne_eqb}
use Rattle.rules_maps.specs.Words.{count_below}
use Rattle.rules_maps.specs.Masks.{full}
use Rattle.rules_maps.specs.Shape.{lines}
use Rattle.rules_maps.specs.Lines.{has_mark}
use Rattle.rules_maps.specs.Judge.{judge}
use Rattle.rules_tcc.specs.DirDeliver.{load_unless_owned, mark_unless_owned}
use Rattle.dir_lines.specs.Kept.{kept}
use Rattle.directory.specs.Data.{dir_of}
use Rattle.directory.specs.Gives.{is_taken}
use Rattle.directory.proofs.RuleCases.{probe-early, probe-served}
use Rattle.directory.proofs.Taking.{ask-taken}
use Rattle.directory.proofs.directory.Directory.takes_probe.Goals as goal

pub returns-then-serving-tid : goal.returns-then-serving-tid
unfolding dir_of
returns-then-serving-tid c = λ e k.
    let serving : c.serving.result.0 ≡ c.args.self.now.serving.serving = c.serving.ensures ∙ ap (λ d. d.serving.serving) c.self.view_is in
    sym (ap is_taken (probe-early k c.args.tid.0 (dir_of e c.args.self.now)
    (lt-ltb c.args.self.now.serving.serving c.args.tid.0 (omega arith))))

pub returns : goal.returns
unfolding dir_of
returns c = λ e k.
    let serving : c.serving.result.0 ≡ c.args.self.now.serving.serving = c.serving.ensures ∙ ap (λ d. d.serving.serving) c.self.view_is in
    sym (ap is_taken (probe-served k c.args.tid.0 (dir_of e c.args.self.now)
    (le-ltb c.args.self.now.serving.serving c.args.tid.0 (omega arith))))
