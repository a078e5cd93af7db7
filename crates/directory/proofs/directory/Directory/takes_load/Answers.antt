use Rattle.std.proofs.Common.{◌≡◌, not, option_map, ap, sym, ◌∙◌, arith}
use Rattle.base_lemmas.proofs.Lemmas.{le-false, le-true}
use borrow.Author.Tests.{lt-ltb, le-ltb}
use Rattle.rules_maps.specs.Shape.{lines}
use Rattle.rules_tcc.specs.DirDeliver.{load_unless_owned}
use Rattle.dir_lines.specs.Kept.{kept}
use Rattle.directory.specs.Data.{dir_of}
use Rattle.directory.specs.Gives.{is_taken}
use Rattle.directory.proofs.RuleCases.{load-early, load-marked, load-other}
use Rattle.directory.proofs.Taking.{ask-taken}
use Rattle.directory.proofs.directory.Directory.takes_load.Goals as goal

pub returns-then-serving-after : goal.returns-then-serving-after
unfolding dir_of
returns-then-serving-after c = λ e k.
    let serving : c.serving.result.0 ≡ c.args.self.now.serving.serving = c.serving.ensures ∙ ap (λ d. d.serving.serving) c.self.view_is in
    sym (ap is_taken (load-early k c.args.line.0 c.args.after.0 (dir_of e c.args.self.now)
    (le-true c.args.self.now.serving.serving c.args.after.0 (omega arith))))

pub returns-then-record-gt0 : goal.returns-then-record-gt0
unfolding dir_of
returns-then-record-gt0 c = λ e k.
    let serving : c.serving.result.0 ≡ c.args.self.now.serving.serving = c.serving.ensures ∙ ap (λ d. d.serving.serving) c.self.view_is in
    let mark : c.get-record.result.mark.0 ≡ (kept c.args.self.now.lines).mark c.args.line.0 = c.get-record.ensures.mark
    ∙ ap (λ d. (kept d.lines).mark c.args.line.0) c.self.view_is in
    sym (ap is_taken (load-marked k c.args.line.0 c.args.after.0 (dir_of e c.args.self.now)
    (le-false c.args.self.now.serving.serving c.args.after.0 (omega arith))
    (lt-ltb 0 ((kept c.args.self.now.lines).mark c.args.line.0) (omega arith))))

pub returns-in-Some : goal.returns-in-Some
unfolding dir_of
returns-in-Some c = λ e k.
    let serving : c.serving.result.0 ≡ c.args.self.now.serving.serving = c.serving.ensures ∙ ap (λ d. d.serving.serving) c.self.view_is in
    let mark : c.get-record.result.mark.0 ≡ (kept c.args.self.now.lines).mark c.args.line.0 = c.get-record.ensures.mark
    ∙ ap (λ d. (kept d.lines).mark c.args.line.0) c.self.view_is in
    ap not (c.get-record.ensures.asked ∙ ap (λ d. (kept d.lines).asked c.args.line.0) c.self.view_is)
    ∙ (ask-taken c.in-Some.field-0.0 c.args.line.0 (dir_of e c.args.self.now)
    ∙ sym (ap is_taken (load-other k c.args.line.0 c.args.after.0 (dir_of e c.args.self.now)
    (le-false c.args.self.now.serving.serving c.args.after.0 (omega arith))
    (le-ltb 0 ((kept c.args.self.now.lines).mark c.args.line.0) (omega arith))
    ∙ ap (load_unless_owned k c.args.line.0 (dir_of e c.args.self.now))
    (ap (λ d. (kept d.lines).owner c.args.line.0) (sym c.self.view_is)
    ∙ (sym c.get-record.ensures.owner ∙ ap (option_map (λ q. q.0)) c.in-Some.is)))))

pub returns-in-None : goal.returns-in-None
unfolding dir_of
returns-in-None c = λ e k.
    let serving : c.serving.result.0 ≡ c.args.self.now.serving.serving = c.serving.ensures ∙ ap (λ d. d.serving.serving) c.self.view_is in
    let mark : c.get-record.result.mark.0 ≡ (kept c.args.self.now.lines).mark c.args.line.0 = c.get-record.ensures.mark
    ∙ ap (λ d. (kept d.lines).mark c.args.line.0) c.self.view_is in
    sym (ap is_taken (load-other k c.args.line.0 c.args.after.0 (dir_of e c.args.self.now)
    (le-false c.args.self.now.serving.serving c.args.after.0 (omega arith))
    (le-ltb 0 ((kept c.args.self.now.lines).mark c.args.line.0) (omega arith))
    ∙ ap (load_unless_owned k c.args.line.0 (dir_of e c.args.self.now))
    (ap (λ d. (kept d.lines).owner c.args.line.0) (sym c.self.view_is)
    ∙ (sym c.get-record.ensures.owner ∙ ap (option_map (λ q. q.0)) c.in-None.is))))
