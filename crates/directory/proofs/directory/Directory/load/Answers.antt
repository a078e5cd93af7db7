use Rattle.std.proofs.Common.{◌≡◌, None, option_map, ap, sym, ◌∙◌, arith}
use Rattle.base_lemmas.proofs.Lemmas.{le-false, le-true}
use borrow.Author.Tests.{lt-ltb, le-ltb}
use Rattle.rules_tcc.specs.DirDeliver.{ask_owner, load_unless_owned, load_request}
use Rattle.dir_lines.specs.Kept.{kept}
use Rattle.directory.specs.Data.{dir_of}
use Rattle.directory.proofs.RuleCases.{load-early, load-marked, load-other}
use Rattle.directory.proofs.Giving.{gives-ok, waits}
use Rattle.directory.proofs.directory.Directory.load.Goals as goal

pub returns-then-serving-after-clause-gives : goal.returns-then-serving-after-clause-gives
unfolding dir_of
returns-then-serving-after-clause-gives c =
    let serving : c.serving.result.0 ≡ c.args.self.now.serving.serving = c.serving.ensures ∙ ap (λ d. d.serving.serving) c.self.view_is in
    waits (λ e. load-early c.args.src.0 c.args.line.0 c.args.after.0 (dir_of e c.args.self.now)
    (le-true c.args.self.now.serving.serving c.args.after.0 (omega arith)))

pub returns-then-record-gt0-clause-gives : goal.returns-then-record-gt0-clause-gives
unfolding dir_of
returns-then-record-gt0-clause-gives c =
    let serving : c.serving.result.0 ≡ c.args.self.now.serving.serving = c.serving.ensures ∙ ap (λ d. d.serving.serving) c.self.view_is in
    let mark : c.get-record.result.mark.0 ≡ (kept c.args.self.now.lines).mark c.args.line.0 = c.get-record.ensures.mark
    ∙ ap (λ d. (kept d.lines).mark c.args.line.0) c.self.view_is in
    waits (λ e. load-marked c.args.src.0 c.args.line.0 c.args.after.0 (dir_of e c.args.self.now)
    (le-false c.args.self.now.serving.serving c.args.after.0 (omega arith))
    (lt-ltb 0 ((kept c.args.self.now.lines).mark c.args.line.0) (omega arith)))

pub returns-in-Some-clause-gives : goal.returns-in-Some-clause-gives
unfolding dir_of
returns-in-Some-clause-gives c =
    let serving : c.serving.result.0 ≡ c.args.self.now.serving.serving = c.serving.ensures ∙ ap (λ d. d.serving.serving) c.self.view_is in
    let mark : c.get-record.result.mark.0 ≡ (kept c.args.self.now.lines).mark c.args.line.0 = c.get-record.ensures.mark
    ∙ ap (λ d. (kept d.lines).mark c.args.line.0) c.self.view_is in
    gives-ok c.args.self.now c.ask.new.self c.args.out.now.list.items c.ask.new.out.list.items c.ask.result
    (ask_owner c.in-Some.owner.0 c.args.line.0) (load_request c.args.src.0 c.args.line.0 c.args.after.0) (λ e.
    load-other c.args.src.0 c.args.line.0 c.args.after.0 (dir_of e c.args.self.now)
    (le-false c.args.self.now.serving.serving c.args.after.0 (omega arith))
    (le-ltb 0 ((kept c.args.self.now.lines).mark c.args.line.0) (omega arith))
    ∙ ap (load_unless_owned c.args.src.0 c.args.line.0 (dir_of e c.args.self.now))
    (ap (λ d. (kept d.lines).owner c.args.line.0) (sym c.self.view_is)
    ∙ (sym c.get-record.ensures.owner ∙ ap (option_map (λ k. k.0)) c.in-Some.is)))
    c.ask.ensures.gives

pub returns-in-None-clause-gives : goal.returns-in-None-clause-gives
unfolding dir_of
returns-in-None-clause-gives c =
    let serving : c.serving.result.0 ≡ c.args.self.now.serving.serving = c.serving.ensures ∙ ap (λ d. d.serving.serving) c.self.view_is in
    let mark : c.get-record.result.mark.0 ≡ (kept c.args.self.now.lines).mark c.args.line.0 = c.get-record.ensures.mark
    ∙ ap (λ d. (kept d.lines).mark c.args.line.0) c.self.view_is in
    gives-ok c.args.self.now c.fill.new.self c.args.out.now.list.items c.fill.new.out.list.items c.fill.result
    (λ s. load_unless_owned c.args.src.0 c.args.line.0 s None) (load_request c.args.src.0 c.args.line.0 c.args.after.0) (λ e.
    load-other c.args.src.0 c.args.line.0 c.args.after.0 (dir_of e c.args.self.now)
    (le-false c.args.self.now.serving.serving c.args.after.0 (omega arith))
    (le-ltb 0 ((kept c.args.self.now.lines).mark c.args.line.0) (omega arith))
    ∙ ap (load_unless_owned c.args.src.0 c.args.line.0 (dir_of e c.args.self.now))
    (ap (λ d. (kept d.lines).owner c.args.line.0) (sym c.self.view_is)
    ∙ (sym c.get-record.ensures.owner ∙ ap (option_map (λ k. k.0)) c.in-None.is)))
    c.fill.ensures.gives
