use Rattle.std.proofs.Common.{◌≡◌, true, false, refl, ap, ◌∙◌, arith}
use borrow.Author.Tests.{lt-ltb, le-ltb}
use Rattle.rules_maps.specs.Lines.{has_mark}
use Rattle.dir_lines.specs.Kept.{kept}
use Rattle.directory.specs.Data.{dir_of}
use Rattle.directory.proofs.directory.Directory.line_cause.Goals as goal

pub returns-then-get-gt0 : goal.returns-then-get-gt0
unfolding dir_of
returns-then-get-gt0 c = λ e.
    let mark : c.get.result.mark.0 ≡ (kept c.args.self.now.lines).mark c.args.line.0 =
    c.get.ensures.mark ∙ ap (λ d. (kept d.lines).mark c.args.line.0) c.self.view_is in
    let marked : has_mark (kept c.args.self.now.lines) c.args.line.0 ≡ true =
    lt-ltb 0 ((kept c.args.self.now.lines).mark c.args.line.0) (omega arith) in
    rw marked refl

pub returns : goal.returns
unfolding dir_of
returns c = λ e.
    let mark : c.get.result.mark.0 ≡ (kept c.args.self.now.lines).mark c.args.line.0 =
    c.get.ensures.mark ∙ ap (λ d. (kept d.lines).mark c.args.line.0) c.self.view_is in
    let unmarked : has_mark (kept c.args.self.now.lines) c.args.line.0 ≡ false =
    le-ltb 0 ((kept c.args.self.now.lines).mark c.args.line.0) (omega arith) in
    rw unmarked refl
