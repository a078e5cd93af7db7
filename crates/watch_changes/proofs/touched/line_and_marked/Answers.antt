-- The line is in RAM, or isn't.
use Rattle.std.proofs.Common.{◌≡◌, ◌∙◌, ap, arith, sym}
use Rattle.std.proofs.lemmas.Result.{IfOk-weaker}
use Rattle.rules_maps.specs.Lines.{has_mark}
use Rattle.rules_maps.specs.Shape.{lines}
use Rattle.directory.specs.Data.{dir_of}
use Rattle.watch_changes.specs.Plain.{line_numbers, with_line}
use Rattle.watch_changes.proofs.Listing.{more-outside, with-those}
use Rattle.watch_changes.proofs.touched.line_and_marked.Goals as goal

pub returns-then-line-words : goal.returns-then-line-words
returns-then-line-words c = λ e.
    let l = c.args.line.0 in
    let n = lines c.args.config.now in
    let has = has_mark (dir_of e c.args.dir.now).lines in
    let items : c.deref.result.now ≡ c.in_ok-marked.marked = c.deref.ensures.value ∙ c.marked-then-line-words.view_is in
    IfOk-weaker c.and_line.result _ _ (λ found h. h ∙ ap (λ ls. with_line l (line_numbers ls)) items
    ∙ ap (with_line l) (c.in_ok-marked.ensures e)
    ∙ with-those l n has (omega (arith, c.if-line-words.true, c.words.ensures.value)))
    c.and_line.ensures

pub returns-else-line-words : goal.returns-else-line-words
returns-else-line-words c = λ e.
    let l = c.args.line.0 in
    let n = lines c.args.config.now in
    let has = has_mark (dir_of e c.args.dir.now).lines in
    c.in_ok-marked.ensures e ∙ sym (more-outside l n has (omega (arith, c.if-line-words.false, c.words.ensures.value)))
