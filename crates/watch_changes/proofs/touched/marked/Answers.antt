-- Each number has a marked line.
use Rattle.std.proofs.Common.{◌++◌, [], ◌∷◌, ◌∙◌, ap, arith, sym}
use Rattle.std.specs.Prelude.{slice_get}
use Rattle.std.proofs.lemmas.List.{map-append, take_all}
use Rattle.tcc_base.specs.Settings.{Settings}
use Rattle.rules_maps.specs.Lines.{has_mark}
use Rattle.rules_maps.specs.Shape.{lines}
use Rattle.rules_maps.specs.Words.{count_below, those}
use Rattle.rules_maps.proofs.Lemmas.{length-those}
use Rattle.directory.specs.Data.{dir_of}
use Rattle.watch_changes.specs.Plain.{line_numbers}
use Rattle.watch_changes.proofs.Listing.{found-more, found-past}
use Rattle.watch_changes.proofs.touched.marked.Goals as goal
use Rattle.watch_changes.proofs.touched.marked.Goals.{in-Some+in_ok-push, in_default}

pub loop-k-preserved : goal.loop-k-preserved
loop-k-preserved c = λ e.
    let sh = c.args.config.now in
    let has = has_mark (dir_of e c.args.dir.now).lines in
    let at = c.marked_line.ensures e ∙ ap (λ (s : Settings). slice_get (those has (lines s)) c.loop-k.k) c.requires in
    let count = c.marked_lines-k-end.ensures e ∙ ap (λ (s : Settings). count_below has (lines s)) c.requires in
    elim c.match-marked_line.branch [
      | in-Some+in_ok-push w ↦
          ap (λ ls. line_numbers ls) (w.found-is ∙ w.in_ok-push.ensures)
          ∙ map-append (λ l. l.0) c.loop-k.found (w.in-Some.line ∷ [])
          ∙ ap (λ js. js ++ w.in-Some.line.0 ∷ []) (c.loop-k.invariant e)
          ∙ sym (found-more (those has (lines sh)) c.loop-k.k c.marked_line.result w.in-Some.line at w.in-Some.is)
      | in_default w ↦
          absurd (found-past (those has (lines sh)) c.loop-k.k c.marked_line.result at (w.in_default.is)
          (omega (arith, c.loop-k-test.true, count, length-those has (lines sh))))
    ]

pub returns : goal.returns
returns c = λ e.
    let sh = c.args.config.now in
    let has = has_mark (dir_of e c.args.dir.now).lines in
    let count = c.marked_lines-k-end.ensures e ∙ ap (λ (s : Settings). count_below has (lines s)) c.requires in
    c.loop-k.invariant e
    ∙ take_all c.loop-k.k (those has (lines sh)) (omega (arith, c.loop-k-test.false, count, length-those has (lines sh)))
