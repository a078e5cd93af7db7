-- The line is in RAM, or isn't.
use Rattle.std.proofs.Common.{◌++◌, [], ◌∷◌, ◌∙◌, ap, arith, sym}
use Rattle.rules_maps.specs.Shape.{lines}
use Rattle.watch_changes.specs.Plain.{line_numbers}
use Rattle.watch_changes.proofs.Listing.{alone-inside, alone-outside}
use Rattle.watch_changes.proofs.touched.line_alone.Goals as goal
use Rattle.watch_changes.proofs.touched.line_alone.Goals.{then-line-words+in_ok-push, else-line-words}

pub returns : goal.returns
returns c =
    let l = c.args.line.0 in
    elim c.if-line-words.branch [
      | then-line-words+in_ok-push w ↦
          ap (λ ls. line_numbers ls) (w.found-is ∙ w.in_ok-push.ensures ∙ ap (λ ls. ls ++ c.args.line ∷ []) c.new-found.ensures)
          ∙ sym (alone-inside l (lines c.args.config.now) (omega (arith, w.if-line-words.true, c.words.ensures.value)))
      | else-line-words w ↦
          ap (λ ls. line_numbers ls) (w.found-is ∙ c.new-found.ensures)
          ∙ sym (alone-outside l (lines c.args.config.now) (omega (arith, w.if-line-words.false, c.words.ensures.value)))
    ]
