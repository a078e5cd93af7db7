-- The first lines, the one where it isn't the next of them, and the others.
use Rattle.std.proofs.Common.{◌≡◌, ◌++◌, [], ◌∷◌, ◌∙◌, ap, arith, drop, take}
use Rattle.std.proofs.lemmas.List.{map-append}
use Rattle.watch_changes.specs.Plain.{line_numbers, with_line}
use Rattle.watch_changes.proofs.Listing.{placed-at, placed-end, placed-new, rest-behind, rest-there}
use Rattle.watch_changes.proofs.touched.and_line.Goals as goal
use Rattle.watch_changes.proofs.touched.and_line.Goals.{then-at-lines+in_ok-push, then-at-lines-via-then-at-lines}
use Rattle.watch_changes.proofs.touched.and_line.Goals.{then-at-lines-via-else-at-lines+then-lines-at, else-at-lines+else-lines-at}

pub returns : goal.returns
returns c =
    let l = c.args.line.0 in
    let ls = c.args.lines.now in
    let k = c.place-at.result in
    let firsts : line_numbers c.push_lines.new.found ≡ line_numbers (take k ls) =
    c.in_ok-push_lines.ensures ∙ ap (λ found. line_numbers found ++ line_numbers (take k ls)) c.new-found.ensures in
    elim c.if-at-lines.branch [
      | then-at-lines+in_ok-push w ↦
          let more : line_numbers c.if-at-lines.found ≡ line_numbers (take k ls) ++ l ∷ [] =
          ap (λ found. line_numbers found) (w.found-is ∙ w.in_ok-push.ensures)
          ∙ map-append (λ j. j.0) c.push_lines.new.found (c.args.line ∷ []) ∙ ap (λ js. js ++ l ∷ []) firsts in
          let placed : with_line l (line_numbers (drop k ls)) ≡ l ∷ line_numbers (drop k ls) =
          elim w.then-at-lines.branch [
            | then-at-lines-via-then-at-lines v ↦ placed-end l ls k (omega (arith, v.if-at-lines.true))
            | then-at-lines-via-else-at-lines+then-lines-at v ↦
                placed-new l ls k _ v.if-at-lines.false v.if-lines-at.true (c.place-at.ensures.stops _ v.if-at-lines.false)
          ] in
          rest-behind l ls k (line_numbers c.if-at-lines.found) (line_numbers c.push_lines-2.new.found) (with_line l (line_numbers ls))
          more c.in_ok-push_lines-2.ensures placed c.place-at.ensures.before
      | else-at-lines+else-lines-at w ↦
          rest-there l ls k (line_numbers c.if-at-lines.found) (line_numbers c.push_lines-2.new.found) (with_line l (line_numbers ls))
          (ap (λ found. line_numbers found) w.found-is ∙ firsts) c.in_ok-push_lines-2.ensures
          (placed-at l ls k _ w.if-at-lines.false w.if-lines-at.false) c.place-at.ensures.before
    ]
