use Rattle.std.proofs.Common.{◌≡◌, ◌≤◌, ◌++◌, length, ap, sym, ◌∙◌, arith}
use Rattle.rules_maps.specs.Words.{those}
use Rattle.rules_maps.specs.Shape.{lines}
use Rattle.rules_maps.specs.Lines.{has_mark}
use Rattle.dir_lines.specs.Kept.{kept}
use Rattle.dir_lines.proofs.Lemmas.{listed-at_home, listed-count}
use Rattle.directory.specs.Invs.{told_of}
use Rattle.directory.proofs.Told.{take-past, take-whole, told_of-grows}
use Rattle.directory.proofs.invalidate.tell_all.Goals as goal
use Rattle.directory.proofs.invalidate.tell_all.Goals.{in-Some+in_ok-tell, in_default}

pub tell-requires : goal.tell-requires
tell-requires c = listed-at_home c.args.lines.now c.loop-k.k c.in-Some.line.0 (sym c.in-Some.ensures)

pub loop-k-preserved : goal.loop-k-preserved
loop-k-preserved c =
    elim c.match-marked_line.branch [
      | in-Some+in_ok-tell w ↦
          ap (λ o. o.list.items) w.out-is
          ∙ told_of-grows c.args.out.now.list.items c.loop-k.out.list.items w.tell.new.out.list.items
          (kept c.args.lines.now) c.args.lines.now.place.shape.cores c.args.src.0 c.args.tid.0
          (those (has_mark (kept c.args.lines.now)) (lines c.args.lines.now.place.shape)) c.loop-k.k w.in-Some.line.0
          (sym w.in-Some.ensures) c.loop-k.invariant w.in_ok-tell.ensures.sent
      | in_default w ↦
          ap (λ o. o.list.items) w.out-is
          ∙ (c.loop-k.invariant
          ∙ ap (λ xs. c.args.out.now.list.items ++ told_of (kept c.args.lines.now) c.args.lines.now.place.shape.cores c.args.src.0
          c.args.tid.0 xs)
          (sym (take-past (those (has_mark (kept c.args.lines.now)) (lines c.args.lines.now.place.shape)) c.loop-k.k
          (sym w.in_default.ensures))))
    ]

pub returns-clause-sent : goal.returns-clause-sent
returns-clause-sent c =
    let all : length (those (has_mark (kept c.args.lines.now)) (lines c.args.lines.now.place.shape)) ≤ c.loop-k.k =
    omega (arith, listed-count c.args.lines.now, c.marked_lines-k-end.ensures.count) in
    c.loop-k.invariant
    ∙ ap (λ xs. c.args.out.now.list.items ++ told_of (kept c.args.lines.now) c.args.lines.now.place.shape.cores c.args.src.0 c.args.tid.0
    xs)
    (take-whole (those (has_mark (kept c.args.lines.now)) (lines c.args.lines.now.place.shape)) c.loop-k.k all)
