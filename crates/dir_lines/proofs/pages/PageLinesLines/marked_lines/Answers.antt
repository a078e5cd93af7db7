use Rattle.std.proofs.Common.{rules, ◌≡◌, ◌*◌, ◌<◌, ◌≤◌, length, ap, ◌∙◌, arith}
use Rattle.dir_lines.specs.Record.{lines_of}
use Rattle.rules_maps.specs.Shape.{lines}
use Rattle.rules_maps.specs.Lines.{has_mark}
use Rattle.rules_maps.specs.Words.{those, count_below}
use Rattle.dir_lines.specs.Marking.{marked_at}
use Rattle.dir_lines.specs.Pages.{pages_at}
use Rattle.dir_lines.specs.PagesInside.{pages_of}
use Rattle.dir_lines.proofs.PagesKeep.{marked-at_home}
use Rattle.dir_lines.proofs.Places.{lines-count, places-few}
use Rattle.dir_lines.proofs.pages.PageLinesLines.marked_lines.Goals as goal

pub overflow_cast-result : goal.overflow_cast-result
overflow_cast-result c =
    let a : c.len.result ≡ length (those (marked_at c.self.inside.records.items) (16 * length c.self.inside.marks.many)) =
    c.len.ensures (marked_at c.self.inside.records.items) c.self.invariant.marks in
    let b : length (those (marked_at c.self.inside.records.items) (16 * length c.self.inside.marks.many))
    ≤ length c.self.inside.records.items =
    places-few c.self.inside.records.items (16 * length c.self.inside.marks.many) c.self.invariant.room in
    let d : length c.self.inside.records.items ≤ 1048576 = c.self.invariant.few in
    let f : c.len.result < 4294967296 = omega arith in
    search rules

pub returns-clause-count : goal.returns-clause-count
returns-clause-count c =
    c.len.ensures (marked_at c.self.inside.records.items) c.self.invariant.marks
    ∙ (lines-count (pages_of c.self.inside) (16 * length c.self.inside.marks.many)
    (record { exists = c.self.invariant.home.1; count = c.self.invariant.count }) c.self.invariant.room
    ∙ ap (λ q. count_below (has_mark (lines_of (pages_at q))) (lines q.place.shape)) c.self.view_is)

pub returns-clause-at_home : goal.returns-clause-at_home
returns-clause-at_home c l h = marked-at_home c.args.self.now l h
