use Rattle.std.proofs.Common.{rules, ◌≡◌, ◌*◌, ◌+◌, ◌/◌, ◌<◌, ◌≤◌, Some, None, length, slice_get, sym, subst, ap, ◌∙◌, arith}
use Rattle.rules_maps.specs.Lines.{has_mark}
use Rattle.rules_maps.specs.Shape.{lines}
use Rattle.rules_maps.specs.Words.{those}
use Rattle.dir_lines.specs.Marking.{marked_at}
use Rattle.dir_lines.specs.Pages.{pages_at}
use Rattle.dir_lines.specs.PagesInside.{pages_of}
use Rattle.dir_lines.specs.Record.{lines_of}
use Rattle.dir_lines.proofs.Places.{line-nth, line-exists}
use Rattle.dir_lines.proofs.pages.PageLinesLines.marked_line.Goals as goal

pub overflow_mul-result : goal.overflow_mul-result
overflow_mul-result c =
    let line : c.in-Some.place * c.dirs.result + c.self.inside.home.0 < c.self.inside.cfg.ram / 32 =
    subst (λ d. c.in-Some.place * d + c.self.inside.home.0 < c.self.inside.cfg.ram / 32) (sym c.dirs.ensures.value)
    (line-exists (pages_of c.self.inside) (16 * length c.self.inside.marks.many) c.args.k c.in-Some.place
    (record { exists = c.self.invariant.home.1; count = c.self.invariant.count }) c.self.invariant.room
    (subst (λ rs. Some c.in-Some.place ≡ slice_get (those (marked_at rs) (16 * length c.self.inside.marks.many)) c.args.k)
    c.deref.ensures.value c.in-Some.ensures)) in
    let ram : c.self.inside.cfg.ram ≤ 16777216 = c.self.invariant.home.0.4.1 in
    let s : c.in-Some.place * c.dirs.result < 4294967296 = omega arith in
    search rules

pub overflow_add-result : goal.overflow_add-result
overflow_add-result c =
    let line : c.in-Some.place * c.dirs.result + c.self.inside.home.0 < c.self.inside.cfg.ram / 32 =
    subst (λ d. c.in-Some.place * d + c.self.inside.home.0 < c.self.inside.cfg.ram / 32) (sym c.dirs.ensures.value)
    (line-exists (pages_of c.self.inside) (16 * length c.self.inside.marks.many) c.args.k c.in-Some.place
    (record { exists = c.self.invariant.home.1; count = c.self.invariant.count }) c.self.invariant.room
    (subst (λ rs. Some c.in-Some.place ≡ slice_get (those (marked_at rs) (16 * length c.self.inside.marks.many)) c.args.k)
    c.deref.ensures.value c.in-Some.ensures)) in
    let ram : c.self.inside.cfg.ram ≤ 16777216 = c.self.invariant.home.0.4.1 in
    let s : c.in-Some.place * c.dirs.result + c.self.inside.home.0 < 4294967296 = omega arith in
    search rules

pub returns-in-Some : goal.returns-in-Some
returns-in-Some c =
    subst (λ d. Some (c.in-Some.place * d + c.self.inside.home.0)
    ≡ slice_get (those (has_mark (lines_of (pages_at c.args.self.now))) (lines c.args.self.now.place.shape)) c.args.k)
    (sym c.dirs.ensures.value)
    (line-nth (pages_of c.self.inside) (16 * length c.self.inside.marks.many) c.args.k (Some c.in-Some.place)
    (record { exists = c.self.invariant.home.1; count = c.self.invariant.count }) c.self.invariant.room
    (subst (λ rs. Some c.in-Some.place ≡ slice_get (those (marked_at rs) (16 * length c.self.inside.marks.many)) c.args.k)
    c.deref.ensures.value c.in-Some.ensures)
    ∙ ap (λ q. slice_get (those (has_mark (lines_of (pages_at q))) (lines q.place.shape)) c.args.k) c.self.view_is)

pub returns-in-None : goal.returns-in-None
returns-in-None c =
    line-nth (pages_of c.self.inside) (16 * length c.self.inside.marks.many) c.args.k None
    (record { exists = c.self.invariant.home.1; count = c.self.invariant.count }) c.self.invariant.room
    (subst (λ rs. None ≡ slice_get (those (marked_at rs) (16 * length c.self.inside.marks.many)) c.args.k)
    c.deref.ensures.value c.in-None.ensures)
    ∙ ap (λ q. slice_get (those (has_mark (lines_of (pages_at q))) (lines q.place.shape)) c.args.k) c.self.view_is
