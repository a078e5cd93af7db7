use Rattle.std.proofs.Common.{◌/◌, ◌<◌, length, length-set, sym, subst, ap, ◌∙◌, arith}
use Rattle.rules_maps.specs.Words.{put}
use Rattle.dir_lines.specs.Home.{IsAtHome}
use Rattle.dir_lines.specs.Marking.{marked_at, IsMarked}
use Rattle.dir_lines.specs.Pages.{pages_at}
use Rattle.dir_lines.specs.PagesInside.{pages_of}
use Rattle.dir_lines.proofs.PagesAt.{stands}
use Rattle.dir_lines.proofs.PagesKeep.{with_record-count, with_record-at}
use Rattle.dir_lines.proofs.Places.{read-place, marked_at-set}
use Rattle.dir_lines.proofs.pages.PageLinesLines.set.Goals as goal

pub index_mut-requires : goal.index_mut-requires
index_mut-requires c =
    let h : c.args.line.0 / c.self.inside.cfg.dirs < length c.self.inside.records.items =
    stands (pages_of c.self.inside) c.args.line.0 (record { exists = c.self.invariant.home.1; count = c.self.invariant.count })
    (subst (λ q. IsAtHome q.place c.args.line.0) (sym c.self.view_is) c.requires) in
    rw c.dirs.ensures.value (omega (arith, c.self.inside.records.ok))

pub update-requires-clause-marks : goal.update-requires-clause-marks
update-requires-clause-marks c =
    let h : c.args.line.0 / c.dirs.result < length c.self.inside.records.items =
    subst (λ d. c.args.line.0 / d < length c.self.inside.records.items) (sym c.dirs.ensures.value)
    (stands (pages_of c.self.inside) c.args.line.0 (record { exists = c.self.invariant.home.1; count = c.self.invariant.count })
    (subst (λ q. IsAtHome q.place c.args.line.0) (sym c.self.view_is) c.requires)) in (
      marked_at c.self.inside.records.items,
      read-place c.self.inside.records.items (c.args.line.0 / c.dirs.result) c.index.result.now h c.index.ensures,
      c.self.invariant.marks,
    )

pub update-requires-clause-within : goal.update-requires-clause-within
update-requires-clause-within c =
    let h : c.args.line.0 / c.dirs.result < length c.self.inside.records.items =
    subst (λ d. c.args.line.0 / d < length c.self.inside.records.items) (sym c.dirs.ensures.value)
    (stands (pages_of c.self.inside) c.args.line.0 (record { exists = c.self.invariant.home.1; count = c.self.invariant.count })
    (subst (λ q. IsAtHome q.place c.args.line.0) (sym c.self.view_is) c.requires)) in
    omega (arith, c.self.invariant.room)

pub invariant_of-self : goal.invariant_of-self
invariant_of-self c =
    let h : c.args.line.0 / c.dirs.result < length c.self.inside.records.items =
    subst (λ d. c.args.line.0 / d < length c.self.inside.records.items) (sym c.dirs.ensures.value)
    (stands (pages_of c.self.inside) c.args.line.0 (record { exists = c.self.invariant.home.1; count = c.self.invariant.count })
    (subst (λ q. IsAtHome q.place c.args.line.0) (sym c.self.view_is) c.requires)) in
    record {
      home = c.self.invariant.home;
      count = with_record-count (pages_of c.self.inside) (c.args.line.0 / c.dirs.result) c.args.to c.self.invariant.count;
      few = omega (arith, c.self.invariant.few, length-set c.self.inside.records.items (c.args.line.0 / c.dirs.result) c.args.to);
      marks = subst (IsMarked c.update.new.self.few.items c.update.new.self.many)
          (sym (marked_at-set c.self.inside.records.items (c.args.line.0 / c.dirs.result) c.args.to h))
          (c.update.ensures.marks (marked_at c.self.inside.records.items)
          (read-place c.self.inside.records.items (c.args.line.0 / c.dirs.result) c.index.result.now h c.index.ensures)
          c.self.invariant.marks);
      room = omega (
        arith,
        c.self.invariant.room,
        c.update.ensures.room,
        length-set c.self.inside.records.items (c.args.line.0 / c.dirs.result) c.args.to,
      );
    }

pub returns-clause-records : goal.returns-clause-records
returns-clause-records c =
    with_record-at (pages_of c.self.inside) c.args.line.0 c.dirs.result c.args.to
    (record { exists = c.self.invariant.home.1; count = c.self.invariant.count })
    (subst (λ q. IsAtHome q.place c.args.line.0) (sym c.self.view_is) c.requires) c.dirs.ensures.value
    ∙ ap (λ q. put (pages_at q) c.args.line.0 c.args.to) c.self.view_is
