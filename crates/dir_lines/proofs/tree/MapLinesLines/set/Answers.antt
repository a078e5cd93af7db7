use Rattle.std.proofs.Common.{◌≡◌, ◌<◌, ◌≤◌, IsSome, length, vec_capacity, sym, subst, ap, ◌∙◌, arith}
use Rattle.rules_maps.specs.Words.{put}
use Rattle.rules_maps.specs.Shape.{lines}
use Rattle.rules_maps.specs.Lines.{has_mark}
use Rattle.dir_lines.specs.Home.{IsAtHome, home_lines}
use Rattle.dir_lines.specs.Record.{lines_of}
use Rattle.dir_lines.specs.Filed.{found, filed_at}
use Rattle.dir_lines.specs.FiledInside.{filed_of}
use Rattle.dir_lines.proofs.PagesKeep.{read-marked, unmarked-room, marked-put}
use Rattle.dir_lines.proofs.Filing.{filed_at-mark, filed-at_home, filed_at-put, all-put}
use Rattle.dir_lines.proofs.tree.MapLinesLines.set.Goals as goal

pub update-requires : goal.update-requires
update-requires c z =
    let at_home : IsAtHome (filed_of c.self.inside).place c.args.line.0 =
    subst (λ q. IsAtHome q.place c.args.line.0) (sym c.self.view_is) c.requires in
    let some : IsSome (found c.self.inside.records.entries c.args.line.0) = c.self.invariant.all c.args.line.0 at_home.0 at_home.1 in
    let read : c.replaced-was.result ≡ (filed_at (filed_of c.self.inside) c.args.line.0).mark =
    filed_at-mark (filed_of c.self.inside) c.args.line.0 c.replaced-was.result at_home some c.replaced-was.ensures.was in
    let h : length c.self.inside.marked.items < home_lines (filed_of c.self.inside).place =
    unmarked-room (filed_of c.self.inside).place (filed_at (filed_of c.self.inside)) c.args.line.0 c.replaced-was.result
    c.self.inside.marked.items c.self.invariant.home.1
    (filed-at_home (filed_of c.self.inside)) at_home read z c.self.invariant.marked in
    let room : home_lines (filed_of c.self.inside).place ≤ vec_capacity c.self.inside.marked = c.self.invariant.room in
    omega (arith, c.self.inside.marked.ok)

pub invariant_of-self : goal.invariant_of-self
invariant_of-self c =
    let at_home : IsAtHome (filed_of c.self.inside).place c.args.line.0 =
    subst (λ q. IsAtHome q.place c.args.line.0) (sym c.self.view_is) c.requires in
    let some : IsSome (found c.self.inside.records.entries c.args.line.0) = c.self.invariant.all c.args.line.0 at_home.0 at_home.1 in
    let read : c.replaced-was.result ≡ (filed_at (filed_of c.self.inside) c.args.line.0).mark =
    filed_at-mark (filed_of c.self.inside) c.args.line.0 c.replaced-was.result at_home some c.replaced-was.ensures.was in
    record {
      home = c.self.invariant.home;
      all = all-put c.self.inside.records.entries c.replaced-was.new.records.entries (lines c.self.inside.cfg) c.self.inside.cfg.dirs
          c.self.inside.home.0 c.args.line.0 c.args.to c.self.invariant.all c.replaced-was.ensures.records;
      marked = marked-put (filed_of c.self.inside).place (filed_at (filed_of c.self.inside))
          (filed_at (record { place = (filed_of c.self.inside).place; entries = c.replaced-was.new.records.entries })) c.args.line.0
          c.args.to c.update.new.marked.items
          (filed_at-put (filed_of c.self.inside) c.replaced-was.new.records.entries c.args.line.0 c.args.to at_home
          c.replaced-was.ensures.records)
          (c.update.ensures.items (has_mark (lines_of (filed_at (filed_of c.self.inside)))) (lines c.self.inside.cfg) at_home.0
          (read-marked (filed_at (filed_of c.self.inside)) c.args.line.0 c.replaced-was.result read) c.self.invariant.marked);
      room = omega (arith, c.self.invariant.room, c.update.ensures.capacity);
    }

pub returns-clause-records : goal.returns-clause-records
returns-clause-records c =
    filed_at-put (filed_of c.self.inside) c.replaced-was.new.records.entries c.args.line.0 c.args.to
    (subst (λ q. IsAtHome q.place c.args.line.0) (sym c.self.view_is) c.requires) c.replaced-was.ensures.records
    ∙ ap (λ q. put (filed_at q) c.args.line.0 c.args.to) c.self.view_is
