use Rattle.std.proofs.Common.{◌≡◌, ◌-◌, sym, subst, ◌∙◌, arith}
use Rattle.dir_lines.specs.Record.{lines_of}
use Rattle.dir_lines.proofs.Clearing.{IsClearing, clearing-line, clearing-some, clearing-next, clearing-done}
use Rattle.dir_lines.proofs.lines.Lines.clear_marks.Goals as goal

pub set_mark-requires : goal.set_mark-requires
set_mark-requires g c =
    (clearing-line (g.Self.Lines.place c.loop-left.self) (lines_of (g.Self.Lines.records c.args.self.now))
    (lines_of (g.Self.Lines.records c.loop-left.self))
    c.loop-left.left (c.loop-left.left - 1) c.in-Some.line.0 c.loop-left.invariant.1 (omega arith) (sym c.in-Some.ensures)).1

pub loop-left-preserved-in-Some : goal.loop-left-preserved-in-Some
loop-left-preserved-in-Some g c =
    let marked = clearing-line (g.Self.Lines.place c.loop-left.self) (lines_of (g.Self.Lines.records c.args.self.now))
    (lines_of (g.Self.Lines.records c.loop-left.self))
    c.loop-left.left (c.loop-left.left - 1) c.in-Some.line.0 c.loop-left.invariant.1 (omega arith) (sym c.in-Some.ensures) in (
      c.set_mark.ensures.place ∙ c.loop-left.invariant.0,
      subst (λ h. IsClearing h (lines_of (g.Self.Lines.records c.args.self.now)) (lines_of (g.Self.Lines.records c.set_mark.new.self))
          (c.loop-left.left - 1)) (sym c.set_mark.ensures.place)
          (clearing-next (g.Self.Lines.place c.loop-left.self) (lines_of (g.Self.Lines.records c.args.self.now))
          (lines_of (g.Self.Lines.records c.loop-left.self)) (lines_of (g.Self.Lines.records c.set_mark.new.self))
          c.loop-left.left (c.loop-left.left - 1) c.in-Some.line.0 c.loop-left.invariant.1 (omega arith) marked.0 c.set_mark.ensures.map),
    )

pub loop-left-preserved : goal.loop-left-preserved
loop-left-preserved g c =
    absurd (clearing-some (g.Self.Lines.place c.loop-left.self) (lines_of (g.Self.Lines.records c.args.self.now))
    (lines_of (g.Self.Lines.records c.loop-left.self))
    c.loop-left.left (c.loop-left.left - 1) c.loop-left.invariant.1 (omega arith) (sym c.in_default.ensures))

pub returns-clause-map : goal.returns-clause-map
returns-clause-map g c =
    let e : c.loop-left.left ≡ 0 = omega arith in
    clearing-done (g.Self.Lines.place c.loop-left.self) (lines_of (g.Self.Lines.records c.args.self.now))
    (lines_of (g.Self.Lines.records c.loop-left.self))
    (subst (λ n. IsClearing (g.Self.Lines.place c.loop-left.self) (lines_of (g.Self.Lines.records c.args.self.now))
    (lines_of (g.Self.Lines.records c.loop-left.self)) n) e c.loop-left.invariant.1)
