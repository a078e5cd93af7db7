use Rattle.std.proofs.Common.{◌∙◌, ℕ, List, refl, subst, get_or, Contains, arith}
use Rattle.std.proofs.lemmas.List.Elements.{Contains-get_or}
use Rattle.spec_cache.proofs.Marked.{collected_held, collects_written, marks_more, mark_here, marks_whole}
use Rattle.spec_cache.proofs.frames.Frames.marks_by_home.Goals as goal

pub loop-line-init : goal.loop-line-init
loop-line-init g c = record {
  made = rw c.in-Ok.ensures.items refl;
  count = c.in-Ok.ensures.len;
  room = omega (arith, c.in-Ok.ensures.capacity, c.len.ensures, c.deref-line-items.ensures.len);
}

pub seek-requires : goal.seek-requires
seek-requires g c =
    let l : ℕ = get_or c.deref-line-items.result.now c.loop-line.line-index 0 in
    let m : Contains c.deref-line-items.result.now l = Contains-get_or c.deref-line-items.result.now c.loop-line.line-index 0
    (omega arith) in
    collected_held (g.Self.Ways.held c.args.self.now) c.written_at.ensures.in_order c.args.d.0 c.in_ok-lines.lines.items
    c.in_ok-lines.ensures.lines l
    ((c.put_in_order.ensures.same l).0 (subst (λ (xs : List ℕ). Contains xs l) c.deref-line-items.ensures.value m))

pub push_reserved-requires : goal.push_reserved-requires
push_reserved-requires g c = omega (arith, c.loop-line.invariant.room, c.loop-line.invariant.count)

pub loop-line-preserved : goal.loop-line-preserved
loop-line-preserved g c = record {
  made =
      rw c.push_reserved.ensures.items
      (marks_more (g.Self.Ways.held c.args.self.now) c.seek.ensures.in_order c.deref-line-items.result.now c.loop-line.line-index
      c.loop-line.marks.items (c.seek.result.1.line, c.seek.result.1.modified)
      (omega arith) c.loop-line.invariant.made
      (mark_here (g.Self.Ways.held c.args.self.now) c.seek.ensures.in_order
      (get_or c.deref-line-items.result.now c.loop-line.line-index 0) c.seek.result c.seek.ensures.found));
  count = omega (arith, c.push_reserved.ensures.len, c.loop-line.invariant.count);
  room = omega (arith, c.push_reserved.ensures.capacity, c.loop-line.invariant.room);
}

pub returns : goal.returns
returns g c =
    marks_whole (g.Self.Ways.held c.args.self.now) c.written_at.ensures.in_order c.args.d.0 c.deref-line-items.result.now
    c.loop-line.line-index c.loop-line.marks.items (omega arith) c.loop-line.invariant.made
    (c.deref-line-items.ensures.value ∙ collects_written (g.Self.Ways.held c.args.self.now) c.written_at.ensures.in_order c.args.d.0
    c.in_ok-lines.lines.items c.in_ok-lines.ensures.lines c.put_in_order.new.lines.items c.put_in_order.ensures.rising
    c.put_in_order.ensures.same)
