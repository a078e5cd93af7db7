use Rattle.std.proofs.Common.{◌≡◌, Some, refl, sym, ap, ◌∙◌, append-nil}
use Rattle.std.proofs.lemmas.Bool.{false≢true}
use Rattle.overflow_buf.specs.Kept.{IsLine, kept_at, spilled}
use Rattle.overflow_buf.proofs.Lines.{is_spilled, mask-line, spilled-empty}
use Rattle.overflow_buf.proofs.Drained.{loses-updated, kept-popped, IsBuffer-lost, spilled-lost, none_left}
use Rattle.overflow_buf.proofs.buffer.OverflowBuf.take_line.Goals.{in-None, in-Some}
use Rattle.overflow_buf.proofs.buffer.OverflowBuf.take_line.Goals as goal

pub invariant_of-self : goal.invariant_of-self
invariant_of-self c = elim c.match-pop.branch [
  | in-None w ↦ rw (sym (append-nil c.pop.new.self.entries), ← w.in-None.ensures.entries) c.self.invariant
  | in-Some w ↦ IsBuffer-lost c.self.inside.lines.entries c.pop.new.self.entries w.in-Some.line
      (loses-updated c.self.inside.lines.entries c.pop.new.self.entries w.in-Some.line w.in-Some.ensures.updates.0) c.self.invariant
]

pub returns-clause-none : goal.returns-clause-none
returns-clause-none c = elim c.match-pop.branch [
  | in-None w ↦ rw w.result-is (rw (← c.self.view_is)
      (ap spilled (none_left c.self.inside.lines.entries (λ h. false≢true (w.in-None.ensures.found.1 h))) ∙ spilled-empty))
  | in-Some w ↦ rw w.result-is tt
]

pub returns-clause-mask : goal.returns-clause-mask
returns-clause-mask c = elim c.match-pop.branch [
  | in-None w ↦ rw w.result-is tt
  | in-Some w ↦ (let es = c.self.inside.lines.entries in
      let kept : Some w.in-Some.kept ≡ kept_at es w.in-Some.line =
      kept-popped es c.pop.new.self.entries w.in-Some.line w.in-Some.kept w.in-Some.ensures.entries
      (loses-updated es c.pop.new.self.entries w.in-Some.line w.in-Some.ensures.updates.0) in
      let line : IsLine (Some w.in-Some.kept) = rw kept (c.self.invariant w.in-Some.line) in
      rw w.result-is (rw (← c.self.view_is)
      (mask-line es w.in-Some.line w.in-Some.kept kept (is_spilled (Some w.in-Some.kept) w.in-Some.kept refl line))))
]

pub returns-clause-taken : goal.returns-clause-taken
returns-clause-taken c = elim c.match-pop.branch [
  | in-None w ↦ rw w.result-is tt
  | in-Some w ↦ rw w.result-is (rw (← c.self.view_is) (spilled-lost c.self.inside.lines.entries c.pop.new.self.entries w.in-Some.line
      (loses-updated c.self.inside.lines.entries c.pop.new.self.entries w.in-Some.line w.in-Some.ensures.updates.0)))
]
