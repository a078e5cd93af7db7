-- It was among none of the others.
use Rattle.std.proofs.Common.{◌≡◌, ℕ, List, ◌<◌, subst, arith}
use Rattle.machine_parts.specs.Tids.{among}
use Rattle.machine_parts.proofs.Noted.{next-counts, none-so, noted, over}
use Rattle.machine_parts.proofs.tids.note.Goals as goal

pub returns-then-tid-next-clause-refused : goal.returns-then-tid-next-clause-refused
returns-then-tid-next-clause-refused c = λ e.
    over c.args.held.now.items c.args.commits.now c.args.next.0 c.args.tid.0
    (elim c.then-tid-next.branch [
      | goal.then-tid-next-via-then-tid-next w ↦ omega (arith, next-counts c.args.next.0 c.args.tid.0 w.if-tid-next.true)
      | goal.then-tid-next-via-else-tid-next+then-is_among w ↦
          (let held = subst (λ (us : List ℕ). 0 < among c.args.tid.0 us) w.deref.ensures.value
          (w.is_among.ensures.0 w.if-is_among.true) in omega (arith, held))
      | goal.then-tid-next-via-else-tid-next+else-is_among+then-has_committed w ↦
          omega (arith, w.has_committed.ensures.0 w.if-has_committed.true)
    ])

pub returns-in-Ok-clause-noted : goal.returns-in-Ok-clause-noted
returns-in-Ok-clause-noted c = λ t.
    noted c.args.held.now.items c.push.new.self.items c.args.commits.now c.args.next.0 c.args.tid.0 c.in-Ok.ensures.items
    c.if-tid-next.false
    (subst (λ (us : List ℕ). among c.args.tid.0 us ≡ 0) c.deref.ensures.value
    (none-so c.is_among.result _ c.is_among.ensures c.if-is_among.false))
    (none-so c.has_committed.result _ c.has_committed.ensures c.if-has_committed.false)
