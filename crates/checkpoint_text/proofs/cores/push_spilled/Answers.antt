-- Line by line.
use Rattle.std.proofs.Common.{ℕ, ◌<◌, ◌≤◌, ◌∙◌, subst, sym}
use Rattle.std.proofs.lemmas.Option.{get_or_from_slice_get}
use Rattle.base_lemmas.proofs.Lemmas.{none-past}
use Rattle.overflow_buf.specs.declared.line.SpilledLine.{SpilledLine}
use Rattle.checkpoint_text.specs.Cores.{spilled_numbers}
use Rattle.checkpoint_text.proofs.Written.{entries-end, entries-more}
use Rattle.checkpoint_text.proofs.cores.push_spilled.Goals as goal
use Rattle.checkpoint_text.proofs.cores.push_spilled.Goals.{in-Some+in_ok-push_spilled_line, in_default}

pub loop-i-preserved : goal.loop-i-preserved
loop-i-preserved c =
    let xs = c.args.spilled.now in
    let l = subst (λ n. c.loop-i.i < n) c.len-i-end.ensures c.loop-i-test.true in
    elim c.match-entry.branch [
      | in-Some+in_ok-push_spilled_line w ↦ (
          let x : ℕ × SpilledLine = (w.in-Some.entry.0.0, record { mask = w.in-Some.entry.1; words = w.in-Some.entry.2 }) in
          entries-more _ spilled_numbers c.args.k xs _ x x _ _ _ l (sym (get_or_from_slice_get xs c.loop-i.i x x w.in-Some.ensures))
          c.loop-i.invariant (w.text-is ∙ w.in_ok-push_spilled_line.ensures))
      | in_default w ↦ absurd (none-past xs c.loop-i.i w.in_default.ensures l)
    ]

pub returns : goal.returns
returns c =
    entries-end _ _ _ _ _ _ (subst (λ n. n ≤ c.loop-i.i) c.len-i-end.ensures c.loop-i-test.false) c.loop-i.invariant
