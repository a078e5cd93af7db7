use Rattle.std.proofs.Common.{◌+◌, ◌<◌, ◌∙◌, length, sym, subst, arith}
use Rattle.std.proofs.lemmas.Bool.{false≢true}
use Rattle.run_outcomes.proofs.Added.{sized-at}
use Rattle.run_outcomes.proofs.Ends.{end-can}
use Rattle.run_outcomes.proofs.Marking.{mark-more, ends-more}
use Rattle.run_outcomes.specs.Explored.{state_at}
use Rattle.run_outcomes.specs.Results.{IsEnd}
use Rattle.run_outcomes.specs.Stuck.{AreMarks}
use Rattle.run_outcomes.specs.declared.stuck.Marks.{Marks}
use Rattle.run_outcomes.proofs.stuck.mark_ends.Goals as goal
use Rattle.run_outcomes.proofs.stuck.mark_ends.Goals.{then-is_end+in_ok-mark, else-is_end}

pub mark-requires : goal.mark-requires
mark-requires c =
    let lt : c.loop-k.k < length c.args.explored.now.states = grind arith in
    subst (λ n. c.loop-k.k < n) (sym c.loop-k.invariant.sized) lt

pub loop-k-preserved : goal.loop-k-preserved
loop-k-preserved c =
    let l = c.args.explored.now.loaded in
    let states = c.args.explored.now.states in
    let edges = c.args.explored.now.edges in
    let n = length states in
    let k = c.loop-k.k in
    let lt : k < n = grind arith in
    elim c.if-is_end.branch [
      | then-is_end+in_ok-mark w ↦
          let end : IsEnd (state_at states k) = subst IsEnd c.state.ensures (c.is_end.ensures.stopped w.if-is_end.true) in
          let more = mark-more l states edges k n k c.loop-k.marks w.mark.new.marks w.in_ok-mark.ensures c.loop-k.invariant lt
          (end-can l states k (sized-at l states k c.requires.found lt) end) in
          subst (λ (m : Marks). AreMarks l states edges (k + 1) n m) (sym w.marks-is)
          (ends-more l states edges k n w.mark.new.marks more.marks (λ e. more.here))
      | else-is_end w ↦
          subst (λ (m : Marks). AreMarks l states edges (k + 1) n m) (sym w.marks-is)
          (ends-more l states edges k n c.loop-k.marks c.loop-k.invariant
          (λ end. absurd (false≢true (sym w.if-is_end.false ∙ c.is_end.ensures.all (subst IsEnd (sym c.state.ensures) end)))))
    ]
