use Rattle.std.proofs.Common.{◌≡◌, ◌+◌, ◌∙◌, length, sym, subst, arith}
use Rattle.std.proofs.lemmas.Bool.{false≢true}
use Rattle.run_outcomes.proofs.Grouped.{groups-skip}
use Rattle.run_outcomes.specs.Results.{AreGroups, IsEnd}
use Rattle.run_outcomes.specs.declared.outcomes.Groups.{Groups}
use Rattle.run_outcomes.proofs.outcomes.note_ends.Goals as goal
use Rattle.run_outcomes.proofs.outcomes.note_ends.Goals.{then-is_end+in_ok-note, else-is_end}

pub loop-k-preserved : goal.loop-k-preserved
loop-k-preserved c =
    let states = c.args.explored.now.states in
    let tell = c.args.tell in
    let k = c.loop-k.k in
    elim c.if-is_end.branch [
      | then-is_end+in_ok-note w ↦ subst (λ (g : Groups). AreGroups tell states g (k + 1)) (sym w.groups-is) w.in_ok-note.ensures
      | else-is_end w ↦
          subst (λ (g : Groups). AreGroups tell states g (k + 1)) (sym w.groups-is)
          (groups-skip tell states c.loop-k.groups k c.loop-k.invariant
          (λ end.
          let ended : IsEnd c.state.result.now = subst IsEnd (sym c.state.ensures) end in
          false≢true (sym w.if-is_end.false ∙ c.is_end.ensures.all ended)))
    ]

pub returns : goal.returns
returns c =
    let all : c.loop-k.k ≡ length c.args.explored.now.states = grind arith in
    subst (λ n. AreGroups c.args.tell c.args.explored.now.states c.loop-k.groups n) all c.loop-k.invariant
