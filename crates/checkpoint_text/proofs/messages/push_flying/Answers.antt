-- Message by message.
use Rattle.std.proofs.Common.{◌<◌, ◌≤◌, ◌∙◌, subst}
use Rattle.base_lemmas.proofs.Lemmas.{get-some}
use Rattle.machine_links.specs.Lane.{is_waiting, numbers_of}
use Rattle.checkpoint_text.proofs.Flying.{flying-end, flying-more}
use Rattle.checkpoint_text.proofs.messages.push_flying.Goals as goal
use Rattle.checkpoint_text.proofs.messages.push_flying.Goals.{in-Some+in_ok-push_message, in_default}

pub loop-i-preserved : goal.loop-i-preserved
loop-i-preserved c =
    let lane = c.args.lane.now in
    let l = subst (λ n. c.loop-i.i < n) c.waiting-i-end.ensures c.loop-i-test.true in
    elim c.match-waiting_at.branch [
      | in-Some+in_ok-push_message w ↦ flying-more _ c.args.k lane c.loop-i.i _ w.in-Some.held.now _ _ _ w.in-Some.ensures.number
          w.in-Some.ensures.own c.loop-i.invariant (w.text-is ∙ w.in_ok-push_message.ensures)
      | in_default w ↦ (
          let there = get-some (numbers_of is_waiting lane) c.loop-i.i 0 l in
          let none = w.in_default.ensures.number in
          absurd cc)
    ]

pub returns : goal.returns
returns c =
    flying-end _ c.args.k c.args.lane.now c.loop-i.i _ _ (subst (λ n. n ≤ c.loop-i.i) c.waiting-i-end.ensures c.loop-i-test.false)
    c.loop-i.invariant
