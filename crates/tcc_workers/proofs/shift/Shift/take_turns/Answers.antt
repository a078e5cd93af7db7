-- The calls are those of the worker's turns, up to its end.
use Rattle.std.proofs.Common.{◌≡◌, ◌+◌, ◌-◌, ◌*◌, ◌<◌, ◌≤◌, ◌∙◌, false, min, ap, refl, sym, subst, arith, rules}
use Rattle.apart_node.specs.declared.node.Act.TheVariants.{Memory}
use Rattle.node_locks.specs.Turns.{moved_in}
use Rattle.tcc_workers.specs.Calls.{is_want, most_next}
use Rattle.tcc_workers.proofs.Turning.{Turning, turning-start, turning-spent, turning-wants, turning-moved, turning-idle}
use Rattle.tcc_workers.proofs.shift.Shift.take_turns.Goals as goal
use Rattle.tcc_workers.proofs.shift.Shift.take_turns.Goals.{then-moved-gt0, else-moved-gt0}

pub loop-turn-init : goal.loop-turn-init
loop-turn-init g c = (
  turning-start c.args.self.now g.P.Turns.count (g.P.Turns.moved c.args.ticket.now) (g.P.Turns.calls c.args.ticket.now) c.words-words.result
      c.words-words.ensures c.requires.counted,
  refl,
)

pub returns-then-eq-clause-took : goal.returns-then-eq-clause-took
returns-then-eq-clause-took g c =
    let s = c.args.self.now in
    let enough : c.most.result ≡ most_next s (g.P.Turns.moved c.loop-turn.ticket) =
    c.most.ensures ∙ ap (λ n. min s.batch (s.until - n)) c.moved.ensures in
    let memory : c.turn-acts.result.last ≡ Memory = search rules in
    turning-wants s g.P.Turns.count _ _ _ _ _ _ _ c.loop-turn.invariant.0
    (λ e. c.if-left-eq0.false (omega (arith, e, c.moved.ensures))) c.if-idle-self.false c.turn-acts.result _ c.turn-acts.ensures.turn enough
    _ _ c.nodes-nodes.ensures.count c.node.ensures.at _ c.turn-acts.ensures.drawn _ _ c.pass.ensures.made c.turn-acts.ensures.made
    _ _ c.pass.ensures.moved c.turn-acts.ensures.moved memory

pub loop-turn-preserved : goal.loop-turn-preserved
loop-turn-preserved g c =
    let s = c.args.self.now in
    let enough : c.most.result ≡ most_next s (g.P.Turns.moved c.loop-turn.ticket) =
    c.most.ensures ∙ ap (λ n. min s.batch (s.until - n)) c.moved.ensures in
    let memory : is_want c.turn-acts.result.last ≡ false = search rules in
    let counts = c.moved-in-loop-turn.ensures in (
      elim c.if-moved-gt0.branch [
        | then-moved-gt0 w ↦
            let some : 0 < moved_in c.turn-acts.result = omega (arith, counts, w.if-moved-gt0.true) in
            subst (λ k. Turning s g.P.Turns.count (g.P.Turns.moved c.args.ticket.now) (g.P.Turns.calls c.args.ticket.now)
            (c.loop-turn.turn + 1) k (g.P.Turns.moved c.turn-acts.new.ticket) c.turn-acts.new.words
            (g.P.Turns.calls c.turn-acts.new.ticket)) (sym w.idle-is)
            (turning-moved s g.P.Turns.count _ _ _ _ _ _ _ c.loop-turn.invariant.0
            (λ e. c.if-left-eq0.false (omega (arith, e, c.moved.ensures))) c.if-idle-self.false c.turn-acts.result _
            c.turn-acts.ensures.turn enough _ _ c.nodes-nodes.ensures.count c.node.ensures.at _ c.turn-acts.ensures.drawn _ _
            c.pass.ensures.made c.turn-acts.ensures.made _ _ c.pass.ensures.moved c.turn-acts.ensures.moved memory some)
        | else-moved-gt0 w ↦
            let none : moved_in c.turn-acts.result ≡ 0 = omega (arith, counts, w.if-moved-gt0.false) in
            subst (λ k. Turning s g.P.Turns.count (g.P.Turns.moved c.args.ticket.now) (g.P.Turns.calls c.args.ticket.now)
            (c.loop-turn.turn + 1) k (g.P.Turns.moved c.turn-acts.new.ticket) c.turn-acts.new.words
            (g.P.Turns.calls c.turn-acts.new.ticket)) (sym w.idle-is)
            (turning-idle s g.P.Turns.count _ _ _ _ _ _ _ c.loop-turn.invariant.0
            (λ e. c.if-left-eq0.false (omega (arith, e, c.moved.ensures))) c.if-idle-self.false c.turn-acts.result _
            c.turn-acts.ensures.turn enough _ _ c.nodes-nodes.ensures.count c.node.ensures.at _ c.turn-acts.ensures.drawn _ _
            c.pass.ensures.made c.turn-acts.ensures.made _ _ c.pass.ensures.moved c.turn-acts.ensures.moved memory none)
      ],
      c.turn-acts.ensures.parts ∙ c.pass.ensures.parts ∙ c.loop-turn.invariant.1,
    )

pub returns-after-loop-turn-clause-took : goal.returns-after-loop-turn-clause-took
returns-after-loop-turn-clause-took g c =
    turning-spent c.args.self.now g.P.Turns.count _ _ _ _ _ _ _ c.loop-turn.invariant.0
    (subst (λ n. (c.args.self.now.until + 1) * n ≤ c.loop-turn.turn) c.from.ensures c.loop-turn-test.false)
