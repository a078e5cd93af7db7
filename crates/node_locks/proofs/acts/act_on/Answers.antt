-- One act more.
use Rattle.std.proofs.Common.{◌≡◌, ◌+◌, ◌-◌, suc, refl, ap, sym, subst, arith, rules}
use Rattle.apart_node.specs.declared.node.Act.TheVariants.{Moved}
use Rattle.apart_node.specs.Acts.{AnswersAct}
use Rattle.node_locks.specs.Turns.{MovedOn, after_words, nth_word}
use Rattle.node_locks.proofs.Acting.{acted-next, drawn-more, moved-more}
use Rattle.node_locks.proofs.Peers.{of-kept}
use Rattle.node_locks.proofs.acts.act_on.Goals as goal

pub loop-before-init : goal.loop-before-init
unfolding MovedOn after_words
loop-before-init g c = record { moved = refl; drawn = refl; of = λ code link is. is }

pub loop-before-preserved : goal.loop-before-preserved
loop-before-preserved g c =
    let moved : c.act-last.result ≡ Moved = search rules in
    let first = c.args.words.now in
    let n = c.loop-before.before in
    let i = c.loop-before.invariant in
    record {
      moved = moved-more first c.loop-before.words n (n + 1) c.next_word.result c.next_word.new.self i.drawn c.next_word.ensures
          c.args.node.now c.loop-before.node c.act-last.new.self c.act-last.result (omega arith) i.moved c.act-last.ensures.acted moved;
      drawn = drawn-more first c.loop-before.words n (n + 1) c.next_word.result c.next_word.new.self i.drawn c.next_word.ensures
          (omega arith);
      of = λ code link is. of-kept code link c.loop-before.node c.act-last.new.self (i.of code link is) c.act-last.ensures.same;
    }

pub returns-then-ne-clause-drawn : goal.returns-then-ne-clause-drawn
returns-then-ne-clause-drawn g c =
    drawn-more c.args.words.now c.loop-before.words c.loop-before.before _ c.next_word.result c.next_word.new.self
    c.loop-before.invariant.drawn c.next_word.ensures refl

pub returns-then-ne-clause-acted : goal.returns-then-ne-clause-acted
returns-then-ne-clause-acted g c = record {
  mid = c.loop-before.node;
  moved = c.loop-before.invariant.moved;
  last = acted-next c.args.words.now c.loop-before.words c.loop-before.before 0 c.next_word.result c.next_word.new.self
      c.loop-before.invariant.drawn c.next_word.ensures c.loop-before.node c.act-last.new.self c.act-last.result c.act-last.ensures.acted;
}

pub returns-then-ne-clause-of : goal.returns-then-ne-clause-of
returns-then-ne-clause-of g c = λ code link is.
    of-kept code link c.loop-before.node c.act-last.new.self (c.loop-before.invariant.of code link is) c.act-last.ensures.same

pub returns-clause-drawn : goal.returns-clause-drawn
returns-clause-drawn g c =
    let all : c.loop-before.before ≡ c.args.most - 1 = omega arith in
    drawn-more c.args.words.now c.loop-before.words c.loop-before.before _ c.next_word-2.result c.next_word-2.new.self
    c.loop-before.invariant.drawn c.next_word-2.ensures (ap suc (sym all))

pub returns-clause-acted : goal.returns-clause-acted
returns-clause-acted g c =
    let all : c.loop-before.before ≡ c.args.most - 1 = omega arith in
    record {
      mid = c.loop-before.node;
      moved = subst (λ n. MovedOn c.args.node.now c.args.words.now n c.loop-before.node) all c.loop-before.invariant.moved;
      last = subst (λ n. AnswersAct c.loop-before.node (nth_word n c.args.words.now) c.act.new.self c.act.result) all
          (acted-next c.args.words.now c.loop-before.words c.loop-before.before 0 c.next_word-2.result c.next_word-2.new.self
          c.loop-before.invariant.drawn c.next_word-2.ensures c.loop-before.node c.act.new.self c.act.result c.act.ensures.acted);
    }

pub returns-clause-of : goal.returns-clause-of
returns-clause-of g c = λ code link is.
    of-kept code link c.loop-before.node c.act.new.self (c.loop-before.invariant.of code link is) c.act.ensures.same
