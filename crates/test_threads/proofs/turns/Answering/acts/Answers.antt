-- One act more is listed.
use Rattle.std.proofs.Common.{◌≡◌, ◌+◌, ◌-◌, suc, refl, ap, sym, arith, rules}
use Rattle.node_locks.specs.Turns.{entries_by}
use Rattle.test_threads.proofs.Listing.{drawn-more, drawn-none, listed-more, listed-none}
use Rattle.test_threads.proofs.turns.Answering.acts.Goals as goal

pub loop-before-init : goal.loop-before-init
loop-before-init c = record {
  made = listed-none c.args.node c.args.words.now _;
  drawn = drawn-none c.args.words.now;
  moved = omega arith;
}

pub loop-before-preserved : goal.loop-before-preserved
loop-before-preserved c =
    let first = c.args.words.now in
    let n = c.loop-before.before in
    let i = c.loop-before.invariant in
    let one : entries_by c.act-last.result ≡ 1 = search rules in
    record {
      made = listed-more first c.loop-before.words n (n + 1) c.next_word.result c.next_word.new.self i.drawn c.next_word.ensures
          (omega arith) c.args.node _ _ _ i.made c.act-last.ensures.made;
      drawn = drawn-more first c.loop-before.words n (n + 1) c.next_word.result c.next_word.new.self i.drawn c.next_word.ensures
          (omega arith);
      moved = omega (arith, i.moved, c.act-last.ensures.moved, one);
    }

pub returns-then-ne-clause-drawn : goal.returns-then-ne-clause-drawn
returns-then-ne-clause-drawn c =
    drawn-more c.args.words.now c.loop-before.words c.loop-before.before _ c.next_word.result c.next_word.new.self
    c.loop-before.invariant.drawn c.next_word.ensures refl

pub returns-then-ne-clause-made : goal.returns-then-ne-clause-made
returns-then-ne-clause-made c =
    listed-more c.args.words.now c.loop-before.words c.loop-before.before _ c.next_word.result c.next_word.new.self
    c.loop-before.invariant.drawn c.next_word.ensures refl c.args.node _ _ _ c.loop-before.invariant.made c.act-last.ensures.made

pub returns-clause-drawn : goal.returns-clause-drawn
returns-clause-drawn c =
    let all : c.loop-before.before ≡ c.args.most - 1 = omega arith in
    drawn-more c.args.words.now c.loop-before.words c.loop-before.before _ c.next_word-2.result c.next_word-2.new.self
    c.loop-before.invariant.drawn c.next_word-2.ensures (ap suc (sym all))

pub returns-clause-made : goal.returns-clause-made
returns-clause-made c =
    let all : c.loop-before.before ≡ c.args.most - 1 = omega arith in
    listed-more c.args.words.now c.loop-before.words c.loop-before.before _ c.next_word-2.result c.next_word-2.new.self
    c.loop-before.invariant.drawn c.next_word-2.ensures (ap suc (sym all)) c.args.node _ _ _ c.loop-before.invariant.made
    c.act.ensures.made
