-- Kind by kind.
use Rattle.std.proofs.Common.{◌<◌, ◌≤◌, arith, codes, length, refl}
use Rattle.count_rows.specs.Rows.{message_numbers}
use Rattle.count_rows.proofs.Written.{numbered-end, numbered-more}
use Rattle.count_rows.proofs.writing.push_messages.Goals as goal

pub loop-k-preserved : goal.loop-k-preserved
loop-k-preserved c =
    let within : c.loop-k.k < length c.args.messages.now = omega (arith, c.loop-k-test.true, c.told-messages) in
    numbered-more (codes "messages") message_numbers c.args.messages.now c.loop-k.k _ _ _ _ _ within refl c.loop-k.invariant
    c.in_ok-push_row.ensures

pub returns : goal.returns
returns c =
    let past : length c.args.messages.now ≤ c.loop-k.k = omega (arith, c.loop-k-test.false, c.told-messages) in
    numbered-end _ _ _ _ _ _ past c.loop-k.invariant
