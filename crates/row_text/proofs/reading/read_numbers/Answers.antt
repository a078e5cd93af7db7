use Rattle.std.proofs.Common.{◌+◌, ◌-◌, ◌≡◌, ◌<◌, length, slice_set, arith, subst}
use Rattle.std.proofs.lemmas.List.{take_more_set}
use Rattle.std.proofs.lemmas.Grind.{common_steps}
use Rattle.row_text.specs.Reading.{HasNoNumbers, IsNumberRead}
use Rattle.row_text.proofs.Fronts.{none-more, numbers-more, one-less, parts-more}
use Rattle.row_text.proofs.reading.read_numbers.Goals as goal

pub returns-in_err-n-clause-read : goal.returns-in_err-n-clause-read
returns-in_err-n-clause-read c =
    let inv = c.loop-i.invariant in
    let count = inv.count in
    rw c.from_residual.ensures
    (inv.only (none-more c.loop-i.rest.now (length c.args.numbers.now - c.loop-i.i) c.in_err-n.ensures (omega arith)))

pub loop-i-preserved : goal.loop-i-preserved
loop-i-preserved c =
    let inv = c.loop-i.invariant in
    let count = inv.count in
    let test = c.loop-i-test.true in
    let within : c.loop-i.i < length c.loop-i.numbers = omega arith in
    let next = take_more_set c.loop-i.numbers c.loop-i.i c.in_ok-n.n within in
    let read : IsNumberRead c.loop-i.rest.now c.in_ok-n.n c.in_ok-n.after.now = c.in_ok-n.ensures in
    let left : length c.args.numbers.now - (c.loop-i.i + 1) + 1 ≡ length c.args.numbers.now - c.loop-i.i = omega arith in
    record {
      parts = parts-more c.args.bytes.now c.loop-i.rest.now c.in_ok-n.after.now c.loop-i.numbers c.loop-i.i c.in_ok-n.n
          within inv.parts read.parts (slice_set c.loop-i.numbers c.loop-i.i c.in_ok-n.n) next;
      numbers = numbers-more c.loop-i.numbers c.loop-i.i c.in_ok-n.n (slice_set c.loop-i.numbers c.loop-i.i c.in_ok-n.n) next inv.numbers
          read.fits;
      count = grind (arith, common_steps);
      only = λ none.
          inv.only (subst (HasNoNumbers c.loop-i.rest.now) left
          (one-less c.loop-i.rest.now c.in_ok-n.after.now c.in_ok-n.n (length c.args.numbers.now - (c.loop-i.i + 1)) read none));
    }
