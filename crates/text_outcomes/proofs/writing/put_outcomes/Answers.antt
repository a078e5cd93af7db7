-- The next outcome is held or written.
use Rattle.std.proofs.Common.{◌<◌, length, arith}
use Rattle.std.specs.String.{string_bytes}
use Rattle.text_outcomes.proofs.Outcomes.{outcomes-cut, outcomes-more, outcomes-short}
use Rattle.text_outcomes.proofs.Put.{rose-later}
use Rattle.text_outcomes.proofs.writing.put_outcomes.Goals as goal

pub returns-in-Err-clause-broken : goal.returns-in-Err-clause-broken
returns-in-Err-clause-broken g c =
    let t = c.args.table.now in
    let inside : c.loop-i.i < length t.results.now.firsts = grind arith in
    outcomes-short t.tell t.explored.now t.results.now c.loop-i.i (string_bytes c.args.held.now) _ _ _ inside c.loop-i.invariant.0

pub returns-in-Err-put_piece-clause-broken : goal.returns-in-Err-put_piece-clause-broken
returns-in-Err-put_piece-clause-broken g c =
    let t = c.args.table.now in
    let inside : c.loop-i.i < length t.results.now.firsts = grind arith in (
      outcomes-cut t.tell t.explored.now t.results.now c.loop-i.i (string_bytes c.args.held.now) _ _ _ _ _ inside c.loop-i.invariant.0
          c.in-Ok.ensures c.in-Err-put_piece.ensures.cut,
      rose-later _ _ _ c.loop-i.invariant.1 c.in-Err-put_piece.ensures.cause,
    )

pub loop-i-preserved : goal.loop-i-preserved
loop-i-preserved g c =
    let t = c.args.table.now in
    let before = c.loop-i.invariant.1 in
    let now = c.in-Ok-put_piece.ensures.faults_stay in (
      outcomes-more t.tell t.explored.now t.results.now c.loop-i.i (string_bytes c.args.held.now) _ _ _ _ _ _ c.loop-i.invariant.0
          c.in-Ok.ensures c.in-Ok-put_piece.ensures.put,
      omega (arith, before, now),
    )
