-- One more in the last piece is one more behind all.
use Rattle.std.proofs.Common.{◌≡◌, ◌+◌, ◌-◌, length, arith}
use Rattle.machine_links.proofs.Pieces.{pushed-last}
use Rattle.machine_links.proofs.rest.push_last.Goals as goal

pub returns-then-len-lt-ROOM-clause-ok : goal.returns-then-len-lt-ROOM-clause-ok
returns-then-len-lt-ROOM-clause-ok c =
    let last : c.len-len.result - 1 + 1 ≡ length c.args.pieces.now.items =
    omega (arith, c.len-len.ensures, c.if-len-ne0.true, c.args.pieces.now.ok) in
    pushed-last c.args.pieces.now.items (c.len-len.result - 1) c.index_mut.result.now c.push.new.self c.args.waiting c.push.result last
    c.index_mut.ensures.value c.push.ensures.ok
