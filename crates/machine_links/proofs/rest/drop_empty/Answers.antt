-- What is dropped has no message.
use Rattle.std.proofs.Common.{◌≡◌, length, get_or, sym, subst, ap, ◌∙◌, [], arith}
use Rattle.std.proofs.lemmas.List.{get_or_read, nil_from_length}
use Rattle.machine_links.specs.Pieces.{AreFull, flat}
use Rattle.machine_links.proofs.Pieces.{flat-gone}
use Rattle.machine_links.proofs.Full.{full-kept, full-remove}
use Rattle.machine_links.proofs.rest.drop_empty.Goals as goal

pub returns-then-len-eq0-clause-same : goal.returns-then-len-eq0-clause-same
returns-then-len-eq0-clause-same c =
    ap flat c.remove.ensures.items
    ∙ flat-gone c.args.pieces.now.items c.args.at
    (sym (get_or_read c.args.pieces.now.items c.args.at c.index.result.now c.requires.within c.index.ensures [])
    ∙ nil_from_length c.index.result.now (omega (arith, c.len.ensures, c.if-len-eq0.true)))

pub returns-then-len-eq0-clause-full : goal.returns-then-len-eq0-clause-full
returns-then-len-eq0-clause-full c =
    subst AreFull (sym c.remove.ensures.items) (full-remove c.args.pieces.now.items c.args.at c.requires.within c.requires.others)

pub returns-else-len-eq0-clause-full : goal.returns-else-len-eq0-clause-full
returns-else-len-eq0-clause-full c =
    let xs = c.args.pieces.now.items in
    let own : length c.index.result.now ≡ length (get_or xs c.args.at []) =
    ap length (get_or_read xs c.args.at c.index.result.now c.requires.within c.index.ensures []) in
    full-kept xs c.args.at c.requires.others (omega (arith, c.len.ensures, c.if-len-eq0.false))
