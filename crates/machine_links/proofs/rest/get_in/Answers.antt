-- What the piece has, all have.
use Rattle.std.proofs.Common.{[], sym, subst, ap, ◌∙◌}
use Rattle.std.proofs.lemmas.List.{get_or_read, get_or_past}
use Rattle.machine_links.specs.Laid.{held_at}
use Rattle.machine_links.specs.Pieces.{AreRising}
use Rattle.machine_links.proofs.Pieces.{rising-at}
use Rattle.machine_links.proofs.rest.get_in.Goals as goal

pub get-requires : goal.get-requires
get-requires c =
    subst AreRising
    (sym (get_or_read c.args.pieces.now c.piece_of-at.result c.index-pieces-at.result c.if-at-pieces.true c.index-pieces-at.is []))
    (rising-at c.args.pieces.now c.piece_of-at.result c.requires.rising)

pub returns-else-at-pieces : goal.returns-else-at-pieces
unfolding held_at
returns-else-at-pieces c =
    sym (c.piece_of-at.ensures
    ∙ ap (λ ws. held_at ws c.args.seq) (get_or_past c.args.pieces.now c.piece_of-at.result [] c.if-at-pieces.false))
