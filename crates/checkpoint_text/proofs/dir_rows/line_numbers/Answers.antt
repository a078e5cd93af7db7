-- Number by number.
use Rattle.rules_maps.specs.Words.{eight}
use Rattle.checkpoint_text.proofs.DirRows.{line-numbers}
use Rattle.checkpoint_text.proofs.dir_rows.line_numbers.Goals as goal

pub returns : goal.returns
unfolding eight
returns c =
    line-numbers c.args.line.0 c.args.record.now _ _ _ c.args.words.now c.owner_numbers-owner.ensures c.flag.ensures c.told-words
