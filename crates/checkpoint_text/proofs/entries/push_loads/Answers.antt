-- Row by row.
use Rattle.std.proofs.Common.{refl}
use Rattle.checkpoint_text.specs.Numbers.{load_numbers}
use Rattle.checkpoint_text.proofs.Written.{entries-end, entries-more}
use Rattle.checkpoint_text.proofs.entries.push_loads.Goals as goal

pub loop-load-preserved : goal.loop-load-preserved
loop-load-preserved c =
    entries-more c.args.word.now load_numbers _ _ _ _ _ _ _ _ c.loop-load-test.true refl c.loop-load.invariant c.in_ok-push_load.ensures

pub returns : goal.returns
returns c = entries-end _ _ _ _ _ _ c.loop-load-test.false c.loop-load.invariant
