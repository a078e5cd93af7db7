-- Row by row.
use Rattle.std.proofs.Common.{refl}
use Rattle.checkpoint_text.specs.Numbers.{stored_numbers}
use Rattle.checkpoint_text.proofs.Written.{entries-end, entries-more}
use Rattle.checkpoint_text.proofs.entries.push_stores.Goals as goal

pub loop-store-preserved : goal.loop-store-preserved
loop-store-preserved c =
    entries-more c.args.word.now stored_numbers _ _ _ _ _ _ _ _ c.loop-store-test.true refl
    c.loop-store.invariant c.in_ok-push_store.ensures

pub returns : goal.returns
returns c = entries-end _ _ _ _ _ _ c.loop-store-test.false c.loop-store.invariant
