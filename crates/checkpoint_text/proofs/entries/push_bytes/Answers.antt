-- Row by row.
use Rattle.std.proofs.Common.{refl}
use Rattle.checkpoint_text.specs.Numbers.{byte_numbers}
use Rattle.checkpoint_text.proofs.Written.{entries-end, entries-more}
use Rattle.checkpoint_text.proofs.entries.push_bytes.Goals as goal

pub loop-byte-preserved : goal.loop-byte-preserved
loop-byte-preserved c =
    entries-more c.args.word.now byte_numbers _ _ _ _ _ _ _ _ c.loop-byte-test.true refl c.loop-byte.invariant c.in_ok-push_row.ensures

pub returns : goal.returns
returns c = entries-end _ _ _ _ _ _ c.loop-byte-test.false c.loop-byte.invariant
