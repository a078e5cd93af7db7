-- The mask of the frame's words that are marked read, and none where there is no frame.
use Rattle.std.proofs.Common.{ap, ◌∙◌}
use Rattle.std.specs.Prelude.{bit_and}
use Rattle.core_node.specs.View.{core_of}
use Rattle.rules_maps.specs.Words.{word_at}
use Rattle.watch.specs.Messages.{words_read}
use Rattle.watch_core.proofs.Masks.{meet-mask, unread-mask}
use Rattle.watch_core.proofs.reading.words_read.Goals as goal

pub returns-in-Some : goal.returns-in-Some
unfolding words_read
returns-in-Some c =
    ap (λ m. bit_and m c.args.mask.0) c.in-Some.ensures.1.read
    ∙ meet-mask (λ k. (core_of c.args.core.now).cache.read (word_at c.args.line.0 k)) c.args.mask.0

pub returns-in-None : goal.returns-in-None
unfolding words_read core_of
returns-in-None c = unread-mask c.args.core.now.cache c.args.line.0 c.args.mask.0 c.in-None.ensures
