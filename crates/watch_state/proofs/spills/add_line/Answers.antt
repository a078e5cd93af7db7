use Rattle.std.proofs.Common.{map}
use Rattle.rules_maps.specs.Words.{word_at}
use Rattle.overflow_buf.specs.Kept.{spilled}
use Rattle.watch_state.specs.Cores.{spilled_word}
use Rattle.watch_state.specs.Plain.{record_of}
use Rattle.watch_state.proofs.Growing.{piece-more}
use Rattle.watch_state.proofs.spills.add_line.Goals as goal

pub loop-k-preserved : goal.loop-k-preserved
loop-k-preserved c =
    piece-more (λ k. spilled_word c.args.config.now c.args.core.0 (spilled c.args.kept.now) (word_at c.args.line.0 k)) c.loop-k.k
    (map record_of c.args.records.now) (map record_of c.loop-k.records) (map record_of c.add_word.new.records) c.loop-k.invariant
    c.in_ok-add_word.ensures
