use Rattle.std.proofs.Common.{map}
use Rattle.overflow_buf.specs.Kept.{spilled}
use Rattle.watch_state.specs.Cores.{spilled_records}
use Rattle.watch_state.specs.Plain.{record_of}
use Rattle.watch_state.proofs.Growing.{piece-more}
use Rattle.watch_state.proofs.spills.add_lines.Goals as goal

pub loop-line-preserved : goal.loop-line-preserved
loop-line-preserved c =
    piece-more (spilled_records c.args.config.now c.args.core.0 (spilled c.args.kept.now)) c.loop-line.line
    (map record_of c.args.records.now) (map record_of c.loop-line.records) (map record_of c.add_line.new.records) c.loop-line.invariant
    c.in_ok-add_line.ensures
