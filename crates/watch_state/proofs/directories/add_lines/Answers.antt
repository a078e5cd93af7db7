use Rattle.std.proofs.Common.{map}
use Rattle.directory.specs.Data.{dir_of}
use Rattle.watch_state.specs.Directories.{at_home, line_record}
use Rattle.watch_state.specs.Plain.{record_of}
use Rattle.watch_state.proofs.Growing.{piece-more}
use Rattle.watch_state.proofs.directories.add_lines.Goals as goal

pub loop-line-preserved : goal.loop-line-preserved
loop-line-preserved c = λ e.
    piece-more (at_home c.args.config.now c.args.id.0 (line_record c.args.config.now (dir_of e c.args.dir.now).lines)) c.loop-line.line
    (map record_of c.args.records.now) (map record_of c.loop-line.records) (map record_of c.add_line_at_home.new.records)
    (c.loop-line.invariant e)
    (c.in_ok-add_line_at_home.ensures e)
