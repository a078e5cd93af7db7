use Rattle.std.proofs.Common.{map}
use Rattle.core_node.specs.View.{core_of}
use Rattle.watch_state.specs.Cores.{set_records}
use Rattle.watch_state.specs.Plain.{record_of}
use Rattle.watch_state.proofs.Growing.{piece-more}
use Rattle.watch_state.proofs.frames.add_ways.Goals as goal

pub loop-set-preserved : goal.loop-set-preserved
loop-set-preserved c =
    piece-more (set_records c.args.id.0 c.args.ways (core_of c.args.core.now).cache) c.loop-set.set (map record_of c.args.records.now)
    (map record_of c.loop-set.records) (map record_of c.add_set.new.records) c.loop-set.invariant c.in_ok-add_set.ensures
