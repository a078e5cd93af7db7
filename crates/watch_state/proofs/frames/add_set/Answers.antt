use Rattle.std.proofs.Common.{map}
use Rattle.core_node.specs.View.{core_of}
use Rattle.watch_state.specs.Cores.{way_record}
use Rattle.watch_state.specs.Plain.{record_of}
use Rattle.watch_state.proofs.Growing.{piece-more}
use Rattle.watch_state.proofs.frames.add_set.Goals as goal

pub loop-way-preserved : goal.loop-way-preserved
loop-way-preserved c =
    piece-more (way_record c.args.id.0 (core_of c.args.core.now).cache c.args.set) c.loop-way.way (map record_of c.args.records.now)
    (map record_of c.loop-way.records) (map record_of c.add_way.new.records) c.loop-way.invariant c.in_ok-add_way.ensures
