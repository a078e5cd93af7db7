-- From where it waits for room.
use Rattle.std.specs.Option.{option_map}
use Rattle.spec_cache.specs.Useful.{line_number}
use Rattle.core_node.specs.View.{core_of}
use Rattle.core_node.proofs.Evictions.{wants-as}
use Rattle.core_node.proofs.useful.wants.Goals as goal

pub returns : goal.returns
unfolding core_of
returns c = λ p h.
    let k = c.args.core.now in
    wants-as k.config p (core_of k) c.is_alone.result (option_map line_number c.awaited_line.result) c.args.waits c.is_alone.ensures
    c.awaited_line.ensures h
