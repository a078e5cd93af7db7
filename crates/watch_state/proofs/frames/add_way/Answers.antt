-- The way holds a line, or none.
use Rattle.std.proofs.Common.{◌++◌, ap, ◌∙◌, map, rules}
use Rattle.core_node.specs.View.{core_of}
use Rattle.watch_state.specs.Plain.{record_of}
use Rattle.watch_state.proofs.ShownFrames.{way-empty, way-shown}
use Rattle.watch_state.proofs.frames.add_way.Goals as goal

pub returns-in_ok-add_holds : goal.returns-in_ok-add_holds
returns-in_ok-add_holds c =
    c.in_ok-add_holds.ensures
    ∙ ap (λ rs. map record_of c.args.records.now ++ rs)
    (way-shown c.args.id.0 c.args.set c.args.way (core_of c.args.core.now).cache c.in-Some.frame c.in-Some.ensures.0 c.in-Some.ensures.1)

pub returns-in_default : goal.returns-in_default
returns-in_default c =
    rw (way-empty c.args.id.0 c.args.set c.args.way (core_of c.args.core.now).cache c.in_default.ensures) (search rules)
