use Rattle.std.proofs.Common.{◌∙◌, ap, None, get_or, cond, arith}
use Rattle.std.specs.Option.{option_map}
use Rattle.std.proofs.lemmas.Bool.{lt-ltb}
use Rattle.spec_cache.specs.Change.{changed_frame}
use Rattle.spec_cache.proofs.MapsAll.{all_of}
use Rattle.spec_cache.proofs.slots.change_all.Goals as goal

pub returns : goal.returns
returns c =
    all_of (changed_frame c.args.change) c.args.ways.now c.loop-way.ways (omega arith)
    (λ i h. c.loop-way.invariant i
    ∙ ap (λ b. cond b (option_map (changed_frame c.args.change) (get_or c.args.ways.now i None)) (get_or c.args.ways.now i None))
    (lt-ltb i c.loop-way.way-index (omega arith)))
