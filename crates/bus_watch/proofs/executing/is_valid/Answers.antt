-- The cache's answer to a load.
use Rattle.std.proofs.Common.{ap, ◌∙◌}
use Rattle.std.specs.Prelude.{is_some}
use Rattle.core_node.specs.View.{core_of}
use Rattle.spec_cache.specs.Held.{maps}
use Rattle.bus_watch.specs.Telling.{hits}
use Rattle.bus_watch.proofs.Hits.{load-hits}
use Rattle.bus_watch.proofs.executing.is_valid.Goals as goal

pub returns : goal.returns
unfolding core_of
returns c =
    let k = c.core.result.now.cache in
    c.is_hit.ensures ∙ ap hits c.look_load.ensures.answer ∙ load-hits k.config c.args.word.0 (maps k)
    ∙ ap (λ x. is_some ((core_of x).cache.value c.args.word.0)) c.core.ensures
