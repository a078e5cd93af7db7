use Rattle.std.proofs.Common.{ap, ◌∙◌}
use Rattle.rules_maps.specs.CacheLook.{reads_masked}
use Rattle.spec_cache.specs.Held.{maps}
use Rattle.core_node.specs.View.{core_of}
use Rattle.core_node.specs.declared.state.Core.{Core}
use Rattle.core_node.proofs.node.CoreNode.strike.Goals as goal

pub returns-clause-read : goal.returns-clause-read
unfolding core_of
returns-clause-read c =
    c.strike.ensures.read ∙ ap (λ (k : Core). reads_masked c.args.line.0 c.args.mask.0 (maps k.cache)) c.self.view_is
