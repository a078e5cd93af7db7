use Rattle.std.proofs.Common.{refl, ◌∙◌}
use Rattle.spec_cache.specs.Held.{maps}
use Rattle.core_node.proofs.Placed.{awaits_placed}
use Rattle.core_node.proofs.missing.place.Goals as goal

pub returns-clause-stays : goal.returns-clause-stays
returns-clause-stays c =
    let k = c.args.core.now in
    record {
      config = refl;
      id = refl;
      whole = record {
        cache = c.place.ensures.config ∙ c.requires.whole.cache;
        awaited = rw (c.place.ensures.maps) (awaits_placed k.cache.config c.args.line.0
            (maps k.cache) k.awaited c.requires.whole.awaited);
        after = c.requires.whole.after;
      };
    }
