use Rattle.std.proofs.Common.{◌*◌}
use Rattle.image_load.proofs.Memory.{filled-empty}
use Rattle.image_load.proofs.layout.Layout.new.Goals as goal

pub returns-clause-laid : goal.returns-clause-laid
returns-clause-laid c = record {
  filled =
      filled-empty c.args.config.now.base (4 * c.words.result) c.in_ok-vec.field-0.items c.in_ok-vec-2.field-0.items
      c.in_ok-vec-3.field-0.items
      (c.in_ok-vec.ensures.items_if_clones_equal (λ y e. e))
      (c.in_ok-vec-2.ensures.items_if_clones_equal (λ y e. e))
      (c.in_ok-vec-3.ensures.items_if_clones_equal (λ y e. e));
  extents = c.new.ensures.items;
}
