use Rattle.std.proofs.Common.{◌≡◌, true, false, not, refl, ◌∙◌, sym}
use Rattle.tcc_base.specs.Put.{put}
use Rattle.rules_maps.specs.Masks.{has}
use Rattle.rules_maps.specs.Words.{any_below}
use Rattle.spec_cache.specs.Held.{maps}
use Rattle.core_node.specs.View.{core_of}
use Rattle.core_node.proofs.Steps.{marks_sent}
use Rattle.core_node.proofs.granting.mark_replied.Goals as goal

pub returns-then-is_empty_below-clause-does : goal.returns-then-is_empty_below-clause-does
unfolding core_of
returns-then-is_empty_below-clause-does c =
    let k = c.args.core.now in
    let all : not (any_below (put (has k.owing.bits) c.args.d.0 false) k.config.dirs) ≡ true =
    rw (c.without-owing.ensures, c.dirs-dirs.ensures.value) at (sym c.is_empty_below.ensures ∙ c.if-is_empty_below.true) in
    record {
      core = rw (c.without-owing.ensures, all) refl;
      sent = marks_sent k.config
          (maps k.cache) c.args.tid.0 c.args.d.0 _ _ _ _ c.requires.marks c.send_marks.ensures;
    }

pub returns-else-is_empty_below-clause-does : goal.returns-else-is_empty_below-clause-does
unfolding core_of
returns-else-is_empty_below-clause-does c =
    let k = c.args.core.now in
    let all : not (any_below (put (has k.owing.bits) c.args.d.0 false) k.config.dirs) ≡ false =
    rw (c.without-owing.ensures, c.dirs-dirs.ensures.value) at (sym c.is_empty_below.ensures ∙ c.if-is_empty_below.false) in
    record {
      core = rw (c.without-owing.ensures, all) refl;
      sent = marks_sent k.config
          (maps k.cache) c.args.tid.0 c.args.d.0 _ _ _ _ c.requires.marks c.send_marks.ensures;
    }
