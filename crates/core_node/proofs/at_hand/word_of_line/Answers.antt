use Rattle.std.proofs.Common.{refl}
use Rattle.core_node.specs.View.{core_of}
use Rattle.core_node.proofs.Loaded.{not_found, valid_hit}
use Rattle.core_node.proofs.at_hand.word_of_line.Goals as goal

pub returns-in-Hit : goal.returns-in-Hit
unfolding core_of
returns-in-Hit c =
    rw (valid_hit c.args.core.now.cache.config c.args.w.0 c.in-Hit.word (core_of c.args.core.now).cache c.in-Hit.ensures.answer) refl

pub returns-in_default : goal.returns-in_default
unfolding core_of
returns-in_default c =
    rw (not_found c.args.core.now.cache.config c.args.w.0 (core_of c.args.core.now).cache c.look_load.result c.look_load.ensures.answer
    c.in_default.not-Hit) refl
