use Rattle.std.proofs.Common.{refl}
use Rattle.core_node.specs.View.{core_of}
use Rattle.core_node.proofs.Loaded.{not_found, valid_hit}
use Rattle.core_node.proofs.writing.word_here.Goals as goal

pub returns-in-Some : goal.returns-in-Some
unfolding core_of
returns-in-Some c = rw (← c.in-Some.ensures) refl

pub returns-in-Hit : goal.returns-in-Hit
unfolding core_of
returns-in-Hit c =
    rw (
      ← c.in-None.ensures,
      valid_hit c.args.core.now.cache.config c.args.w.0 c.in-Hit.word (core_of c.args.core.now).cache
          c.in-Hit.ensures.answer,
    ) refl

pub returns-in_default : goal.returns-in_default
unfolding core_of
returns-in_default c =
    rw (
      ← c.in-None.ensures,
      not_found c.args.core.now.cache.config c.args.w.0 (core_of c.args.core.now).cache c.look_load.result
          c.look_load.ensures.answer c.in_default.not-Hit,
    ) refl
