use Rattle.std.proofs.Common.{◌<◌, arith, ◌∙◌, refl, lt-ltb}
use Rattle.base_lemmas.proofs.Lemmas.{eight_of}
use Rattle.rules_maps.specs.Masks.{masked}
use Rattle.spec_cache.proofs.frame.masked_words.Goals as goal

pub returns : goal.returns
unfolding masked
returns c =
    eight_of c.loop-k.kept _ c.loop-k.invariant.eight_words
    (λ k h. c.loop-k.invariant.so_far k h ∙ (let past : k < c.loop-k.k = omega arith in rw (lt-ltb k c.loop-k.k past) refl))
