use Rattle.std.proofs.Common.{ℕ, ◌<◌, ◌≡◌, Bool, true, false, cond, not, arith, ◌∙◌, refl, lt-ltb}
use Rattle.base_lemmas.proofs.Lemmas.{eight_of}
use Rattle.rules_maps.specs.Masks.{has}
use Rattle.spec_cache.specs.Frame.{filled_up}
use Rattle.spec_cache.proofs.frame.filled_words.Goals as goal

either_way : (b : Bool) (x y : ℕ) → cond (not b) x y ≡ cond b y x
either_way true x y = refl
either_way false x y = refl

pub returns : goal.returns
unfolding filled_up
returns c =
    eight_of c.loop-k.filled _ c.loop-k.invariant.eight_words
    (λ k h. c.loop-k.invariant.so_far k h
    ∙ (let past : k < c.loop-k.k = omega arith in rw (lt-ltb k c.loop-k.k past) (either_way (has c.args.valid k) _ _)))
