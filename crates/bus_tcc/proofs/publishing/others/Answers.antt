-- All cores but one.
use Rattle.std.proofs.Common.{◌≡◌, ℕ, Bool, true, false, not, ◌&&◌, refl, ap, ◌∙◌}
use Rattle.std.specs.Prelude.{◌==◌, nat_lt, if◌then◌else◌}
use Rattle.tcc_base.specs.Put.{put}
use Rattle.bus_tcc.specs.Left.{all_but}
use Rattle.bus_tcc.proofs.publishing.others.Goals as goal

put-but : (c n : ℕ) → put (λ j. nat_lt j n) c false ≡ all_but c n
put-but c n = λ i j. by (j == c) (nat_lt j n) i
  where
    by : (a b : Bool) → (if a then false else b) ≡ (b && not a)
    by true true = refl
    by true false = refl
    by false true = refl
    by false false = refl

pub returns : goal.returns
returns c =
    c.without.ensures ∙ ap (λ f. put f c.args.core.0 false) c.below.ensures ∙ put-but c.args.core.0 c.args.cores
