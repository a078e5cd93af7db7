-- What an iterator that owns its items gives, from first to last.
use Rattle.std.proofs.Common.{◌≡◌, List, [], ◌∷◌, ◌∙◌, length, ap, refl, sym, arith}
use Rattle.std.specs.declared.vec.IntoIter.{IntoIter}
use Rattle.std.specs.Iterator.{Yields}
use Rattle.std.specs.Vec.Iter.{into_iter_items, into_iter_len, into_iter_steps}

-- none is left
spent : {X Z : Type 0} (s : IntoIter X Z) → into_iter_len s ≡ 0 → into_iter_items s ≡ []
spent s none = empty (into_iter_items s) (sym s.rest.ok.0 ∙ none)
  where
    empty : {X : Type 0} (xs : List X) → length xs ≡ 0 → xs ≡ []
    empty [] h = refl
    empty (x ∷ xs) h = absurd (omega (arith, h))

-- what was given until none was left
pub given-all : {X Z : Type 0} (s : IntoIter X Z) (xs : List X) (t : IntoIter X Z) → Yields into_iter_steps s xs t → into_iter_len t ≡ 0
    → into_iter_items s ≡ xs
given-all s [] t same none = ap into_iter_items same ∙ spent t none
given-all s (x ∷ xs) t (j, step, rest) none = step.0 ∙ ap (λ ys. x ∷ ys) (given-all j xs t rest none)
