-- What a report shows of a machine's cores.
use Rattle.std.proofs.Common.{◌≡◌, ℕ, ◌+◌, List, [], ◌∷◌, ◌++◌, map, ap, sym, ◌∙◌, arith}
use Rattle.std.specs.List.{range_with_len}
use Rattle.std.proofs.lemmas.List.FromFn.{map-range_with_len_more}
use Rattle.report_text.specs.Shown.{ShownCore}

-- one core more
pub shown-more : (f : ℕ → ShownCore) (n : ℕ) (cs : List ShownCore) (x : ShownCore) → cs ≡ map f (range_with_len 0 n) → x ≡ f n
    → cs ++ x ∷ [] ≡ map f (range_with_len 0 (n + 1))
shown-more f n cs x are is =
    ap (λ ys. ys ++ x ∷ []) are ∙ ap (λ y. map f (range_with_len 0 n) ++ y ∷ []) is ∙ sym (map-range_with_len_more f 0 n n (omega arith))
