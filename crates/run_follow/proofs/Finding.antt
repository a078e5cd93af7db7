-- The first useful event that may come is found by looking at one after another.
use Rattle.std.proofs.Common.{◌≡◌, ℕ, zero, suc, ◌+◌, ◌≤◌, true, false, List, [], ◌∷◌, length, drop, Option, Some, None, ap, ◌∙◌}
use Rattle.std.proofs.Common.{arith}
use Rattle.std.specs.Prelude.{cond, slice_get}
use Rattle.std.specs.List.{find}
use Rattle.std.proofs.lemmas.List.{drop_all}
use Rattle.rules_maps.specs.Nodes.{Event}
use Rattle.run_follow.specs.Following.{may_come, next_of}

-- the list from an event on begins with it
pub from-here : {A : Type 0} (us : List A) (k : ℕ) (e : A) → slice_get us k ≡ Some e → drop k us ≡ e ∷ drop (suc k) us
from-here [] k e h = absurd (cc)
from-here (x ∷ us) zero e h = let same : x ≡ e = cc in ap (λ y. y ∷ us) same
from-here (x ∷ us) (suc k) e h = from-here us k e h

pub next-here : (turn : Option ℕ) (us : List Event) (k : ℕ) (e : Event) → slice_get us k ≡ Some e → may_come turn e ≡ true
    → next_of turn (drop k us) ≡ Some e
unfolding next_of
next-here turn us k e h m =
    ap (find (may_come turn)) (from-here us k e h) ∙ ap (λ b. cond b (Some e) (find (may_come turn) (drop (suc k) us))) m

pub next-past : (turn : Option ℕ) (us : List Event) (k : ℕ) (e : Event) → slice_get us k ≡ Some e → may_come turn e ≡ false
    → next_of turn (drop k us) ≡ next_of turn (drop (k + 1) us)
unfolding next_of
next-past turn us k e h m =
    let more : suc k ≡ k + 1 = omega arith in
    ap (find (may_come turn)) (from-here us k e h) ∙ ap (λ b. cond b (Some e) (find (may_come turn) (drop (suc k) us))) m
    ∙ ap (λ j. find (may_come turn) (drop j us)) more

pub next-none : (turn : Option ℕ) (us : List Event) (k : ℕ) → length us ≤ k → next_of turn (drop k us) ≡ None
unfolding next_of
next-none turn us k h = ap (find (may_come turn)) (drop_all k us h)
