-- What is noted of an instruction last, taken back.
use Rattle.std.proofs.Common.{◌≡◌, ℕ, ◌-◌, List, [], ◌∷◌, ◌++◌, length, take, ap, ◌∙◌, arith}
use Rattle.std.proofs.Math.Seq.{take-append_seam}
use Rattle.std.proofs.lemmas.List.{length-append}
use Rattle.tcc_base.specs.declared.access.Load.{Load}
use Rattle.tcc_base.specs.declared.access.Stored.{Stored}
use Rattle.rules_tcc.specs.State.{CoreState}

last_off : {A : Type 0} → (ys : List A) (y : A) → take (length (ys ++ y ∷ []) - 1) (ys ++ y ∷ []) ≡ ys
last_off ys y =
    let n : length (ys ++ y ∷ []) - 1 ≡ length ys = omega (arith, length-append ys (y ∷ [])) in
    ap (λ (k : ℕ). take k (ys ++ y ∷ [])) n ∙ take-append_seam ys (y ∷ [])

-- a list without its last item
pub without_last : {A : Type 0} → (l xs ys : List A) (y : A) → l ≡ take (length xs - 1) xs → xs ≡ ys ++ y ∷ [] → l ≡ ys
without_last l xs ys y e f = e ∙ ap (λ (zs : List _). take (length zs - 1) zs) f ∙ last_off ys y

pub back_load : (t s : CoreState) (y : Load) (l : List Load) → l ≡ take (length t.loads - 1) t.loads
    → t ≡ record s { loads = s.loads ++ y ∷ [] } → record t { loads = l } ≡ s
back_load t s y l e f =
    ap (λ (u : CoreState). record u { loads = l }) f
    ∙ ap (λ (xs : List Load). record s { loads = xs }) (without_last l t.loads s.loads y e (ap (λ (u : CoreState). u.loads) f))

pub back_store : (t s : CoreState) (y : Stored) (l : List Stored) → l ≡ take (length t.stores - 1) t.stores
    → t ≡ record s { stores = s.stores ++ y ∷ [] } → record t { stores = l } ≡ s
back_store t s y l e f =
    ap (λ (u : CoreState). record u { stores = l }) f
    ∙ ap (λ (xs : List Stored). record s { stores = xs }) (without_last l t.stores s.stores y e (ap (λ (u : CoreState). u.stores) f))

pub back_change : (t s : CoreState) (x : Load) (y : Stored) (k : List Load) (l : List Stored) → k ≡ take (length t.loads - 1) t.loads
    → l ≡ take (length t.stores - 1) t.stores → t ≡ record s { loads = s.loads ++ x ∷ []; stores = s.stores ++ y ∷ [] }
    → record t { loads = k; stores = l } ≡ s
back_change t s x y k l d e f =
    ap (λ (u : CoreState). record u { loads = k; stores = l }) f
    ∙ ap (λ (xs : List Load). record s { loads = xs; stores = l }) (without_last k t.loads s.loads x d (ap (λ (u : CoreState). u.loads) f))
    ∙ ap (λ (xs : List Stored). record s { stores = xs }) (without_last l t.stores s.stores y e (ap (λ (u : CoreState). u.stores) f))

pub back_print : (t s : CoreState) (y : ℕ) (l : List ℕ) → l ≡ take (length t.console - 1) t.console
    → t ≡ record s { console = s.console ++ y ∷ [] } → record t { console = l } ≡ s
back_print t s y l e f =
    ap (λ (u : CoreState). record u { console = l }) f
    ∙ ap (λ (xs : List ℕ). record s { console = xs }) (without_last l t.console s.console y e (ap (λ (u : CoreState). u.console) f))
