-- What was loaded and stored last.
use Rattle.std.proofs.Common.{◌≡◌, suc, ◌-◌, List, [], ◌∷◌, length}
use Rattle.std.proofs.Common.{Some, None, refl, ap, sym, ◌∙◌, arith}
use Rattle.std.specs.Prelude.{slice_get}
use Rattle.tcc_base.specs.declared.access.Load.{Load}
use Rattle.tcc_base.specs.declared.access.Stored.{Stored}
use Rattle.base_lemmas.proofs.Lemmas.{none-past}
use Rattle.watch.specs.Instructions.{last_loaded, last_stored}

same-item : {A : Type 0} (x y : A) → Some x ≡ Some y → x ≡ y
same-item x y e = cc

-- the last of two or more is the last of those behind the first
behind : {A : Type 0} (x y : A) (xs : List A) → slice_get (x ∷ y ∷ xs) (length (x ∷ y ∷ xs) - 1) ≡ slice_get (y ∷ xs) (length (y ∷ xs) - 1)
behind x y xs =
    let far : length (x ∷ y ∷ xs) - 1 ≡ suc (length xs) = omega arith in
    let near : length (y ∷ xs) - 1 ≡ length xs = omega arith in
    ap (slice_get (x ∷ y ∷ xs)) far ∙ sym (ap (slice_get (y ∷ xs)) near)

pub loaded-last : (ls : List Load) (x : Load) → Some x ≡ slice_get ls (length ls - 1) → x.value ≡ last_loaded ls
unfolding last_loaded
loaded-last [] x e = absurd (cc)
loaded-last (l ∷ []) x e = ap (λ (y : Load). y.value) (same-item x l e)
loaded-last (l ∷ k ∷ ls) x e = loaded-last (k ∷ ls) x (e ∙ behind l k ls)

pub stored-last : (ss : List Stored) (x : Stored) → Some x ≡ slice_get ss (length ss - 1) → x.value ≡ last_stored ss
unfolding last_stored
stored-last [] x e = absurd (cc)
stored-last (s ∷ []) x e = ap (λ (y : Stored). y.value) (same-item x s e)
stored-last (s ∷ r ∷ ss) x e = stored-last (r ∷ ss) x (e ∙ behind s r ss)

pub loaded-none : (ls : List Load) → None ≡ slice_get ls (length ls - 1) → 0 ≡ last_loaded ls
unfolding last_loaded
loaded-none [] e = refl
loaded-none (l ∷ ls) e = absurd (none-past (l ∷ ls) (length (l ∷ ls) - 1) (sym e) (omega arith))

pub stored-none : (ss : List Stored) → None ≡ slice_get ss (length ss - 1) → 0 ≡ last_stored ss
unfolding last_stored
stored-none [] e = refl
stored-none (s ∷ ss) e = absurd (none-past (s ∷ ss) (length (s ∷ ss) - 1) (sym e) (omega arith))
