-- The rising list of the numbers with a test, when the test changes at one number.
use Rattle.std.proofs.Common.{◌≡◌, ℕ, zero, suc, ◌+◌, ◌-◌, ◌<◌, ◌≤◌, Bool, true, false, cond, nat_lt, if◌then◌else◌, List, [], ◌∷◌, ◌++◌}
use Rattle.std.proofs.Common.{length, drop, take, get_or, slice_get, Some, All, append_assoc, append-nil, length-append, Result, Ok, Err}
use Rattle.std.proofs.Common.{is_ok, IsOk, refl, ap, sym, subst, ◌∙◌, arith}
use Rattle.std.specs.List.{insert, remove}
use Rattle.std.proofs.lemmas.List.{nil_from_length}
use Rattle.std.proofs.lemmas.List.Elements.{All-get_or, All-append, All-cons, All-nil, All-weaker, All-push}
use Rattle.std.proofs.Math.ListN.{get_or-append}
use Rattle.std.proofs.Math.Seq.{take-append_seam, drop-append_seam, get_or-append_right}
use Rattle.base_lemmas.proofs.Lemmas.{those-same}
use borrow.Author.Tests.{ltb-true, ltb-false, ne_eqb, eq-eqb}
use Rattle.rules_maps.specs.Words.{put, those, count_below}
use Rattle.rules_maps.proofs.Lemmas.{length-those}

-- the numbers from a on, m of them, that have p
between : (ℕ → Bool) → ℕ → ℕ → List ℕ
between p a zero = []
between p a (suc m) = between p a m ++ cond (p (a + m)) ((a + m) ∷ []) []

-- below l, l itself, and above
those-split : (p : ℕ → Bool) (l m n : ℕ) → n ≡ l + suc m → those p n ≡ (those p l ++ cond (p l) (l ∷ []) []) ++ between p (l + 1) m
unfolding those between
those-split p l zero n e = rw (let f : n ≡ suc l = omega arith in f) (sym (append-nil (those p l ++ cond (p l) (l ∷ []) [])))
those-split p l (suc m) zero e = absurd (omega arith)
those-split p l (suc m) (suc n) e =
    let f : n ≡ l + 1 + m = omega arith in
    ap (λ xs. xs ++ cond (p n) (n ∷ []) []) (those-split p l m n (omega arith))
    ∙ (append_assoc (those p l ++ cond (p l) (l ∷ []) []) (between p (l + 1) m) (cond (p n) (n ∷ []) [])
    ∙ ap (λ k. (those p l ++ cond (p l) (l ∷ []) []) ++ (between p (l + 1) m ++ cond (p k) (k ∷ []) [])) f)

between-same : (p q : ℕ → Bool) (a m : ℕ) → ((k : ℕ) → a ≤ k → p k ≡ q k) → between p a m ≡ between q a m
unfolding between
between-same p q a zero h = refl
between-same p q a (suc m) h = λ i. between-same p q a m h i ++ cond (h (a + m) (omega arith) i) ((a + m) ∷ []) []

those-below : (p : ℕ → Bool) (n : ℕ) → All (λ x. x < n) (those p n)
unfolding those
those-below p n = by n n (omega arith)
  where
    one : (b : Bool) (m k : ℕ) → m < k → All (λ x. x < k) (cond b (m ∷ []) [])
    one true m k h = All-cons (λ x. x < k) m [] h (All-nil (λ x. x < k))
    one false m k h = All-nil (λ x. x < k)

    by : (m k : ℕ) → m ≤ k → All (λ x. x < k) (those p m)
    by zero k h = All-nil (λ x. x < k)
    by (suc m) k h = All-append (λ x. x < k) (those p m) (cond (p m) (m ∷ []) []) (by m k (omega arith)) (one (p m) m k (omega arith))

between-above : (p : ℕ → Bool) (a m : ℕ) → All (λ x. a ≤ x) (between p a m)
unfolding between
between-above p a zero = All-nil (λ x. a ≤ x)
between-above p a (suc m) = All-append (λ x. a ≤ x) (between p a m) (cond (p (a + m)) ((a + m) ∷ []) []) (between-above p a m)
    (one (p (a + m)))
  where
    one : (b : Bool) → All (λ x. a ≤ x) (cond b ((a + m) ∷ []) [])
    one true = All-cons (λ x. a ≤ x) (a + m) [] (omega arith) (All-nil (λ x. a ≤ x))
    one false = All-nil (λ x. a ≤ x)

-- a place between those that are at most l and those above it
place-is : (cs bs : List ℕ) (l at : ℕ) → All (λ x. x ≤ l) cs → All (λ x. l + 1 ≤ x) bs → at ≤ length (cs ++ bs)
    → ((k : ℕ) → at ≤ k → k < length (cs ++ bs) → l < get_or (cs ++ bs) k 0) → (0 < at → get_or (cs ++ bs) (at - 1) 0 ≤ l) → at ≡ length cs
place-is cs bs l at low high within after before = by (nat_lt at (length cs)) refl (nat_lt (length cs) at) refl
  where
    early : at < length cs → ⊥
    early h =
        let a : l < get_or (cs ++ bs) at 0 = after at (omega arith) (omega (arith, length-append cs bs)) in
        let b : get_or (cs ++ bs) at 0 ≡ get_or cs at 0 = get_or-append cs bs 0 at h in
        let c : get_or cs at 0 ≤ l = All-get_or (λ x. x ≤ l) cs at 0 h low in omega arith

    late : length cs < at → ⊥
    late h =
        let n : length (cs ++ bs) ≡ length cs + length bs = length-append cs bs in
        let a : get_or (cs ++ bs) (at - 1) 0 ≤ l = before (omega arith) in
        let b : get_or (cs ++ bs) (at - 1) 0 ≡ get_or bs (at - 1 - length cs) 0 = get_or-append_right cs bs (at - 1) 0 (omega arith) in
        let c : l + 1 ≤ get_or bs (at - 1 - length cs) 0 = All-get_or (λ x. l + 1 ≤ x) bs (at - 1 - length cs) 0 (omega arith) high in
        omega arith

    by : (a : Bool) → nat_lt at (length cs) ≡ a → (b : Bool) → nat_lt (length cs) at ≡ b → at ≡ length cs
    by true e b f = absurd (early (ltb-true at (length cs) e))
    by false e true f = absurd (late (ltb-true (length cs) at f))
    by false e false f = omega (arith, ltb-false at (length cs) e, ltb-false (length cs) at f)

-- the test at other numbers is as before
pub put-other : (p : ℕ → Bool) (l : ℕ) (b : Bool) (k : ℕ) → (k ≡ l → ⊥) → put p l b k ≡ p k
put-other p l b k h = rw (ne_eqb k l h) refl

pub put-own : (p : ℕ → Bool) (l : ℕ) (b : Bool) → put p l b l ≡ b
put-own p l b = rw (eq-eqb l l refl) refl

-- the three parts of the list, where the test at l is known
those-parts : (p : ℕ → Bool) (l n : ℕ) (b : Bool) → l < n → p l ≡ b → those p n ≡ (those p l ++ cond b (l ∷ []) [])
    ++ between p (l + 1) (n - l - 1)
those-parts p l n b h e = those-split p l (n - l - 1) n (omega arith)
    ∙ ap (λ c. (those p l ++ cond c (l ∷ []) []) ++ between p (l + 1) (n - l - 1)) e

those-put : (p : ℕ → Bool) (l n : ℕ) (b : Bool) → l < n → those (put p l b) n ≡ (those p l ++ cond b (l ∷ []) [])
    ++ between p (l + 1) (n - l - 1)
those-put p l n b h =
    those-parts (put p l b) l n b h (put-own p l b)
    ∙ (λ i. (those-same (put p l b) p l (λ k q. put-other p l b k (λ (e : k ≡ l). omega arith)) i ++ cond b (l ∷ []) [])
    ++ between-same (put p l b) p (l + 1) (n - l - 1) (λ k q. put-other p l b k (λ (e : k ≡ l). omega arith)) i)

-- the items from a place on are above l, and the one before it isn't
pub record IsPlace (xs : List ℕ) (l at : ℕ) : Type 0 where
  pub within : at ≤ length xs
  pub after : (k : ℕ) → at ≤ k → k < length xs → l < get_or xs k 0
  pub before : 0 < at → get_or xs (at - 1) 0 ≤ l

at-most : (p : ℕ → Bool) (l : ℕ) → All (λ x. x ≤ l) (those p l)
at-most p l = All-weaker (λ x. x < l) (λ x. x ≤ l) (λ x (h : x < l). omega arith) (those p l) (those-below p l)

pub those-note : (p : ℕ → Bool) (l n at : ℕ) (xs : List ℕ) → IsPlace xs l at → l < n → p l ≡ false → xs ≡ those p n
    → insert xs at l ≡ those (put p l true) n
those-note p l n at xs place h e same = finish (those p l) (between p (l + 1) (n - l - 1)) (at-most p l)
    (between-above p (l + 1) (n - l - 1))
    (same ∙ (those-parts p l n false h e ∙ ap (λ ys. ys ++ between p (l + 1) (n - l - 1)) (append-nil (those p l))))
    ∙ sym (those-put p l n true h)
  where
    finish : (cs bs : List ℕ) → All (λ x. x ≤ l) cs → All (λ x. l + 1 ≤ x) bs → xs ≡ cs ++ bs → insert xs at l ≡ (cs ++ l ∷ []) ++ bs
    finish cs bs low high f =
        let moved : IsPlace (cs ++ bs) l at = subst (λ ys. IsPlace ys l at) f place in
        let c : at ≡ length cs = place-is cs bs l at low high moved.within moved.after moved.before in
        ap (λ ys. insert ys at l) f
        ∙ (ap (λ k. insert (cs ++ bs) k l) c
        ∙ ((λ i. take-append_seam cs bs i ++ (l ∷ drop-append_seam cs bs i)) ∙ sym (append_assoc cs (l ∷ []) bs)))

pub those-forget : (p : ℕ → Bool) (l n at : ℕ) (xs : List ℕ) → IsPlace xs l at → l < n → p l ≡ true → xs ≡ those p n
    → (0 < at) × (remove xs (at - 1) ≡ those (put p l false) n)
those-forget p l n at xs place h e same = finish (those p l) (between p (l + 1) (n - l - 1)) (at-most p l)
    (between-above p (l + 1) (n - l - 1)) (same ∙ those-parts p l n true h e) (sym (those-put p l n false h))
  where
    finish : (cs bs : List ℕ) → All (λ x. x ≤ l) cs → All (λ x. l + 1 ≤ x) bs → xs ≡ (cs ++ l ∷ []) ++ bs
        → (cs ++ []) ++ bs ≡ those (put p l false) n → (0 < at) × (remove xs (at - 1) ≡ those (put p l false) n)
    finish cs bs low high f last =
        let moved : IsPlace ((cs ++ l ∷ []) ++ bs) l at = subst (λ ys. IsPlace ys l at) f place in
        let c : at ≡ length (cs ++ l ∷ []) =
        place-is (cs ++ l ∷ []) bs l at (All-push (λ x. x ≤ l) cs l low (omega arith)) high moved.within moved.after moved.before in
        let d : length (cs ++ l ∷ []) ≡ length cs + 1 = length-append cs (l ∷ []) in
        let k : at - 1 ≡ length cs = omega arith in (
          omega arith,
          ap (λ ys. remove ys (at - 1)) f
              ∙ (ap (λ j. remove ((cs ++ l ∷ []) ++ bs) j) k
              ∙ (ap (λ ys. remove ys (length cs)) (append_assoc cs (l ∷ []) bs)
              ∙ ((λ i. take-append_seam cs (l ∷ bs) i ++ dropped cs i) ∙ (ap (λ ys. ys ++ bs) (sym (append-nil cs)) ∙ last)))),
        )
      where
        dropped : (ys : List ℕ) → drop (suc (length ys)) (ys ++ l ∷ bs) ≡ bs
        dropped [] = refl
        dropped (y ∷ ys) = dropped ys

-- the list after an insertion that succeeded
pub when_ok : {T E : Type 0} (r : Result T E) (xs ys zs : List ℕ) → IsOk r → xs ≡ (if is_ok r then ys else zs) → xs ≡ ys
when_ok (Ok x) xs ys zs h e = e
when_ok (Err x) xs ys zs h e = cc

-- a number with the test stands behind those below it
pub those-nth : (p : ℕ → Bool) (n l : ℕ) → l < n → p l ≡ true → slice_get (those p n) (count_below p l) ≡ Some l
those-nth p n l h e =
    ap (λ ys. slice_get ys (count_below p l)) (those-parts p l n true h e)
    ∙ (ap (λ k. slice_get ((those p l ++ l ∷ []) ++ between p (l + 1) (n - l - 1)) k) (sym (length-those p l))
    ∙ seam (those p l) (between p (l + 1) (n - l - 1)))
  where
    seam : (cs bs : List ℕ) → slice_get ((cs ++ l ∷ []) ++ bs) (length cs) ≡ Some l
    seam [] bs = refl
    seam (c ∷ cs) bs = seam cs bs

-- behind all others
pub insert-last : (xs : List ℕ) (l at : ℕ) → at ≡ length xs → xs ++ l ∷ [] ≡ insert xs at l
insert-last xs l at e = by xs ∙ ap (λ k. insert xs k l) (sym e)
  where
    by : (ys : List ℕ) → ys ++ l ∷ [] ≡ insert ys (length ys) l
    by [] = refl
    by (y ∷ ys) = ap (λ zs. y ∷ zs) (by ys)

pub remove-last : (xs : List ℕ) (k : ℕ) → length xs ≡ k + 1 → take k xs ≡ remove xs k
remove-last [] k e = absurd (omega (arith, e))
remove-last (x ∷ xs) zero e = sym (nil_from_length xs (omega arith))
remove-last (x ∷ xs) (suc k) e = ap (λ ys. x ∷ ys) (remove-last xs k (omega arith))
