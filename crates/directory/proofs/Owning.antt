-- A commit's lines become the committer's one by one.
use Rattle.std.proofs.Common.{◌≡◌, ℕ, zero, suc, ◌<◌, Bool, true, false, ◌&&◌, ◌||◌, ◌==◌, eqb, nat_lt, cond, if◌then◌else◌, List, [], ◌∷◌}
use Rattle.std.proofs.Common.{◌++◌, Some, refl, ap, sym, subst, ◌∙◌, arith}
use Rattle.std.proofs.lemmas.Bool.Decides.{nat_tests}
use borrow.Author.Tests.{lt-ltb, le-ltb, eqb-true, eqb-false}
use Rattle.rules_maps.specs.Words.{those}
use Rattle.rules_maps.specs.Lines.{Lines, has_mark, with_sharer, with_owner, with_tag, with_asked}
use Rattle.rules_tcc.specs.DirDeliver.{owned_by_committer}
use Rattle.dir_lines.specs.Owned.{owned_line}

pub is_in : ℕ → List ℕ → Bool
is_in l [] = false
is_in l (x ∷ xs) = (l == x) || is_in l xs

-- these lines are the committer's, the others as before
abbrev pub owned_some : (core tid : ℕ) → List ℕ → Lines → Lines
owned_some c t xs ls = record ls {
  sharers = λ l j. (if is_in l xs && j == c then true else ls.sharers l j);
  owner = λ l. (if is_in l xs then Some c else ls.owner l);
  tag = λ l. (if is_in l xs then t else ls.tag l);
  asked = λ l. (if is_in l xs then false else ls.asked l);
}

is_in-append : (l : ℕ) (xs ys : List ℕ) → is_in l (xs ++ ys) ≡ (is_in l ys || is_in l xs)
unfolding is_in
is_in-append l [] ys = by (is_in l ys)
  where
    by : (b : Bool) → b ≡ (b || false)
    by true = refl
    by false = refl
is_in-append l (x ∷ xs) ys = ap (λ b. (l == x) || b) (is_in-append l xs ys) ∙ by (l == x) (is_in l ys) (is_in l xs)
  where
    by : (a b d : Bool) → (a || (b || d)) ≡ (b || (a || d))
    by true true d = refl
    by true false d = refl
    by false b d = refl

is_in-one : (l x : ℕ) → is_in l (x ∷ []) ≡ (l == x)
unfolding is_in
is_in-one l x = by (l == x)
  where
    by : (b : Bool) → (b || false) ≡ b
    by true = refl
    by false = refl

is_in-push : (l x : ℕ) (xs : List ℕ) → ((l == x) || is_in l xs) ≡ is_in l (xs ++ x ∷ [])
is_in-push l x xs = sym (is_in-append l xs (x ∷ []) ∙ ap (λ b. b || is_in l xs) (is_in-one l x))

choose : {A : Type 0} (a b : Bool) (v w : A) → (if a then v else (if b then v else w)) ≡ (if a || b then v else w)
choose true b v w = refl
choose false b v w = refl

choose-at : (a b e w : Bool) → (if a && e then true else (if b && e then true else w)) ≡ (if (a || b) && e then true else w)
choose-at true b true w = refl
choose-at true true false w = refl
choose-at true false false w = refl
choose-at false b e w = refl

pub owned-more : (c t x : ℕ) (xs : List ℕ) (ls : Lines) → owned_line x c t (owned_some c t xs ls) ≡ owned_some c t (xs ++ x ∷ []) ls
unfolding with_sharer with_owner with_tag with_asked
owned-more c t x xs ls = λ i. record ls {
  sharers =
      λ l j. (choose-at (l == x) (is_in l xs) (j == c) (ls.sharers l j) ∙ ap (λ b. if b && j == c then true else ls.sharers l j)
      (is_in-push l x xs)) i;
  owner = λ l. (choose (l == x) (is_in l xs) (Some c) (ls.owner l) ∙ ap (λ b. if b then Some c else ls.owner l) (is_in-push l x xs)) i;
  tag = λ l. (choose (l == x) (is_in l xs) t (ls.tag l) ∙ ap (λ b. if b then t else ls.tag l) (is_in-push l x xs)) i;
  asked = λ l. (choose (l == x) (is_in l xs) false (ls.asked l) ∙ ap (λ b. if b then false else ls.asked l) (is_in-push l x xs)) i;
}

pub owned-none : (c t : ℕ) (ls : Lines) → ls ≡ owned_some c t [] ls
unfolding is_in
owned-none c t ls = refl

is_in-those : (p : ℕ → Bool) (l n : ℕ) → is_in l (those p n) ≡ (nat_lt l n && p l)
unfolding those is_in
is_in-those p l zero = let f : nat_lt l 0 ≡ false = le-ltb l 0 (omega arith) in rw f refl
is_in-those p l (suc n) =
    is_in-append l (those p n) (cond (p n) (n ∷ []) [])
    ∙ (ap (λ b. is_in l (cond (p n) (n ∷ []) []) || b) (is_in-those p l n) ∙ by (eqb l n) refl)
  where
    last : (b : Bool) → is_in l (cond b (n ∷ []) []) ≡ (b && (l == n))
    last true = is_in-one l n
    last false = refl

    or-false : (b : Bool) → (b || false) ≡ b
    or-false true = refl
    or-false false = refl

    and-true : (b : Bool) → (b && true) ≡ b
    and-true true = refl
    and-true false = refl

    and-false : (b : Bool) → (b && false) ≡ false
    and-false true = refl
    and-false false = refl

    by : (a : Bool) → eqb l n ≡ a → (is_in l (cond (p n) (n ∷ []) []) || (nat_lt l n && p l)) ≡ (nat_lt l (suc n) && p l)
    by true e =
        let same : l ≡ n = eqb-true l n e in
        let f : nat_lt l n ≡ false = le-ltb l n (omega arith) in
        let g : nat_lt l (suc n) ≡ true = lt-ltb l (suc n) (omega arith) in
        rw (f, g) (or-false (is_in l (cond (p n) (n ∷ []) [])) ∙ (last (p n) ∙ (ap (λ b. p n && b) e ∙ (and-true (p n) ∙ ap p (sym same)))))
    by false e =
        let ne : l ≡ n → ⊥ = eqb-false l n e in
        let g : nat_lt l (suc n) ≡ nat_lt l n = grind (arith, nat_tests) in
        rw g (ap (λ b. b || (nat_lt l n && p l)) (last (p n) ∙ (ap (λ b. p n && b) e ∙ and-false (p n))))

-- all marked lines
pub owned-all : (c t n : ℕ) (ls : Lines) → ((l : ℕ) → has_mark ls l ≡ true → l < n)
    → owned_some c t (those (has_mark ls) n) ls ≡ owned_by_committer c t ls
unfolding owned_by_committer
owned-all c t n ls small = λ i. record ls {
  sharers = λ l j. ap (λ b. if b && j == c then true else ls.sharers l j) (all l) i;
  owner = λ l. ap (λ b. if b then Some c else ls.owner l) (all l) i;
  tag = λ l. ap (λ b. if b then t else ls.tag l) (all l) i;
  asked = λ l. ap (λ b. if b then false else ls.asked l) (all l) i;
}
  where
    by : (l : ℕ) (b : Bool) → has_mark ls l ≡ b → (nat_lt l n && b) ≡ b
    by l true e = let f : nat_lt l n ≡ true = lt-ltb l n (small l e) in rw f refl
    by l false e = off (nat_lt l n)
      where
        off : (a : Bool) → (a && false) ≡ false
        off true = refl
        off false = refl

    all : (l : ℕ) → is_in l (those (has_mark ls) n) ≡ has_mark ls l
    all l = is_in-those (has_mark ls) l n ∙ by l (has_mark ls l) refl
