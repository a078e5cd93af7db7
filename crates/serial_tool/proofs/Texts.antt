-- The fields of an order's line: what is read is written so, and one text has one order.
use Rattle.std.proofs.Common.{◌≡◌, ℕ, ◌<◌, ◌≤◌, ◌^◌, List, [], ◌∷◌, ◌++◌, Option, Some, None, MatchOption, Bor, get_or, drop, eqb, refl}
use Rattle.std.proofs.Common.{sym}
use Rattle.std.proofs.Common.{ap, ◌∙◌, subst, append_assoc, arith, true≢false, eq-eqb}
use Rattle.std.specs.Fmt.{decimal}
use Rattle.std.specs.List.{slice_split}
use Rattle.std.specs.Str.{IsUtf8}
use Rattle.std.proofs.lemmas.Fmt.{IsAscii-decimal}
use Rattle.std.proofs.lemmas.List.Splits.{slice_split_at, slice_split_none}
use Rattle.std.proofs.lemmas.Str.{IsUtf8-append, IsUtf8-from_ascii}
use Rattle.std.proofs.lemmas.Str.Ascii.{IsAscii-cons, IsAscii-nil}
use Rattle.std.proofs.lemmas.Str.Pattern.{IsSplitOnceResult, split_after, split_parts}
use Rattle.rv_plain.specs.declared.plain.Order.{Order}
use Rattle.row_text.specs.Rows.{IsNumber}
use Rattle.row_text.proofs.Lemmas.{one-number}
use Rattle.serial_tool.specs.Lines.{IsNumbers, IsOrderLine, IsPossible, commit_word, count_limit, numbers_text, tid_limit}
use Rattle.serial_tool.proofs.Numbers.{decimal-no-space}

grouped : (o : Order) → numbers_text o ≡ decimal o.tid.0 ++ 32 ∷ (decimal o.core.0 ++ 32 ∷ decimal o.n)
unfolding numbers_text
grouped o = simp append_assoc

-- the numbers of an order that is possible are below 2^64
pub tid-fits : (cores : ℕ) (o : Order) → IsPossible cores o → o.tid.0 < 2 ^ 64
tid-fits cores o is = let fits = is.tid_fits in omega arith

pub count-fits : (cores : ℕ) (o : Order) → IsPossible cores o → o.n < 2 ^ 64
count-fits cores o is = let fits = is.n_fits in omega arith

-- what stands before and after a space that follows a number
pub after-number : (n : ℕ) (text rest : List ℕ) (r : Option (Bor (List ℕ) × Bor (List ℕ))) → n < 2 ^ 64
    → IsSplitOnceResult 32 text r → text ≡ decimal n ++ 32 ∷ rest
    → MatchOption r ⊥ (λ x. (x.0.now ≡ decimal n) × (x.1.now ≡ rest))
after-number n text rest r small cut is =
    split_after 32 text (decimal n) rest r cut (omega arith) is
    (λ i lt e. true≢false (sym (eq-eqb (get_or (decimal n) i 0) 32 e) ∙ decimal-no-space n small i 0 lt))

-- the three fields of a text
pub record AreFields (text : List ℕ) (tid rest core n : Bor (List ℕ)) : Type 0 where
  pub first : IsSplitOnceResult 32 text (Some (tid, rest))
  pub second : IsSplitOnceResult 32 rest.now (Some (core, n))

pub rest-of : (cores : ℕ) (text : List ℕ) (o : Order) (tid rest : Bor (List ℕ)) → IsSplitOnceResult 32 text (Some (tid, rest))
    → IsNumbers cores text o → IsNumber tid.now o.tid.0 × (rest.now ≡ decimal o.core.0 ++ 32 ∷ decimal o.n)
rest-of cores text o tid rest first is =
    let a = after-number o.tid.0 text (decimal o.core.0 ++ 32 ∷ decimal o.n) (Some (tid, rest)) (tid-fits cores o is.1) first
    (is.0 ∙ grouped o) in
    ((a.0, tid-fits cores o is.1), a.1)

-- a text with the numbers of an order has two spaces
pub has-first : (cores : ℕ) (text : List ℕ) (o : Order) → IsSplitOnceResult 32 text None → IsNumbers cores text o → ⊥
has-first cores text o none is =
    after-number o.tid.0 text (decimal o.core.0 ++ 32 ∷ decimal o.n) None (tid-fits cores o is.1) none (is.0 ∙ grouped o)

pub has-second : (cores : ℕ) (text : List ℕ) (o : Order) (tid rest : Bor (List ℕ)) → cores ≤ 256
    → IsSplitOnceResult 32 text (Some (tid, rest)) → IsSplitOnceResult 32 rest.now None → IsNumbers cores text o → ⊥
has-second cores text o tid rest few first none is =
    let there = is.1.core_there in
    after-number o.core.0 rest.now (decimal o.n) None (omega arith) none (rest-of cores text o tid rest first is).1

-- its fields are the three numbers
pub record AreNumbers (tid core n : List ℕ) (t c k : ℕ) : Type 0 where
  pub first : IsNumber tid t
  pub second : IsNumber core c
  pub third : IsNumber n k

pub fields-are : (cores : ℕ) (text : List ℕ) (o : Order) (tid rest core n : Bor (List ℕ)) → cores ≤ 256
    → AreFields text tid rest core n → IsNumbers cores text o → AreNumbers tid.now core.now n.now o.tid.0 o.core.0 o.n
fields-are cores text o tid rest core n few cut is =
    let there = is.1.core_there in
    let fits : o.core.0 < 2 ^ 64 = omega arith in
    let a = rest-of cores text o tid rest cut.first is in
    let b = after-number o.core.0 rest.now (decimal o.n) (Some (core, n)) fits cut.second a.1 in
    record { first = a.0; second = (b.0, fits); third = (b.1, count-fits cores o is.1) }

pub not-possible : (cores : ℕ) (text : List ℕ) (o : Order) (tid rest core n : Bor (List ℕ)) (t c k : ℕ) → cores ≤ 256
    → AreFields text tid rest core n → AreNumbers tid.now core.now n.now t c k
    → (1 ≤ t → t ≤ tid_limit → c < cores → 1 ≤ k → k ≤ count_limit → ⊥) → IsNumbers cores text o → ⊥
not-possible cores text o tid rest core n t c k few cut read none is =
    let f = fields-are cores text o tid rest core n few cut is in
    let p = is.1 in
    let tids : t ≡ o.tid.0 = one-number tid.now t o.tid.0 read.first f.first in
    let cs : c ≡ o.core.0 = one-number core.now c o.core.0 read.second f.second in
    let ks : k ≡ o.n = one-number n.now k o.n read.third f.third in
    let counts = p.tid_counts in
    let high = p.tid_fits in
    let there = p.core_there in
    let some = p.n_counts in
    let most = p.n_fits in
    none (omega arith) (omega arith) (omega arith) (omega arith) (omega arith)

-- the order that is read has these numbers
abbrev pub order-of : (t c k : ℕ) → Order
order-of t c k = record { tid = record { 0 = t }; core = record { 0 = c }; n = k }

pub numbers-are : (cores : ℕ) (text : List ℕ) (o : Order) (tid rest core n : Bor (List ℕ)) (t c k : ℕ)
    → AreFields text tid rest core n → AreNumbers tid.now core.now n.now t c k → o ≡ order-of t c k → IsPossible cores o
    → IsNumbers cores text o
numbers-are cores text o tid rest core n t c k cut read e possible =
    let p : text ≡ tid.now ++ 32 ∷ rest.now = (split_parts 32 text (Some (tid, rest)) cut.first (omega arith)).0 in
    let q : rest.now ≡ core.now ++ 32 ∷ n.now = (split_parts 32 rest.now (Some (core, n)) cut.second (omega arith)).0 in
    let back : rest.now ≡ decimal c ++ 32 ∷ decimal k =
    q ∙ ap (λ (ds : List ℕ). ds ++ 32 ∷ n.now) read.second.0 ∙ ap (λ (ds : List ℕ). decimal c ++ 32 ∷ ds) read.third.0 in
    let whole : text ≡ decimal t ++ 32 ∷ (decimal c ++ 32 ∷ decimal k) =
    p ∙ ap (λ (ds : List ℕ). ds ++ 32 ∷ rest.now) read.first.0 ∙ ap (λ (r : List ℕ). decimal t ++ 32 ∷ r) back in
    (whole ∙ sym (grouped (order-of t c k)) ∙ ap numbers_text (sym e), possible)

-- the order that three numbers make, or none
pub order-answer : (cores : ℕ) (text : List ℕ) (tid rest core n : Bor (List ℕ)) (t c k : ℕ) (r : Option Order) → cores ≤ 256
    → AreFields text tid rest core n → AreNumbers tid.now core.now n.now t c k
    → MatchOption r (1 ≤ t → t ≤ tid_limit → c < cores → 1 ≤ k → k ≤ count_limit → ⊥)
    (λ o. (o ≡ order-of t c k) × IsPossible cores o)
    → MatchOption r ((o : Order) → IsNumbers cores text o → ⊥) (IsNumbers cores text)
order-answer cores text tid rest core n t c k None few cut read h =
    λ o is. not-possible cores text o tid rest core n t c k few cut read h is
order-answer cores text tid rest core n t c k (Some o) few cut read h =
    numbers-are cores text o tid rest core n t c k cut read h.0 h.1

-- ---- the text of an order is one of characters

space-text : IsUtf8 (32 ∷ [])
space-text = IsUtf8-from_ascii (32 ∷ []) (IsAscii-cons 32 [] (omega arith) IsAscii-nil)

number-text : (n : ℕ) → n < 2 ^ 64 → IsUtf8 (decimal n)
number-text n small = IsUtf8-from_ascii (decimal n) (IsAscii-decimal n small)

pub numbers-text : (cores : ℕ) (text : List ℕ) (o : Order) → cores ≤ 256 → IsNumbers cores text o → IsUtf8 text
numbers-text cores text o few is =
    let there = is.1.core_there in
    let back : IsUtf8 (decimal o.core.0 ++ 32 ∷ decimal o.n) =
    IsUtf8-append (decimal o.core.0) (32 ∷ decimal o.n) (number-text o.core.0 (omega arith))
    (IsUtf8-append (32 ∷ []) (decimal o.n) space-text (number-text o.n (count-fits cores o is.1))) in
    subst IsUtf8 (sym (is.0 ∙ grouped o))
    (IsUtf8-append (decimal o.tid.0) (32 ∷ (decimal o.core.0 ++ 32 ∷ decimal o.n)) (number-text o.tid.0 (tid-fits cores o is.1))
    (IsUtf8-append (32 ∷ []) (decimal o.core.0 ++ 32 ∷ decimal o.n) space-text back))

-- ---- a line has one order

pub behind-word : (cores : ℕ) (line text : List ℕ) (o : Order) → line ≡ commit_word ++ text → IsOrderLine cores line o
    → IsNumbers cores text o
behind-word cores line text o parts is = (ap (λ (l : List ℕ). drop 7 l) (sym parts ∙ is.0), is.1)

spaced : (cores : ℕ) (text : List ℕ) (o : Order) → cores ≤ 64 → IsNumbers cores text o
    → slice_split (λ x. eqb x 32) text ≡ decimal o.tid.0 ∷ decimal o.core.0 ∷ decimal o.n ∷ []
spaced cores text o few is =
    let test = λ (x : ℕ). eqb x 32 in
    let there = is.1.core_there in
    let fits : o.core.0 < 2 ^ 64 = omega arith in
    ap (slice_split test) (is.0 ∙ grouped o)
    ∙ slice_split_at test (decimal o.tid.0) 32 (decimal o.core.0 ++ 32 ∷ decimal o.n)
    (decimal-no-space o.tid.0 (tid-fits cores o is.1)) refl
    ∙ ap (λ (ls : List (List ℕ)). decimal o.tid.0 ∷ ls)
    (slice_split_at test (decimal o.core.0) 32 (decimal o.n) (decimal-no-space o.core.0 fits) refl
    ∙ ap (λ (ls : List (List ℕ)). decimal o.core.0 ∷ ls) (slice_split_none test (decimal o.n)
    (decimal-no-space o.n (count-fits cores o is.1))))

same-order : (o p : Order) → o.tid.0 ≡ p.tid.0 → o.core.0 ≡ p.core.0 → o.n ≡ p.n → o ≡ p
same-order o p a b d = λ i. record { tid = record { 0 = a i }; core = record { 0 = b i }; n = d i }

pub one-order : (cores : ℕ) (line : List ℕ) (o p : Order) → cores ≤ 64 → IsOrderLine cores line o → IsOrderLine cores line p → o ≡ p
one-order cores line o p few a b =
    let text : List ℕ = drop 7 line in
    let mine : IsNumbers cores text o = (ap (λ (l : List ℕ). drop 7 l) a.0, a.1) in
    let other : IsNumbers cores text p = (ap (λ (l : List ℕ). drop 7 l) b.0, b.1) in
    let there_o = a.1.core_there in
    let there_p = b.1.core_there in
    let same : decimal o.tid.0 ∷ decimal o.core.0 ∷ decimal o.n ∷ [] ≡ decimal p.tid.0 ∷ decimal p.core.0 ∷ decimal p.n ∷ [] =
    sym (spaced cores text o few mine) ∙ spaced cores text p few other in
    let tids : decimal o.tid.0 ≡ decimal p.tid.0 = cc in
    let cs : decimal o.core.0 ≡ decimal p.core.0 = cc in
    let ns : decimal o.n ≡ decimal p.n = cc in
    same-order o p (one-number (decimal o.tid.0) o.tid.0 p.tid.0 (refl, tid-fits cores o a.1) (tids, tid-fits cores p b.1))
    (one-number (decimal o.core.0) o.core.0 p.core.0 (refl, omega arith) (cs, omega arith))
    (one-number (decimal o.n) o.n p.n (refl, count-fits cores o a.1) (ns, count-fits cores p b.1))
