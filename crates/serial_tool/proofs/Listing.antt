-- One more line of a list, the first faulty line, and that two answers agree.
use Rattle.std.proofs.Common.{◌≡◌, ℕ, zero, suc, ◌+◌, ◌-◌, ◌<◌, ◌≤◌, List, [], ◌∷◌, ◌++◌, Some, All, length, take, get_or, slice_get}
use Rattle.std.proofs.Common.{refl, sym, ap, ◌∙◌, subst, inl, inr, ◌⊎◌, arith}
use Rattle.std.proofs.lemmas.Bool.{cases_lt}
use Rattle.std.proofs.lemmas.List.{get_or-take, get_or_default, length-take-le, take_all, take_more}
use Rattle.std.proofs.lemmas.List.FromFn.{get_or-enumerate_from, length-enumerate_from}
use Rattle.std.specs.List.{enumerate_from}
use Rattle.std.proofs.lemmas.Option.{get_or_from_slice_get, slice_get-get_or, slice_get_within}
use Rattle.rv_plain.specs.declared.plain.Order.{Order}
use Rattle.serial_tool.specs.Laws.{FaultsAreAlike, FaultsHaveNoList, ListsAreAlike}
use Rattle.serial_tool.specs.Lines.{IsCommitLine, IsFaulty, IsOrderLine, numbers_text}
use Rattle.serial_tool.specs.Lists.{IsFirstFault, IsList, Lists, lines_of}
use Rattle.serial_tool.specs.declared.reading.Listed.{Listed}
use Rattle.serial_tool.proofs.Texts.{one-order}

-- ---- one more line at the end

pub other-line : (cores number : ℕ) (lines : List (List ℕ)) (line : List ℕ) (listed : List Listed) → Lists cores number lines listed
    → (IsCommitLine line → ⊥) → Lists cores number (lines ++ line ∷ []) listed
other-line cores number [] line listed past other = inl (other, past)
other-line cores number (l ∷ lines) line listed (inl p) other =
    inl (p.0, other-line cores (number + 1) lines line listed p.1 other)
other-line cores number (l ∷ lines) line listed (inr p) other =
    inr (p.0, p.1, p.2, p.3, other-line cores (number + 1) lines line p.1 p.4 other)

pub order-line : (cores number k : ℕ) (lines : List (List ℕ)) (line : List ℕ) (listed : List Listed) (o : Order)
    → k ≡ number + length lines → Lists cores number lines listed → IsOrderLine cores line o
    → Lists cores number (lines ++ line ∷ []) (listed ++ record { line = k; order = o } ∷ [])
order-line cores number k [] line listed o place past is =
    let here : k ≡ number = omega arith in
    let mine : listed ++ record { line = k; order = o } ∷ [] ≡ record { line = number; order = o } ∷ [] =
    ap (λ (ls : List Listed). ls ++ record { line = k; order = o } ∷ []) past
    ∙ ap (λ (j : ℕ). record { line = j; order = o } ∷ []) here in
    inr (o, [], is, mine, refl)
order-line cores number k (l ∷ lines) line listed o place (inl p) is =
    inl (p.0, order-line cores (number + 1) k lines line listed o (omega arith) p.1 is)
order-line cores number k (l ∷ lines) line listed o place (inr p) is =
    inr (
      p.0,
      p.1 ++ record { line = k; order = o } ∷ [],
      p.2,
      ap (λ (ls : List Listed). ls ++ record { line = k; order = o } ∷ []) p.3,
      order-line cores (number + 1) k lines line p.1 o (omega arith) p.4 is,
    )

-- the lines before line i, from 0, list these orders
pub record Before (cores : ℕ) (lines : List (List ℕ)) (i : ℕ) (listed : List Listed) : Type 0 where
  pub lists : Lists cores 1 (take i lines) listed

pub past-other : (cores : ℕ) (lines : List (List ℕ)) (i : ℕ) (listed : List Listed) → i < length lines → Before cores lines i listed
    → (IsCommitLine (get_or lines i []) → ⊥) → Before cores lines (i + 1) listed
past-other cores lines i listed lt past other = record {
  lists = subst (λ (ls : List (List ℕ)). Lists cores 1 ls listed) (sym (take_more lines i [] lt))
      (other-line cores 1 (take i lines) (get_or lines i []) listed past.lists other);
}

pub past-order : (cores : ℕ) (lines : List (List ℕ)) (i k : ℕ) (listed : List Listed) (o : Order) → i < length lines → k ≡ i + 1
    → Before cores lines i listed → IsOrderLine cores (get_or lines i []) o
    → Before cores lines (i + 1) (listed ++ record { line = k; order = o } ∷ [])
past-order cores lines i k listed o lt place past is =
    let long : length (take i lines) ≡ i = length-take-le i lines (omega arith) in
    record {
      lists = subst (λ (ls : List (List ℕ)). Lists cores 1 ls (listed ++ record { line = k; order = o } ∷ []))
          (sym (take_more lines i [] lt))
          (order-line cores 1 k (take i lines) (get_or lines i []) listed o (omega arith) past.lists is);
    }

-- ---- what a list says of its lines and orders

no-fault : (cores number : ℕ) (lines : List (List ℕ)) (listed : List Listed) → Lists cores number lines listed
    → All (λ line. IsFaulty cores line → ⊥) lines
no-fault cores number [] listed past k d lt = absurd (omega arith)
no-fault cores number (l ∷ lines) listed (inl p) zero d lt = λ f. p.0 f.0
no-fault cores number (l ∷ lines) listed (inr p) zero d lt = λ f. f.1 p.0 p.2
no-fault cores number (l ∷ lines) listed (inl p) (suc k) d lt = no-fault cores (number + 1) lines listed p.1 k d (omega arith)
no-fault cores number (l ∷ lines) listed (inr p) (suc k) d lt = no-fault cores (number + 1) lines p.1 p.4 k d (omega arith)

cores-of : (cores number : ℕ) (lines : List (List ℕ)) (listed : List Listed) → Lists cores number lines listed
    → All (λ l. l.order.core.0 < cores) listed
cores-of cores number [] listed past = subst (All (λ l. l.order.core.0 < cores)) (sym past) (λ k d lt. absurd (omega arith))
cores-of cores number (l ∷ lines) listed (inl p) = cores-of cores (number + 1) lines listed p.1
cores-of cores number (l ∷ lines) listed (inr p) =
    subst (All (λ l. l.order.core.0 < cores)) (sym p.3) (go p.2.1.core_there (cores-of cores (number + 1) lines p.1 p.4))
  where
    go : p.0.core.0 < cores → All (λ l. l.order.core.0 < cores) p.1
        → All (λ l. l.order.core.0 < cores) (record { line = number; order = p.0 } ∷ p.1)
    go first later zero d lt = first
    go first later (suc k) d lt = later k d (omega arith)

-- ---- the end of the file, and a faulty line

pub all-lines : (cores : ℕ) (bytes : List ℕ) (i : ℕ) (listed : List Listed) → length (lines_of bytes) ≤ i
    → Before cores (lines_of bytes) i listed → IsList cores bytes listed × All (λ l. l.order.core.0 < cores) listed
all-lines cores bytes i listed past before =
    let whole = subst (λ (ls : List (List ℕ)). Lists cores 1 ls listed) (take_all i (lines_of bytes) past) before.lists in
    (whole, cores-of cores 1 (lines_of bytes) listed whole)

pub faulty-line : (cores : ℕ) (bytes : List ℕ) (i k : ℕ) (listed : List Listed) → i < length (lines_of bytes) → k ≡ i + 1
    → Before cores (lines_of bytes) i listed → IsFaulty cores (get_or (lines_of bytes) i []) → IsFirstFault cores bytes k
faulty-line cores bytes i k listed lt place before faulty =
    let lines : List (List ℕ) = lines_of bytes in
    let back : i ≡ k - 1 = omega arith in
    record {
      line = get_or lines i [];
      counted = omega arith;
      there = subst (λ (j : ℕ). slice_get lines j ≡ Some (get_or lines i [])) back (slice_get-get_or lines i [] lt);
      faulty = faulty;
      before = subst (λ (j : ℕ). All (λ line. IsFaulty cores line → ⊥) (take j lines)) back
          (no-fault cores 1 (take i lines) listed before.lists);
    }

-- ---- one turn of the loop over the numbered lines

-- x is the next of the lines with their numbers, which count from 0
abbrev pub IsNext : (bytes : List ℕ) (n : ℕ) → ℕ × List ℕ → Type 0
IsNext bytes n x = (n < length (enumerate_from 0 (lines_of bytes))) × (x ≡ get_or (enumerate_from 0 (lines_of bytes)) n x)

place-of : (bytes : List ℕ) (n : ℕ) (x : ℕ × List ℕ) → IsNext bytes n x
    → (n < length (lines_of bytes)) × (x.0 ≡ n) × (x.1 ≡ get_or (lines_of bytes) n [])
place-of bytes n x h =
    let lines : List (List ℕ) = lines_of bytes in
    let first = h.0 in
    let lt : n < length lines = omega (arith, length-enumerate_from 0 lines) in
    let e : x ≡ (0 + n, get_or lines n x.1) = h.1 ∙ get_or-enumerate_from 0 lines n x lt in
    let number : x.0 ≡ 0 + n = ap (λ (y : ℕ × List ℕ). y.0) e in
    (lt, omega arith, ap (λ (y : ℕ × List ℕ). y.1) e ∙ get_or_default lines n x.1 [] lt)

pub turn-other : (cores : ℕ) (bytes : List ℕ) (n m : ℕ) (listed : List Listed) (x : ℕ × List ℕ) → IsNext bytes n x → m ≡ n + 1
    → Before cores (lines_of bytes) n listed → (IsCommitLine x.1 → ⊥) → Before cores (lines_of bytes) m listed
turn-other cores bytes n m listed x next more before other =
    let at = place-of bytes n x next in
    subst (λ (j : ℕ). Before cores (lines_of bytes) j listed) (sym more)
    (past-other cores (lines_of bytes) n listed at.0 before (subst (λ (l : List ℕ). IsCommitLine l → ⊥) at.2 other))

pub turn-order : (cores : ℕ) (bytes : List ℕ) (n m : ℕ) (listed : List Listed) (x : ℕ × List ℕ) (o : Order) → IsNext bytes n x
    → m ≡ n + 1 → Before cores (lines_of bytes) n listed → IsOrderLine cores x.1 o
    → Before cores (lines_of bytes) m (listed ++ record { line = x.0 + 1; order = o } ∷ [])
turn-order cores bytes n m listed x o next more before is =
    let at = place-of bytes n x next in
    let number : x.0 + 1 ≡ n + 1 = ap (λ (j : ℕ). j + 1) at.1 in
    subst (λ (j : ℕ). Before cores (lines_of bytes) j (listed ++ record { line = x.0 + 1; order = o } ∷ [])) (sym more)
    (past-order cores (lines_of bytes) n (x.0 + 1) listed o at.0 number before
    (subst (λ (l : List ℕ). IsOrderLine cores l o) at.2 is))

pub turn-fault : (cores : ℕ) (bytes : List ℕ) (n : ℕ) (listed : List Listed) (x : ℕ × List ℕ) → IsNext bytes n x
    → Before cores (lines_of bytes) n listed → IsFaulty cores x.1 → IsFirstFault cores bytes (x.0 + 1)
turn-fault cores bytes n listed x next before faulty =
    let at = place-of bytes n x next in
    let number : x.0 + 1 ≡ n + 1 = ap (λ (j : ℕ). j + 1) at.1 in
    faulty-line cores bytes n (x.0 + 1) listed at.0 number before (subst (IsFaulty cores) at.2 faulty)

pub turn-none : (cores : ℕ) (bytes : List ℕ) (n : ℕ) (listed : List Listed) → n ≡ length (enumerate_from 0 (lines_of bytes))
    → Before cores (lines_of bytes) n listed → IsList cores bytes listed × All (λ l. l.order.core.0 < cores) listed
turn-none cores bytes n listed all before =
    all-lines cores bytes n listed (omega (arith, length-enumerate_from 0 (lines_of bytes))) before

-- ---- two answers agree

orders-alike : (cores number : ℕ) (lines : List (List ℕ)) (a b : List Listed) → cores ≤ 64 → Lists cores number lines a
    → Lists cores number lines b → a ≡ b
orders-alike cores number [] a b few p q = p ∙ sym q
orders-alike cores number (l ∷ lines) a b few (inl p) (inl q) = orders-alike cores (number + 1) lines a b few p.1 q.1
orders-alike cores number (l ∷ lines) a b few (inl p) (inr q) = absurd (p.0 (numbers_text q.0, q.2.0))
orders-alike cores number (l ∷ lines) a b few (inr p) (inl q) = absurd (q.0 (numbers_text p.0, p.2.0))
orders-alike cores number (l ∷ lines) a b few (inr p) (inr q) =
    let orders : p.0 ≡ q.0 = one-order cores l p.0 q.0 few p.2 q.2 in
    let later : p.1 ≡ q.1 = orders-alike cores (number + 1) lines p.1 q.1 few p.4 q.4 in
    p.3 ∙ (λ i. record { line = number; order = orders i } ∷ later i) ∙ sym q.3

pub lists-alike : ListsAreAlike
lists-alike cores bytes a b few p q = orders-alike cores 1 (lines_of bytes) a b few p q

-- line k isn't before another first faulty one
not-before : (cores : ℕ) (bytes : List ℕ) (j k : ℕ) → IsFirstFault cores bytes j → IsFirstFault cores bytes k → j < k → ⊥
not-before cores bytes j k a b less =
    let lines : List (List ℕ) = lines_of bytes in
    let counted = a.counted in
    let within : k - 1 < length lines = slice_get_within lines (k - 1) b.line b.there in
    let long : length (take (k - 1) lines) ≡ k - 1 = length-take-le (k - 1) lines (omega arith) in
    let mine : get_or (take (k - 1) lines) (j - 1) [] ≡ a.line =
    get_or-take (k - 1) lines (j - 1) [] (omega arith) ∙ get_or_from_slice_get lines (j - 1) a.line [] a.there in
    b.before (j - 1) [] (omega arith) (subst (IsFaulty cores) (sym mine) a.faulty)

pub faults-alike : FaultsAreAlike
faults-alike cores bytes j k a b = go (cases_lt j k) (cases_lt k j)
  where
    go : (j < k) ⊎ (k ≤ j) → (k < j) ⊎ (j ≤ k) → j ≡ k
    go (inl h) e = absurd (not-before cores bytes j k a b h)
    go (inr h) (inl g) = absurd (not-before cores bytes k j b a g)
    go (inr h) (inr g) = omega arith

pub faults-have-no-list : FaultsHaveNoList
faults-have-no-list cores bytes listed k is f =
    let lines : List (List ℕ) = lines_of bytes in
    let within : k - 1 < length lines = slice_get_within lines (k - 1) f.line f.there in
    let mine : get_or lines (k - 1) [] ≡ f.line = get_or_from_slice_get lines (k - 1) f.line [] f.there in
    no-fault cores 1 lines listed is (k - 1) [] within (subst (IsFaulty cores) (sym mine) f.faulty)
