-- Numbers in blocks of 16, and the sums of the blocks.
use Rattle.std.proofs.Common.{◌≡◌, ℕ, zero, suc, ◌+◌, ◌-◌, ◌*◌, ◌/◌, ◌^◌, ◌<◌, ◌≤◌, ◌⊎◌, inl, inr, List, length, take, drop, get_or, set}
use Rattle.std.proofs.Common.{replicate, sum, refl, sym, ◌∙◌, ap, subst, arith, length-take, length-drop, [], ◌∷◌}
use Rattle.std.proofs.Common.{Bool, true, false, nat_lt}
use Rattle.std.proofs.lemmas.Bool.{cases_eq}
use Rattle.std.proofs.lemmas.Bool.Decides.{nat_tests}
use Rattle.std.proofs.Math.ListN.{length-set}
use Rattle.std.proofs.lemmas.Grind.{get_or-set_at}
use Rattle.std.proofs.Math.Seq.{take-add, take-set-lt}
use Rattle.std.proofs.lemmas.List.{take-set-le, drop-set-lt, drop-set-add, get_or-set_other, get_or-take, get_or-drop, length-replicate}
use Rattle.std.proofs.lemmas.List.Elements.{All-from_get_or}
use Rattle.std.proofs.lemmas.List.Folds.{sum_by-replicate}
use Rattle.std.proofs.lemmas.List.Sums.{get_or-le-sum_by, sum_by-append, sum_by-le, sum_by_more, sum_by-set}
use Rattle.std.proofs.lemmas.List.Sums.{sum_by-take-drop, sum_by-take-le}
use Rattle.base_sums.specs.Blocks.{AreBlocks, AreSums, block_sum}

-- a block's numbers behind those of the blocks before it
block-more : (xs : List ℕ) (i : ℕ) → sum (take (16 * (i + 1)) xs) ≡ sum (take (16 * i) xs) + block_sum xs i
block-more xs i =
    let more : 16 * (i + 1) ≡ 16 * i + 16 = omega arith in
    ap (λ n. sum (take n xs)) more ∙ ap (λ l. sum l) (take-add (16 * i) 16 xs)
    ∙ sum_by-append (λ x. x) (take (16 * i) xs) (take 16 (drop (16 * i) xs))

-- a block is within all that stands from it on
pub block-within : (xs : List ℕ) (i : ℕ) → block_sum xs i ≤ sum (drop (16 * i) xs)
block-within xs i = sum_by-take-le (λ x. x) (drop (16 * i) xs) 16

-- the sums of the first blocks
pub first-blocks : (xs ys : List ℕ) (i : ℕ) → AreBlocks xs ys → i ≤ length ys → sum (take i ys) ≡ sum (take (16 * i) xs)
first-blocks xs ys zero b h = refl
first-blocks xs ys (suc i) b h =
    let before = first-blocks xs ys i b (omega (arith, h)) in
    let one : suc i ≡ i + 1 = omega arith in
    let here = b.each i (omega (arith, h)) in
    let left = sum_by_more (λ x. x) ys i 0 (omega (arith, h)) in
    let right = block-more xs i in
    ap (λ n. sum (take n ys)) one ∙ left ∙ (λ j. before j + here j) ∙ sym right ∙ ap (λ n. sum (take (16 * n) xs)) (sym one)

-- all blocks have all numbers
pub all-blocks : (xs ys : List ℕ) → AreBlocks xs ys → sum ys ≡ sum xs
all-blocks xs ys b =
    let few = b.lengths in
    let front = first-blocks xs ys (length ys) b (omega arith) in
    let mine = sum_by-take-drop (λ x. x) ys (length ys) in
    let theirs = sum_by-take-drop (λ x. x) xs (16 * length ys) in
    let none = empty-sum (drop (length ys) ys) (omega (arith, length-drop (length ys) ys)) in
    let nothing = empty-sum (drop (16 * length ys) xs) (omega (arith, length-drop (16 * length ys) xs, few)) in
    omega (arith, front, mine, theirs, none, nothing)
  where
    empty-sum : (zs : List ℕ) → length zs ≡ 0 → sum zs ≡ 0
    empty-sum [] h = refl
    empty-sum (z ∷ zs) h = absurd (omega (arith, h))

-- a number of another block stands in the way of none
other-block : (xs : List ℕ) (place v i : ℕ) → (place < 16 * i) ⊎ (16 * i + 16 ≤ place) → block_sum (set xs place v) i ≡ block_sum xs i
other-block xs place v i (inl h) = ap (λ l. sum (take 16 l)) (drop-set-lt (16 * i) xs place v h)
other-block xs place v i (inr h) =
    let at : place ≡ 16 * i + (place - 16 * i) = omega (arith, h) in
    ap (λ p. sum (take 16 (drop (16 * i) (set xs p v)))) at
    ∙ ap (λ l. sum (take 16 l)) (drop-set-add (16 * i) xs (place - 16 * i) v)
    ∙ ap (λ l. sum l) (take-set-le 16 (drop (16 * i) xs) (place - 16 * i) v (omega (arith, h)))

-- of its own block it makes the difference
own-block : (xs : List ℕ) (place v i : ℕ) → 16 * i ≤ place → place < 16 * i + 16 → place < length xs
    → block_sum (set xs place v) i + get_or xs place 0 ≡ block_sum xs i + v
own-block xs place v i low high within =
    let j : ℕ = place - 16 * i in
    let at : 16 * i + j ≡ place = omega (arith, low) in
    let behind : List ℕ = drop (16 * i) xs in
    let dropped : drop (16 * i) (set xs place v) ≡ set behind j v =
    ap (λ p. drop (16 * i) (set xs p v)) (sym at) ∙ drop-set-add (16 * i) xs j v in
    let taken : take 16 (set behind j v) ≡ set (take 16 behind) j v = take-set-lt 16 behind j v (omega (arith, high, low)) in
    let long = length-take {A = ℕ} 16 behind in
    let more = length-drop (16 * i) xs in
    let change = sum_by-set (λ x. x) (take 16 behind) j v 0 (omega (arith, long, more, high, low, within)) in
    let read : get_or (take 16 behind) j 0 ≡ get_or xs place 0 =
    get_or-take 16 behind j 0 (omega (arith, high, low)) ∙ get_or-drop (16 * i) xs j 0 ∙ ap (λ p. get_or xs p 0) at in
    let same : block_sum (set xs place v) i ≡ sum (set (take 16 behind) j v) = ap (λ l. sum (take 16 l)) dropped ∙ ap (λ l. sum l) taken in
    omega (arith, change, read, same)

-- the count of a place is within the sum of its block, and that within the whole
pub number-within : (xs ys : List ℕ) (place : ℕ) → AreBlocks xs ys → place < length xs → get_or xs place 0 ≤ get_or ys (place / 16) 0
number-within xs ys place b h =
    let i : ℕ = place / 16 in
    let few = b.lengths in
    let here = b.each i (omega (arith, few, h)) in
    let behind : List ℕ = drop (16 * i) xs in
    let long = length-take {A = ℕ} 16 behind in
    let more = length-drop (16 * i) xs in
    let least = get_or-le-sum_by (λ x. x) (take 16 behind) (place - 16 * i) 0 (omega (arith, long, more, h)) in
    let read : get_or (take 16 behind) (place - 16 * i) 0 ≡ get_or xs place 0 =
    get_or-take 16 behind (place - 16 * i) 0 (omega arith) ∙ get_or-drop (16 * i) xs (place - 16 * i) 0
    ∙ ap (λ p. get_or xs p 0) (omega arith) in
    omega (arith, here, least, read)

pub sum-within : (ys : List ℕ) (i : ℕ) → i < length ys → get_or ys i 0 ≤ sum ys
sum-within ys i h = get_or-le-sum_by (λ x. x) ys i 0 h

-- the sums after a new number
pub set-blocks : (xs ys : List ℕ) (place v : ℕ) → AreBlocks xs ys → place < length xs
    → AreBlocks (set xs place v) (set ys (place / 16) (get_or ys (place / 16) 0 - get_or xs place 0 + v))
set-blocks xs ys place v b h = record {
  lengths = omega (arith, length-set {A = ℕ} xs place v, length-set {A = ℕ} ys (place / 16) w, b.lengths);
  each = λ i l. each i (omega (arith, length-set {A = ℕ} ys (place / 16) w, l));
}
  where
    w : ℕ
    w = get_or ys (place / 16) 0 - get_or xs place 0 + v

    here : block_sum (set xs place v) (place / 16) ≡ w
    here =
        let own = own-block xs place v (place / 16) (omega arith) (omega arith) h in
        let few = b.lengths in
        let is = b.each (place / 16) (omega (arith, few, h)) in
        let within = number-within xs ys place b h in
        omega (arith, own, is, within)

    far : (i : ℕ) → (i ≡ place / 16 → ⊥) → (place < 16 * i) ⊎ (16 * i + 16 ≤ place)
    far i n = split (nat_lt place (16 * i)) refl
      where
        split : (q : Bool) → nat_lt place (16 * i) ≡ q → (place < 16 * i) ⊎ (16 * i + 16 ≤ place)
        split true q = inl (grind (arith, nat_tests))
        split false q = inr (let above : 16 * i ≤ place = grind (arith, nat_tests) in omega (arith, above, n))

    each : (i : ℕ) → i < length ys → get_or (set ys (place / 16) w) i 0 ≡ block_sum (set xs place v) i
    each i l = elim (cases_eq i (place / 16)) [
      | inl e ↦ get_or-set_at ys (place / 16) i w 0 e (omega (arith, l, e)) ∙ sym here ∙ ap (block_sum (set xs place v)) (sym e)
      | inr n ↦ get_or-set_other ys (place / 16) i w 0 n ∙ b.each i l ∙ sym (other-block xs place v i (far i n))
    ]

-- nothing is counted so far
zeros-none : (n a b : ℕ) → sum (take a (drop b (replicate n 0))) ≡ 0
zeros-none n a b =
    let all : sum (replicate n 0) ≡ n * 0 = sum_by-replicate (λ x. x) n 0 in
    let part = sum_by-take-drop (λ x. x) (replicate n 0) b in
    let less = sum_by-take-le (λ x. x) (drop b (replicate n 0)) a in
    omega (arith, all, part, less)

zero-at : (k n : ℕ) → get_or {A = ℕ} (replicate n 0) k 0 ≡ 0
zero-at k zero = refl
zero-at zero (suc n) = refl
zero-at (suc k) (suc n) = zero-at k n

pub no-blocks : (n : ℕ) → AreBlocks (replicate n 0) (replicate ((n + 15) / 16) 0)
no-blocks n = record {
  lengths = length-replicate ((n + 15) / 16) 0 ∙ ap (λ k. (k + 15) / 16) (sym (length-replicate n 0));
  each = λ i l. zero-at i ((n + 15) / 16) ∙ sym (zeros-none n 16 (16 * i));
}

none-small : (i n : ℕ) → get_or {A = ℕ} (replicate n 0) i 0 < 2 ^ 32
none-small i n = let zero_is = zero-at i n in omega (arith, zero_is)

pub none-sums : (n : ℕ) → n ≤ 2 ^ 16 → AreSums (replicate n 0) (replicate ((n + 15) / 16) 0) (replicate (((n + 15) / 16 + 15) / 16) 0) 0
none-sums n few =
    let counts : length (replicate {A = ℕ} n 0) ≡ n = length-replicate n 0 in
    let all : sum (replicate n 0) ≡ n * 0 = sum_by-replicate (λ x. x) n 0 in
    record {
      few = omega (arith, counts, few);
      small = λ i. none-small i n;
      blocks = no-blocks n;
      upper = no-blocks ((n + 15) / 16);
      whole = omega (arith, all);
    }

-- counts of 32 bits at so few places have a sum of fewer than 64
pub sum-fits : (counts : List ℕ) → length counts ≤ 2 ^ 16 → ((i : ℕ) → get_or counts i 0 < 2 ^ 32) → sum counts ≤ 2 ^ 48
sum-fits counts few fit =
    let narrow : (i : ℕ) → i < length counts → get_or counts i 0 ≤ 4294967295 = λ i lt. let h = fit i in omega arith in
    let least : sum counts ≤ length counts * 4294967295 =
    sum_by-le (λ x. x) 4294967295 counts (All-from_get_or (λ n. n ≤ 4294967295) counts 0 narrow) in
    omega arith

-- what is read at a place is its number
pub read-at : (xs : List ℕ) (i d : ℕ) → i < length xs → get_or xs i d ≡ get_or xs i 0
read-at [] i d h = absurd (omega (arith, h))
read-at (x ∷ xs) zero d h = refl
read-at (x ∷ xs) (suc i) d h = read-at xs i d (omega (arith, h))

-- a place before its count is changed: what it counts is within the sums above it, and the new count fits
pub record Changes (counts sums tops : List ℕ) (total place count : ℕ) : Type 0 where
  pub block : place / 16 < length sums
  pub top : place / 16 / 16 < length tops
  pub in_sum : get_or counts place 0 ≤ get_or sums (place / 16) 0
  pub sum_fits : get_or sums (place / 16) 0 + count < 2 ^ 64
  pub in_top : get_or counts place 0 ≤ get_or tops (place / 16 / 16) 0
  pub top_fits : get_or tops (place / 16 / 16) 0 + count < 2 ^ 64
  pub in_total : get_or counts place 0 ≤ total
  pub total_fits : total + count < 2 ^ 64

pub place-changes : (counts sums tops : List ℕ) (total place count : ℕ) → AreSums counts sums tops total → place < length counts
    → count < 2 ^ 32 → Changes counts sums tops total place count
place-changes counts sums tops total place count s h small =
    let few = s.blocks.lengths in
    let more = s.upper.lengths in
    let block : place / 16 < length sums = omega (arith, few, h) in
    let top : place / 16 / 16 < length tops = omega (arith, more, block) in
    let all = all-blocks counts sums s.blocks in
    let whole = all-blocks sums tops s.upper in
    let least = sum-fits counts s.few s.small in
    let first = number-within counts sums place s.blocks h in
    let second = number-within sums tops (place / 16) s.upper block in
    let third = sum-within sums (place / 16) block in
    let fourth = sum-within tops (place / 16 / 16) top in
    let all_of = s.whole in
    record {
      block = block;
      top = top;
      in_sum = first;
      sum_fits = omega (arith, third, all, least, small);
      in_top = omega (arith, first, second);
      top_fits = omega (arith, fourth, all, whole, least, small);
      in_total = omega (arith, first, third, all, all_of);
      total_fits = omega (arith, all_of, least, small);
    }

-- and after it, where this was counted there
pub changed-sums : (counts sums tops : List ℕ) (total place was count : ℕ) → AreSums counts sums tops total → place < length counts
    → was ≡ get_or counts place 0 → count < 2 ^ 32
    → AreSums (set counts place count) (set sums (place / 16) (get_or sums (place / 16) 0 - was + count))
    (set tops (place / 16 / 16) (get_or tops (place / 16 / 16) 0 - was + count)) (total - was + count)
changed-sums counts sums tops total place was count s h is fits =
    let c = place-changes counts sums tops total place count s h fits in
    let v : ℕ = get_or sums (place / 16) 0 - was + count in
    let one = set-blocks counts sums place count s.blocks h in
    let two = set-blocks sums tops (place / 16) v s.upper c.block in
    let total_is = s.whole in
    let within = c.in_total in
    let below = c.in_sum in
    let above = c.in_top in
    let change = sum_by-set (λ x. x) counts place count 0 h in
    let over = number-within sums tops (place / 16) s.upper c.block in
    let same : get_or tops (place / 16 / 16) 0 - get_or sums (place / 16) 0 + v ≡ get_or tops (place / 16 / 16) 0 - was + count =
    omega (arith, below, above, over, is) in
    record {
      few = (let long = length-set {A = ℕ} counts place count in let f = s.few in omega (arith, long, f));
      small = λ i. elim (cases_eq i place) [
        | inl e ↦ subst (λ n. n < 2 ^ 32) (sym (get_or-set_at counts place i count 0 e h)) fits
        | inr n ↦ subst (λ m. m < 2 ^ 32) (sym (get_or-set_other counts place i count 0 n)) (s.small i)
      ];
      blocks = subst (λ w. AreBlocks (set counts place count) (set sums (place / 16) (get_or sums (place / 16) 0 - w + count)))
          (sym is) one;
      upper = subst (λ w. AreBlocks (set sums (place / 16) v) (set tops (place / 16 / 16) w)) same two;
      whole = omega (arith, change, total_is, within, is);
    }
