-- Where a number falls, place by place and block by block.
use Rattle.std.proofs.Common.{◌≡◌, ℕ, zero, suc, ◌+◌, ◌-◌, ◌*◌, ◌<◌, ◌≤◌, List, [], ◌∷◌, length, take, drop, get_or, sum, arith}
use Rattle.std.proofs.lemmas.List.Sums.{sum_by-drop_more, sum_by_more}
use Rattle.base_sums.specs.Blocks.{AreBlocks}
use Rattle.base_sums.specs.Falls.{FallsAt, FallsFrom}
use Rattle.base_sums.proofs.Summed.{block-within, first-blocks}

-- on the way from place to place: so far into what is counted from this one on
pub record Falling (xs : List ℕ) (from k at left : ℕ) : Type 0 where
  pub before : sum (take from xs) + k ≡ sum (take at xs) + left
  pub below : left < sum (drop at xs)

some-counted : (xs : List ℕ) (at left : ℕ) → left < sum (drop at xs) → at < length xs
some-counted [] zero left h = absurd (omega (arith, h))
some-counted [] (suc at) left h = absurd (omega (arith, h))
some-counted (x ∷ xs) zero left h = omega arith
some-counted (x ∷ xs) (suc at) left h = let r = some-counted xs at left h in omega (arith, r)

pub is-place : (xs : List ℕ) (from k at left : ℕ) → Falling xs from k at left → at < length xs
is-place xs from k at left f = some-counted xs at left f.below

pub begins : (xs : List ℕ) (from k : ℕ) → k < sum (drop from xs) → Falling xs from k from k
begins xs from k h = record { before = omega arith; below = h }

-- past one place
pub goes-on : (xs : List ℕ) (from k at left count : ℕ) → count ≡ get_or xs at 0 → count ≤ left → Falling xs from k at left
    → Falling xs from k (at + 1) (left - count)
goes-on xs from k at left count is h f =
    let within = is-place xs from k at left f in
    let b = f.before in
    let l = f.below in
    let one = sum_by_more (λ x. x) xs at 0 within in
    let rest = sum_by-drop_more (λ x. x) xs at 0 within in
    record { before = omega (arith, b, one, h, is); below = omega (arith, l, rest, h, is) }

-- what falls in a block is below all that is counted from it on
pub in-block : (xs ys : List ℕ) (from k block into : ℕ) → AreBlocks xs ys → FallsFrom ys from k block into
    → into < sum (drop (16 * block) xs)
in-block xs ys from k block into b f =
    let within = f.within in
    let is = b.each block f.exists in
    let least = block-within xs block in
    omega (arith, within, is, least)

-- a place in a block
pub falls-in : (xs ys : List ℕ) (k block into place left : ℕ) → AreBlocks xs ys → FallsAt ys k block into
    → FallsFrom xs (16 * block) into place left → FallsAt xs k place left
falls-in xs ys k block into place left b f g =
    let exists = f.exists in
    let first = first-blocks xs ys block b (omega (arith, exists)) in
    let one = f.before in
    let two = g.before in
    record { before = omega (arith, first, one, two); within = g.within; exists = g.exists }

pub from-start : (xs : List ℕ) (k place into : ℕ) → FallsFrom xs 0 k place into → FallsAt xs k place into
from-start xs k place into f = let b = f.before in record { before = omega (arith, b); within = f.within; exists = f.exists }
