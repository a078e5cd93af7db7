-- Sums of blocks, by which a place is found without passing over all places.
use Rattle.std.specs.Prelude.{◌≡◌, ℕ, ◌+◌, ◌*◌, ◌/◌, ◌^◌, ◌<◌, ◌≤◌, List, length, take, drop, sum, slice_index}

-- the sum of a block's 16 numbers; the last block may have fewer
abbrev pub block_sum : (numbers : List ℕ) → (block : ℕ) → ℕ
block_sum numbers i = sum (take 16 (drop (16 * i) numbers))

-- the sums of all blocks
pub record AreBlocks (numbers sums : List ℕ) : Type 0 where
  pub lengths : length sums ≡ (length numbers + 15) / 16
  pub each : (i : ℕ) → i < length sums → slice_index sums i ≡ block_sum numbers i

-- the sums of blocks of counts, those of blocks of sums, and the total, of so few counts that no sum wraps
pub record AreSums (counts sums tops : List ℕ) (total : ℕ) : Type 0 where
  pub few : length counts ≤ 2 ^ 16
  pub small : (place : ℕ) → slice_index counts place < 2 ^ 32
  pub blocks : AreBlocks counts sums
  pub upper : AreBlocks sums tops
  pub whole : total ≡ sum counts
