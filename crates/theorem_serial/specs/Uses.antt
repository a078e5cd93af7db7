-- Which words the instructions of a transaction read before it has stored them whole, and which words its loads and stores
-- name: what a transaction gives depends on no other word of memory.
use Rattle.std.specs.Prelude.{ℕ, zero, suc, ◌≡◌, ◌<◌, ◌%◌, ◌^◌, Bool, true, false, not, ◌&&◌, ◌||◌, ◌==◌, List, [], ◌∷◌, Option, Some, None}
use Rattle.tcc_base.specs.Bytes.{bytes_of}
use Rattle.tcc_base.specs.declared.access.Load.{Load}
use Rattle.tcc_base.specs.declared.access.Size.{Size}
use Rattle.tcc_base.specs.declared.access.Size.TheVariants.{Word}
use Rattle.tcc_base.specs.declared.access.Stored.{Stored}
use Rattle.rules_program.specs.Program.{Local, Need, Loads, Stores, Changes, Program}
use Rattle.rules_program.specs.Plain.{Attempt, steps, begun}
use Rattle.rules_program.specs.Ram.{word_of}

-- a load, a store names the word
unfoldable pub loads_word : (base : ℕ) → List Load → ℕ → Bool
loads_word base [] w = false
loads_word base (l ∷ ls) w = (word_of base l.addr == w) || loads_word base ls w

unfoldable pub stores_word : (base : ℕ) → List Stored → ℕ → Bool
stores_word base [] w = false
stores_word base (s ∷ ss) w = (word_of base s.addr == w) || stores_word base ss w

abbrev pub is_whole : Size → Bool
is_whole Word = true
is_whole _ = false

-- a store names the whole word
unfoldable pub stores_whole : (base : ℕ) → List Stored → ℕ → Bool
stores_whole base [] w = false
stores_whole base (s ∷ ss) w = (is_whole s.size && (word_of base s.addr == w)) || stores_whole base ss w

-- an instruction with this need takes the old value of the word
abbrev pub reads_word : (base : ℕ) → Need → ℕ → Bool
reads_word base (Loads addr size) w = word_of base addr == w
reads_word base (Stores addr size value) w = not (is_whole size) && (word_of base addr == w)
reads_word base (Changes addr changed) w = word_of base addr == w
reads_word base _ w = false

-- the next instruction takes the value that the word had when the attempt began
abbrev pub uses_next : (base : ℕ) → Program → Option Attempt → ℕ → Bool
uses_next base p None w = false
uses_next base p (Some a) w = reads_word base (p.need a.local) w && not (stores_whole base a.stores w)

-- one of the first n instructions does
unfoldable pub uses : (base : ℕ) → Program → (n : ℕ) → Attempt → ℕ → Bool
uses base p zero a w = false
uses base p (suc n) a w = uses base p n a w || uses_next base p (steps base p n a) w

-- every access lies at a multiple of its size
abbrev pub AlignedNeed : Need → Type 0
AlignedNeed (Loads addr size) = addr % bytes_of size ≡ 0
AlignedNeed (Stores addr size value) = addr % bytes_of size ≡ 0
AlignedNeed (Changes addr changed) = addr % 4 ≡ 0
AlignedNeed _ = Unit {0}

abbrev pub Aligned : Program → Type 0
Aligned p = (l : Local) → AlignedNeed (p.need l)

-- every word fits 32 bits
abbrev pub IsMemory : (ℕ → ℕ) → Type 0
IsMemory ram = (w : ℕ) → ram w < 2 ^ 32

-- What the same instructions give over another memory: the same in all but memory, the same value in each word that they
-- store, and each other word as it was.
pub record SameAttempt (base : ℕ) (here there : ℕ → ℕ) (a : Attempt) (other : Option Attempt) : Type 0 where
  pub ram : ℕ → ℕ
  pub same : other ≡ Some (record a { ram = ram })
  pub stored : (w : ℕ) → stores_word base a.stores w ≡ true → ram w ≡ a.ram w
  pub kept_here : (w : ℕ) → stores_word base a.stores w ≡ false → a.ram w ≡ here w
  pub kept_there : (w : ℕ) → stores_word base a.stores w ≡ false → ram w ≡ there w

-- the two memories agree on the words that the n instructions use
abbrev pub AgreeOnUsed : (base : ℕ) → Program → (n : ℕ) → Local → (here there : ℕ → ℕ) → Type 0
AgreeOnUsed base p n l here there = (w : ℕ) → uses base p n (begun l here) w ≡ true → here w ≡ there w
