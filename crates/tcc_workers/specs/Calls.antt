-- What a worker calls in its turns.
use Rattle.std.specs.Prelude.{ℕ, zero, suc, ◌≡◌, ◌+◌, ◌-◌, ◌%◌, ◌<◌, ◌==◌, ◌⊎◌, min, Bool, true, false, not, if◌then◌else◌}
use Rattle.std.specs.Prelude.{List, [], ◌∷◌, ◌++◌, length, Option, Some, None}
use Rattle.rand_pcg.specs.Lcg.{Lcg}
use Rattle.apart_node.specs.declared.node.Act.{Act}
use Rattle.apart_node.specs.declared.node.Act.TheVariants.{Moved, Idle, Memory}
use Rattle.node_locks.specs.Turns.{IsTurn, after_words, moved_in, nth_word}
use Rattle.node_locks.specs.declared.acts.Acts.{Acts}
use Rattle.tcc_workers.specs.Words.{words_of}
use Rattle.tcc_workers.specs.declared.shift.Shift.{Shift}
use Rattle.tcc_workers.specs.declared.turns.Call.{Call}
use Rattle.tcc_workers.specs.declared.turns.Call.TheVariants.{Pass, Turn}

-- where all calls are told, these were made after those before
abbrev pub Made : (old new : Option (List Call)) → List Call → Type 0
Made a None cs = Unit {0}
Made None (Some ys) cs = ⊥
Made (Some xs) (Some ys) cs = ys ≡ xs ++ cs

-- n acts at a node, with the next words of this generator
unfoldable pub acts_at : (node : ℕ) → Lcg → (n : ℕ) → List Call
acts_at node g zero = []
acts_at node g (suc n) = acts_at node g n ++ Turn node (nth_word n g) ∷ []

-- ---- of turns, the last turn first

-- how many acts moved
unfoldable pub moved_by : List Acts → ℕ
moved_by [] = 0
moved_by (t ∷ before) = moved_in t + moved_by before

-- how many words were drawn: one for each act
unfoldable pub drawn_by : List Acts → ℕ
drawn_by [] = 0
drawn_by (t ∷ before) = suc t.before + drawn_by before

-- how many turns in a row moved nothing, up to the last
unfoldable pub idle_run : List Acts → ℕ
idle_run [] = 0
idle_run (t ∷ before) = if moved_in t == 0 then suc (idle_run before) else 0

-- whether an act met want of memory, and whether the last one of all did
abbrev pub is_want : Act → Bool
is_want Moved = false
is_want Idle = false
is_want Memory = true

unfoldable pub met_want : List Acts → Bool
met_want [] = false
met_want (t ∷ before) = is_want t.last

-- A worker passes the gate before turn k, and the acts of turn k are at the node (worker + k) mod nodes, with the next words of its
-- generator.
unfoldable pub calls_of : Shift → (nodes : ℕ) → List Acts → List Call
calls_of s nodes [] = []
calls_of s nodes (t ∷ before) =
    calls_of s nodes before
    ++ Pass s.worker (length before)
    ∷ acts_at ((s.worker + length before) % nodes) (after_words (drawn_by before) (words_of s.seed s.worker)) (suc t.before)

-- after these a worker that had moved so often before takes one more turn
pub record GoesOn (s : Shift) (moved : ℕ) (turns : List Acts) : Type 0 where
  pub left : moved + moved_by turns < s.until
  pub patient : idle_run turns < s.patience
  pub memory : met_want turns ≡ false

-- how many acts the next turn of a worker has at most, by how often it has moved: the batch, or as many as are left
abbrev pub most_next : Shift → (moved : ℕ) → ℕ
most_next s moved = min s.batch (s.until - moved)

-- so it was before each of these, and each went on as long as its acts moved
abbrev pub WentOn : Shift → (moved : ℕ) → List Acts → Type 0
WentOn s moved [] = Unit {0}
WentOn s moved (t ∷ before) = WentOn s moved before × GoesOn s moved before × IsTurn (most_next s (moved + moved_by before)) t

-- A worker's turns at so many nodes, up to its end. So many acts had moved before, and so many have then.
pub record TookTurns (s : Shift) (nodes : ℕ) (before after : ℕ) (old new : Option (List Call)) (ok : Bool) : Type 0 where
  pub turns : List Acts
  pub made : Made old new (calls_of s nodes turns)
  pub counted : after ≡ before + moved_by turns
  pub went_on : WentOn s before turns
  pub want : met_want turns ≡ not ok
  pub over : ok ≡ true → (after ≡ s.until) ⊎ (idle_run turns ≡ s.patience)
