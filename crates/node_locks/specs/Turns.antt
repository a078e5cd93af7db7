-- What a turn of one node is, and what is counted of it.
use Rattle.std.specs.Prelude.{ℕ, zero, suc, ◌≡◌, ◌+◌, ◌<◌, List, [], ◌∷◌, length, Some, slice_get, slice_set}
use Rattle.rand_pcg.specs.Lcg.{Lcg}
use Rattle.rand_pcg.specs.Pcg.{pcg32}
use Rattle.rules_apart.specs.declared.logs.Logged.{Logged}
use Rattle.apart_node.specs.Acts.{AnswersAct}
use Rattle.apart_node.specs.Node.{NodeData}
use Rattle.apart_node.specs.declared.node.Act.{Act}
use Rattle.apart_node.specs.declared.node.Act.TheVariants.{Moved, Idle, Memory}
use Rattle.node_locks.specs.Wiring.{NodesData}
use Rattle.node_locks.specs.declared.acts.Acts.{Acts}

-- the node at a place acted, and all else is as before
pub record ActedAt (i pick : ℕ) (old new : NodesData) (answer : Act) : Type 0 where
  pub before : NodeData
  pub after : NodeData
  pub found : slice_get old.nodes i ≡ Some before
  pub acted : AnswersAct before pick after answer
  pub left : new ≡ record old { nodes = slice_set old.nodes i after }

-- how many entries an act adds to a log
abbrev pub entries_by : Act → ℕ
entries_by Moved = 1
entries_by Idle = 0
entries_by Memory = 0

-- how many acts of a turn moved
abbrev pub moved_in : Acts → ℕ
moved_in t = t.before + entries_by t.last

-- the generator after its first n words, and word number n, from 0
unfoldable pub after_words : (n : ℕ) → Lcg → Lcg
after_words zero g = g
after_words (suc n) g = (pcg32 (after_words n g)).1

abbrev pub nth_word : (n : ℕ) → Lcg → ℕ
nth_word n g = (pcg32 (after_words n g)).0

-- A turn of so many acts at most: it ends at the first one that doesn't move, or at the last one that it may make.
pub record IsTurn (most : ℕ) (t : Acts) : Type 0 where
  pub few : t.before < most
  pub ended : suc t.before < most → entries_by t.last ≡ 0

-- the node acted n times and moved each time, with the next words of this generator
unfoldable pub MovedOn : (old : NodeData) → Lcg → (n : ℕ) → (new : NodeData) → Type 0
MovedOn old g zero new = new ≡ old
MovedOn old g (suc n) new = (mid : NodeData) × (MovedOn old g n mid × AnswersAct mid (nth_word n g) new Moved)

-- the acts of a turn, each with the next word
pub record ActedOn (old : NodeData) (g : Lcg) (new : NodeData) (t : Acts) : Type 0 where
  pub mid : NodeData
  pub moved : MovedOn old g t.before mid
  pub last : AnswersAct mid (nth_word t.before g) new t.last

-- how many entries are in all these logs
unfoldable pub entries_in : List (List Logged) → ℕ
entries_in [] = 0
entries_in (log ∷ logs) = length log + entries_in logs
