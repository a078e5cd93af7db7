-- What a core's commit leaves, notes and writes.
use Rattle.std.specs.Prelude.{ℕ, ◌≡◌, ◌<◌, ◌/◌, ◌==◌, true, not, length, Some, None, is_some}
use Rattle.rules_maps.specs.Shape.{Shape, lines}
use Rattle.rules_maps.specs.Words.{line_of}
use Rattle.rules_tcc.specs.State.{CoreState}
use Rattle.rules_bus.specs.Commit.{commit_out, wrote_some, written_words}
use Rattle.core_node.specs.AtHand.{words_in}
use Rattle.bus_tcc.specs.Packets.{AreInOrder}
use Rattle.bus_tcc.specs.Storing.{AreInside}
use Rattle.bus_tcc.specs.declared.commit.Written.{Written}

-- a core whose attempt can go to memory: no word is dirty, modified words are valid, and what it wrote is of memory
pub record CanCommit (sh : Shape) (s : CoreState) : Type 0 where
  pub clean : (x : ℕ) → s.cache.dirty x ≡ None
  pub valid : (x : ℕ) → s.cache.modified x ≡ true → is_some (s.cache.value x) ≡ true
  pub inside : (x : ℕ) → is_some (written_words s x) ≡ true → line_of x < lines sh

-- what was noted, and the lines that were written
pub record IsCommitOf (sh : Shape) (core tid : ℕ) (s : CoreState) (w : Written) : Type 0 where
  pub noted : Some w.commit ≡ (commit_out sh core tid s).commit
  pub words : words_in w.lines ≡ written_words s
  pub inside : AreInside (sh.ram / 4) w.lines
  pub empty : (length w.lines == 0) ≡ not (wrote_some sh s)
  pub order : AreInOrder sh w.lines
