-- A core's attempt at its transaction: what an instruction leaves in it, how it is given up and how it begins anew.
use Rattle.std.specs.Prelude.{ℕ, ◌+◌, Bool, true, false, [], ◌∷◌, ◌++◌, Option, Some, None}
use Rattle.tcc_base.specs.declared.access.Commit.{Commit as Noted}
use Rattle.tcc_base.specs.declared.access.Size.TheVariants.{Word}
use Rattle.rules_program.specs.Program.{unreserved, Need, Nothing, Loads, Stores, Changes, Prints, Ends, Halts, Traps, Program}
use Rattle.rules_program.specs.Plain.{Goes, Ended, Halted as HaltedWith, Trapped as TrappedWith, load_of, store_of}
use Rattle.rules_program.specs.Ram.{part, patched}
use Rattle.rules_maps.specs.CacheChange.{rolled_back}
use Rattle.rules_tcc.specs.State.{CoreState, Phase, Running, Solo}
use Rattle.rules_tcc.specs.Sends.{Sends}

-- what a core's event leaves, sends and notes
pub record Out : Type 0 where
  pub core : CoreState
  pub sends : Sends
  pub commit : Option Noted

abbrev pub moves : CoreState → Sends → Out
moves s sends = record { core = s; sends = sends; commit = None }

-- the phase is Solo
abbrev pub is_solo : Phase → Bool
is_solo (Solo t) = true
is_solo _ = false

abbrev pub is_running : Phase → Bool
is_running Running = true
is_running _ = false

-- the word that a store leaves, from the word that it found: a whole word replaces it, a part is put into it, and
-- a change makes the new word from the old one
abbrev pub new_word : Need → ℕ → ℕ
new_word (Stores addr Word value) x = value
new_word (Stores addr size value) x = patched x addr size value
new_word (Changes addr changed) x = patched x addr Word (changed (part x addr Word))
new_word _ x = x

-- one more instruction, with the loaded bytes where there are any
unfoldable pub one_more_instruction : Program → Option ℕ → CoreState → CoreState
one_more_instruction p given s = record s { n = s.n + 1; local = p.after s.local given }

-- Finish: the instruction that needed this is done, x being the word that it found, where it looked for one. It is
-- counted, its load and store are noted, and where it doesn't halt the core, registers and pc advance. An end leaves no
-- reservation.
unfoldable pub finished : Program → Need → (x : ℕ) → CoreState → CoreState
finished p Nothing x s = one_more_instruction p None s
finished p (Loads addr size) x s =
    record (one_more_instruction p (Some (part x addr size)) s) { loads = s.loads ++ load_of addr size (part x addr size) ∷ [] }
finished p (Stores addr size value) x s = record (one_more_instruction p None s) { stores = s.stores ++ store_of addr size value ∷ [] }
finished p (Changes addr changed) x s = record (one_more_instruction p (Some (part x addr Word)) s) {
  loads = s.loads ++ load_of addr Word (part x addr Word) ∷ [];
  stores = s.stores ++ store_of addr Word (changed (part x addr Word)) ∷ [];
}
finished p (Prints byte) x s = record (one_more_instruction p None s) { console = s.console ++ byte ∷ [] }
finished p Ends x s = record (one_more_instruction p None s) { local = unreserved (p.after s.local None); ended = Ended }
finished p (Halts code) x s = record s { n = s.n + 1; local = unreserved s.local; ended = HaltedWith code }
finished p (Traps code) x s = record s { n = s.n + 1; local = unreserved s.local; ended = TrappedWith code }

-- Roll back: modified words become invalid, marks are cleared, registers and pc come from the checkpoint, the attempt
-- is empty and no directory owes a reply. An awaited line stays awaited.
unfoldable pub roll_back : CoreState → CoreState
roll_back s = record s {
  cache = rolled_back s.cache;
  local = s.saved;
  n = 0;
  loads = [];
  stores = [];
  console = [];
  ended = Goes;
  owing = λ d. false;
}
