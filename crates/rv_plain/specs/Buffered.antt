-- An attempt whose stores wait in a write buffer: a load takes the word from the buffer, else from RAM.
use Rattle.std.specs.Prelude.{ℕ, List, [], ◌∷◌, ◌++◌, Option, Some, None}
use Rattle.tcc_base.specs.Put.{put}
use Rattle.tcc_base.specs.declared.access.Load.{Load}
use Rattle.tcc_base.specs.declared.access.Size.{Size}
use Rattle.tcc_base.specs.declared.access.Size.TheVariants.{Word}
use Rattle.tcc_base.specs.declared.access.Stored.{Stored}
use Rattle.rules_program.specs.Plain.{Attempt, Outcome, Ended, Halted, Trapped, load_of, store_of}
use Rattle.rules_program.specs.Program.{Local, unreserved, Need, Nothing, Loads, Stores, Changes, Prints, Ends, Halts, Traps, Program}
use Rattle.rules_program.specs.Ram.{word_of, loaded, patched}

abbrev pub or_else : Option ℕ → ℕ → ℕ
or_else None v = v
or_else (Some b) v = b

-- the memory as the core sees it
unfoldable pub seen : (ram : ℕ → ℕ) → (buffer : ℕ → Option ℕ) → ℕ → ℕ
seen ram buffer w = or_else (buffer w) (ram w)

pub record Buffered : Type 0 where
  pub local : Local
  pub ram : ℕ → ℕ
  pub buffer : ℕ → Option ℕ
  pub loads : List Load
  pub stores : List Stored
  pub console : List ℕ
  pub outcome : Outcome

-- a value goes into the buffer
abbrev pub kept : (base : ℕ) → Buffered → (addr : ℕ) → Size → (value : ℕ) → ℕ → Option ℕ
kept base b addr size value =
    put b.buffer (word_of base addr) (Some (patched (seen b.ram b.buffer (word_of base addr)) addr size value))

-- one instruction that needs this
abbrev pub buffered : (base : ℕ) → Program → Buffered → Need → Buffered
buffered base p b Nothing = record b { local = p.after b.local None }
buffered base p b (Loads addr size) =
    let value = loaded base (seen b.ram b.buffer) addr size in
    record b { local = p.after b.local (Some value); loads = b.loads ++ load_of addr size value ∷ [] }
buffered base p b (Stores addr size value) =
    record b {
      local = p.after b.local None;
      buffer = kept base b addr size value;
      stores = b.stores ++ store_of addr size value ∷ [];
    }
buffered base p b (Changes addr changed) =
    let value = loaded base (seen b.ram b.buffer) addr Word in
    record b {
      local = p.after b.local (Some value);
      buffer = kept base b addr Word (changed value);
      loads = b.loads ++ load_of addr Word value ∷ [];
      stores = b.stores ++ store_of addr Word (changed value) ∷ [];
    }
buffered base p b (Prints byte) = record b { local = p.after b.local None; console = b.console ++ byte ∷ [] }
buffered base p b Ends = record b { local = unreserved (p.after b.local None); outcome = Ended }
buffered base p b (Halts code) = record b { local = unreserved b.local; outcome = Halted code }
buffered base p b (Traps code) = record b { local = unreserved b.local; outcome = Trapped code }

unfoldable pub buffered_step : (base : ℕ) → Program → Buffered → Buffered
buffered_step base p b = buffered base p b (p.need b.local)

-- the attempt of a machine whose memory is the one that the core sees
unfoldable pub plain_view : Buffered → Attempt
plain_view b = record {
  local = b.local;
  ram = seen b.ram b.buffer;
  loads = b.loads;
  stores = b.stores;
  console = b.console;
  outcome = b.outcome;
}
