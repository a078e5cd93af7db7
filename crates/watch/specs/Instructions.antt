-- What an Exec or an Evict did, by the core's state before and after it.
use Rattle.std.specs.Prelude.{ℕ, List, [], ◌∷◌, Option, Some, None}
use Rattle.tcc_base.specs.declared.access.Load.{Load}
use Rattle.tcc_base.specs.declared.access.Stored.{Stored as NotedStore}
use Rattle.tcc_base.specs.declared.access.Size.TheVariants.{Word}
use Rattle.rules_program.specs.Program.{Need, Nothing, Loads, Stores, Changes, Prints, Ends, Halts, Traps, Program}
use Rattle.rules_program.specs.Ram.{word_of}
use Rattle.rules_maps.specs.Words.{line_of}
use Rattle.rules_maps.specs.Shape.{Shape}
use Rattle.rules_maps.specs.Cache.{dirty_mask, modified_mask}
use Rattle.rules_tcc.specs.State.{CoreState, Awaited, Phase, Ready, Overflowing}
use Rattle.watch.specs.Facts.{Done, Plainly, Loaded, Stored, Changed, Printed, Ended, HaltedWith, TrappedWith}
use Rattle.watch.specs.Facts.{Fact, Did, Missed, Overflowed, Evicted}

-- what the attempt loaded last, and what it stored last
unfoldable pub last_loaded : List Load → ℕ
last_loaded [] = 0
last_loaded (l ∷ []) = l.value
last_loaded (l ∷ k ∷ ls) = last_loaded (k ∷ ls)

unfoldable pub last_stored : List NotedStore → ℕ
last_stored [] = 0
last_stored (s ∷ []) = s.value
last_stored (s ∷ r ∷ ss) = last_stored (r ∷ ss)

-- the instruction needed this; t is the core after it
unfoldable pub done : Need → (t : CoreState) → Done
done Nothing t = Plainly
done (Loads addr size) t = Loaded addr size (last_loaded t.loads)
done (Stores addr size value) t = Stored addr size (last_stored t.stores)
done (Changes addr changed) t = Changed addr Word (last_loaded t.loads) (last_stored t.stores)
done (Prints byte) t = Printed byte
done Ends t = Ended
done (Halts code) t = HaltedWith code
done (Traps code) t = TrappedWith code

unfoldable pub addr_of : Need → ℕ
addr_of (Loads addr size) = addr
addr_of (Stores addr size value) = addr
addr_of (Changes addr changed) = addr
addr_of _ = 0

-- the line of an address
abbrev pub line_at : Shape → (addr : ℕ) → ℕ
line_at sh addr = line_of (word_of sh.base addr)

-- the core asked to go alone, or finished the instruction
abbrev pub overflowed_or_done : Shape → Program → (core : ℕ) → (s t : CoreState) → Phase → List Fact
overflowed_or_done sh p c s t (Overflowing None) =
    Overflowed c s.local.pc (addr_of (p.need s.local)) (line_at sh (addr_of (p.need s.local))) ∷ []
overflowed_or_done sh p c s t _ = Did c s.local.pc (done (p.need s.local) t) ∷ []

-- the core asked for a line, where it awaits one now
abbrev pub missed_or_else : Shape → Program → (core : ℕ) → (s t : CoreState) → Option Awaited → List Fact
missed_or_else sh p c s t (Some a) = Missed c s.local.pc (addr_of (p.need s.local)) a.line ∷ []
missed_or_else sh p c s t None = overflowed_or_done sh p c s t t.phase

-- a core that is Ready commits, and executes nothing
abbrev pub executed_in : Shape → Program → (core : ℕ) → (s t : CoreState) → Phase → List Fact
executed_in sh p c s t (Ready tid) = []
executed_in sh p c s t _ = missed_or_else sh p c s t t.awaited

unfoldable pub executed : Shape → Program → (core : ℕ) → (before after : CoreState) → List Fact
executed sh p c s t = executed_in sh p c s t s.phase

-- the way held this line
abbrev pub evicted_line : (core : ℕ) → CoreState → Option ℕ → List Fact
evicted_line c s None = []
evicted_line c s (Some l) = Evicted c l (dirty_mask s.cache l) (modified_mask s.cache l) ∷ []

unfoldable pub evicted : (core set way : ℕ) → (before : CoreState) → List Fact
evicted c x y s = evicted_line c s (s.cache.at x y)
