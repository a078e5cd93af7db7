-- A core's attempt is what the plain machine does from the checkpoint, over any memory that agrees with the words that the
-- attempt used: a fact of the core by itself, whatever messages come.
use Rattle.std.specs.Prelude.{ℕ, ◌<◌, ◌≡◌, ◌%◌, ◌^◌, Bool, true, false, cond, List, [], ◌∷◌, Option, Some, None, IsSomeAnd, is_some}
use Rattle.std.specs.Prelude.{unwrap_or}
use Rattle.tcc_base.specs.Bytes.{bytes_of}
use Rattle.tcc_base.specs.declared.access.Size.TheVariants.{Byte, Half, Word}
use Rattle.rules_program.specs.Plain.{Attempt, Outcome, Goes, begun, end_of, steps}
use Rattle.rules_program.specs.Program.{Local, Need, Nothing, Loads, Stores, Changes, Prints, Ends, Halts, Traps, Program}
use Rattle.rules_program.specs.Ram.{word_of}
use Rattle.rules_maps.specs.Shape.{Shape}
use Rattle.rules_tcc.specs.State.{CoreState, Phase, Running, AwaitTid, DoomedTid, Probing, Ready, Overflowing, Solo, Halted}

-- an access lies at a multiple of its size, and what is stored fits it
abbrev pub NeedFits : Need → Type 0
NeedFits (Loads addr size) = addr % bytes_of size ≡ 0
NeedFits (Stores addr size value) = (addr % bytes_of size ≡ 0) × (value < 256 ^ bytes_of size)
NeedFits (Changes addr changed) = addr % 4 ≡ 0
NeedFits Nothing = Unit {0}
NeedFits (Prints byte) = Unit {0}
NeedFits Ends = Unit {0}
NeedFits (Halts code) = Unit {0}
NeedFits (Traps code) = Unit {0}

abbrev pub Fits : Program → Type 0
Fits p = (l : Local) → NeedFits (p.need l)

-- words that an attempt used before it had stored them, in the order of the uses, each with the value that it had
abbrev pub Uses : Type 0
Uses = List (ℕ × ℕ)

-- a memory of 32-bit words that has these values
abbrev pub Agrees : Uses → (ℕ → ℕ) → Type 0
Agrees [] ram = Unit {0}
Agrees (u ∷ us) ram = (ram u.0 ≡ u.1) × Agrees us ram

abbrev pub IsSmall : (ℕ → ℕ) → Type 0
IsSmall ram = (w : ℕ) → ram w < 2 ^ 32

-- a word as the attempt sees it over a memory: spilled, else modified, else as the memory has it
unfoldable pub sees : CoreState → (ℕ → ℕ) → ℕ → ℕ
sees s ram w = unwrap_or (s.spilled w) (cond (s.cache.modified w) (unwrap_or (s.cache.value w) 0) (ram w))

-- the plain machine has come where the core stands
pub record Reaches (s : CoreState) (ram : ℕ → ℕ) (a : Attempt) : Type 0 where
  pub local : a.local ≡ s.local
  pub loads : a.loads ≡ s.loads
  pub stores : a.stores ≡ s.stores
  pub console : a.console ≡ s.console
  pub outcome : a.outcome ≡ s.ended
  pub words : (w : ℕ) → a.ram w ≡ sees s ram w
  pub small : IsSmall a.ram

-- how an attempt stands in each phase: on its way, ended, or none
abbrev pub HasEnded : Outcome → Type 0
HasEnded o = is_some (end_of o) ≡ true

abbrev pub EndFits : Phase → Outcome → Type 0
EndFits Running o = o ≡ Goes
EndFits DoomedTid o = o ≡ Goes
EndFits (Overflowing t) o = o ≡ Goes
EndFits (Solo t) o = o ≡ Goes
EndFits AwaitTid o = HasEnded o
EndFits (Probing t) o = HasEnded o
EndFits (Ready t) o = HasEnded o
EndFits Halted o = HasEnded o

-- a halted core has no attempt
abbrev pub FollowsIn : Shape → Program → CoreState → Uses → Phase → Type 0
FollowsIn sh p s us Halted = Unit {0}
FollowsIn sh p s us _ = (ram : ℕ → ℕ) → IsSmall ram → Agrees us ram → IsSomeAnd (steps sh.base p s.n (begun s.saved ram)) (Reaches s ram)

pub record Follows (sh : Shape) (p : Program) (s : CoreState) (us : Uses) : Type 0 where
  pub ends : EndFits s.phase s.ended
  pub steps : FollowsIn sh p s us s.phase

-- the word that an instruction finds where it takes an old word from a frame: a use, unless the attempt has stored it
abbrev pub used_in : (word : ℕ) → (spilled : Option ℕ) → (modified : Bool) → (value : Option ℕ) → Uses
used_in w (Some x) m v = []
used_in w None true v = []
used_in w None false None = []
used_in w None false (Some x) = (w, x) ∷ []

abbrev pub used_at : CoreState → (word : ℕ) → Uses
used_at s w = used_in w (s.spilled w) (s.cache.modified w) (s.cache.value w)

-- what the next Exec uses, in Running and Solo
abbrev pub used_by : (base : ℕ) → CoreState → Need → Uses
used_by base s (Loads addr size) = used_at s (word_of base addr)
used_by base s (Stores addr Word value) = []
used_by base s (Stores addr Half value) = used_at s (word_of base addr)
used_by base s (Stores addr Byte value) = used_at s (word_of base addr)
used_by base s (Changes addr changed) = used_at s (word_of base addr)
used_by base s Nothing = []
used_by base s (Prints byte) = []
used_by base s Ends = []
used_by base s (Halts code) = []
used_by base s (Traps code) = []
