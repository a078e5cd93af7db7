-- The records of a core, in their order. What is as in an untouched machine has none, but for the core itself and its checkpoint's pc.
use Rattle.std.specs.Prelude.{ℕ, ◌+◌, ◌*◌, List, [], ◌∷◌, ◌++◌, Option, Some, None, is_some, unwrap_or, ◌==◌, if◌then◌else◌}
use Rattle.std.specs.List.{flat_map}
use Rattle.rules_program.specs.Plain.{Outcome, Goes}
use Rattle.rules_program.specs.Registers.{register}
use Rattle.rules_maps.specs.Cache.{Cache, dirty_mask, dirty_tag, modified_mask}
use Rattle.rules_maps.specs.Masks.{mask_of}
use Rattle.rules_maps.specs.Shape.{Shape, lines}
use Rattle.rules_maps.specs.Words.{eight, those, word_at}
use Rattle.rules_tcc.specs.Seen.{numbers}
use Rattle.rules_tcc.specs.State.{Awaited, CoreState}
use Rattle.watch_state.specs.Records.{Frame, Record, CoreIs, Reserved, EndedBy, AwaitsLine, OwedBy, CommittedAt, Register, SavedPc}
use Rattle.watch_state.specs.Records.{SavedRegister, Holds, Spilled}

abbrev pub reserved_record : (core : ℕ) → Option ℕ → List Record
reserved_record c None = []
reserved_record c (Some addr) = Reserved c addr ∷ []

abbrev pub ended_record : (core : ℕ) → Outcome → List Record
ended_record c Goes = []
ended_record c o = EndedBy c o ∷ []

abbrev pub awaited_record : (core : ℕ) → Option Awaited → List Record
awaited_record c None = []
awaited_record c (Some a) = AwaitsLine c a.line a.stale ∷ []

abbrev pub owed_record : (core : ℕ) → (dirs : List ℕ) → List Record
owed_record c [] = []
owed_record c (d ∷ ds) = OwedBy c (d ∷ ds) ∷ []

-- the directories where the core has committed; TIDs begin at 1
unfoldable pub committed_record : (core : ℕ) → (last_commit : ℕ → ℕ) → (dir : ℕ) → List Record
committed_record c last d = if last d == 0 then [] else CommittedAt c d (last d) ∷ []

-- registers that aren't 0
unfoldable pub register_record : (core : ℕ) → (regs : List ℕ) → (number : ℕ) → List Record
register_record c regs r = if register regs r == 0 then [] else Register c r (register regs r) ∷ []

unfoldable pub saved_record : (core : ℕ) → (regs : List ℕ) → (number : ℕ) → List Record
saved_record c regs r = if register regs r == 0 then [] else SavedRegister c r (register regs r) ∷ []

-- the frame of a line
unfoldable pub frame_of : Cache → (line : ℕ) → Frame
frame_of c l = record {
  line = l;
  valid = mask_of (λ k. is_some (c.value (word_at l k)));
  read = mask_of (λ k. c.read (word_at l k));
  modified = modified_mask c l;
  dirty = dirty_mask c l;
  tag = dirty_tag c l;
  words = eight (λ k. unwrap_or (c.value (word_at l k)) 0);
}

abbrev pub held_record : (core set way : ℕ) → Cache → (line : Option ℕ) → List Record
held_record c x y cache None = []
held_record c x y cache (Some l) = Holds c x y (frame_of cache l) ∷ []

unfoldable pub way_record : (core : ℕ) → Cache → (set way : ℕ) → List Record
way_record c cache x y = held_record c x y cache (cache.at x y)

unfoldable pub set_records : (core ways : ℕ) → Cache → (set : ℕ) → List Record
set_records c ways cache x = flat_map (way_record c cache x) (numbers ways)

-- the address of a word
abbrev pub addr_of : Shape → (word : ℕ) → ℕ
addr_of sh w = sh.base + 4 * w

abbrev pub spilled_record : (core addr : ℕ) → Option ℕ → List Record
spilled_record c addr None = []
spilled_record c addr (Some value) = Spilled c addr value ∷ []

unfoldable pub spilled_word : Shape → (core : ℕ) → (spilled : ℕ → Option ℕ) → (word : ℕ) → List Record
spilled_word sh c sp w = spilled_record c (addr_of sh w) (sp w)

unfoldable pub spilled_records : Shape → (core : ℕ) → (spilled : ℕ → Option ℕ) → (line : ℕ) → List Record
spilled_records sh c sp l = flat_map (λ k. spilled_word sh c sp (word_at l k)) (numbers 8)

-- what the attempt has come to
unfoldable pub attempt_records : Shape → (core : ℕ) → CoreState → List Record
attempt_records sh c s =
    CoreIs c s.n s.local.pc s.phase ∷ reserved_record c s.local.reserved
    ++ (ended_record c s.ended ++ (awaited_record c s.awaited ++ (owed_record c (those s.owing sh.dirs)
    ++ flat_map (committed_record c s.last_commit) (numbers sh.dirs))))

-- its registers, and those of the checkpoint
unfoldable pub register_records : (core : ℕ) → CoreState → List Record
register_records c s =
    flat_map (register_record c s.local.regs) (numbers 32)
    ++ SavedPc c s.saved.pc ∷ flat_map (saved_record c s.saved.regs) (numbers 32)

-- its cache, and what was spilled
unfoldable pub cached_records : Shape → (core : ℕ) → CoreState → List Record
cached_records sh c s =
    flat_map (set_records c sh.ways s.cache) (numbers sh.sets) ++ flat_map (spilled_records sh c s.spilled) (numbers (lines sh))

unfoldable pub core_records : Shape → (core : ℕ) → CoreState → List Record
core_records sh c s = attempt_records sh c s ++ (register_records c s ++ cached_records sh c s)

-- the same with the frames of some sets alone
unfoldable pub core_part : Shape → (core : ℕ) → (sets : List ℕ) → CoreState → List Record
core_part sh c sets s =
    attempt_records sh c s
    ++ (register_records c s
    ++ (flat_map (set_records c sh.ways s.cache) sets ++ flat_map (spilled_records sh c s.spilled) (numbers (lines sh))))
