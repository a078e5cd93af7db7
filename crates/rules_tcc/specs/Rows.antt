-- Two images on two cores, and what is reported of a schedule of theirs: for the schedules that were worked by hand.
use Rattle.std.specs.Prelude.{ℕ, ◌+◌, ◌*◌, List, [], ◌∷◌, ◌++◌, map, slice_index, Option, Some, None, option_map, ◌==◌, if◌then◌else◌}
use Rattle.tcc_base.specs.declared.access.Commit.{Commit as Noted}
use Rattle.tcc_base.specs.declared.access.Load.{Load}
use Rattle.rules_program.specs.Program.{Local}
use Rattle.rules_program.specs.Ram.{flat}
use Rattle.rules_maps.specs.Nodes.{Node, Core, Dir, Vendor, Event, Exec, Evict, Deliver}
use Rattle.rules_maps.specs.Shape.{Shape}
use Rattle.rules_tcc.specs.State.{start}
use Rattle.rules_tcc.specs.Step.{History, run}
use Rattle.rules_tcc.specs.Seen.{seen, numbers}
use Rattle.rules_tcc.specs.Small.{Inst, Lui, Lw, Sw, Bne, Ebreak, Ecall, small, image_entry, image_base}

-- as in a schedule's text: d c0 v 0 is a delivery of message 0 from core 0 to the vendor
abbrev pub e : ℕ → Event
e = Exec

abbrev pub x : ℕ → ℕ → ℕ → Event
x = Evict

abbrev pub d : Node → Node → ℕ → Event
d = Deliver

abbrev pub c0 : Node
c0 = Core 0

abbrev pub c1 : Node
c1 = Core 1

abbrev pub d0 : Node
d0 = Dir 0

abbrev pub d1 : Node
d1 = Dir 1

abbrev pub v : Node
v = Vendor

-- two cores, 16 sets of two ways; 512 bytes of RAM are enough for these
abbrev pub two_cores : (dirs : ℕ) → Shape
two_cores n = record { cores = 2; dirs = n; sets = 16; ways = 2; base = image_base; ram = 512 }

-- caches of a single frame
abbrev pub small_machine : Shape
small_machine = record { cores = 2; dirs = 2; sets = 1; ways = 1; base = image_base; ram = 512 }

-- what an image holds, its words and its instructions
pub record Image : Type 0 where
  pub words : List ℕ
  pub code : List (Option Inst)

-- lui x6; sw x11,64(x6); ecall
abbrev pub stores_first : Image
stores_first = record {
  words = 0x80000337 ∷ 0x04b32023 ∷ 0x00000073 ∷ [];
  code = Some (Lui 6 0x80000000) ∷ Some (Sw 11 6 64) ∷ Some Ecall ∷ [];
}

-- lui x6; sw x11,96(x6); ecall
abbrev pub stores_second : Image
stores_second = record {
  words = 0x80000337 ∷ 0x06b32023 ∷ 0x00000073 ∷ [];
  code = Some (Lui 6 0x80000000) ∷ Some (Sw 11 6 96) ∷ Some Ecall ∷ [];
}

-- lui x6; sw x11,64(x6); sw x11,96(x6); ecall
abbrev pub stores_both : Image
stores_both = record {
  words = 0x80000337 ∷ 0x04b32023 ∷ 0x06b32023 ∷ 0x00000073 ∷ [];
  code = Some (Lui 6 0x80000000) ∷ Some (Sw 11 6 64) ∷ Some (Sw 11 6 96) ∷ Some Ecall ∷ [];
}

-- lui x6; lw x5,96(x6); sw x5,64(x6); ecall
abbrev pub copies_word : Image
copies_word = record {
  words = 0x80000337 ∷ 0x06032283 ∷ 0x04532023 ∷ 0x00000073 ∷ [];
  code = Some (Lui 6 0x80000000) ∷ Some (Lw 5 6 96) ∷ Some (Sw 5 6 64) ∷ Some Ecall ∷ [];
}

-- lui x6; lw x5,96(x6); sw x11,64(x6); ecall
abbrev pub loads_then_stores : Image
loads_then_stores = record {
  words = 0x80000337 ∷ 0x06032283 ∷ 0x04b32023 ∷ 0x00000073 ∷ [];
  code = Some (Lui 6 0x80000000) ∷ Some (Lw 5 6 96) ∷ Some (Sw 11 6 64) ∷ Some Ecall ∷ [];
}

-- lui x6; lw x5,96(x6); bne x5,x0,8; ebreak; ecall
abbrev pub breaks_at_zero : Image
breaks_at_zero = record {
  words = 0x80000337 ∷ 0x06032283 ∷ 0x00029463 ∷ 0x00100073 ∷ 0x00000073 ∷ [];
  code = Some (Lui 6 0x80000000) ∷ Some (Lw 5 6 96) ∷ Some (Bne 5 0 8) ∷ Some Ebreak ∷ Some Ecall ∷ [];
}

-- lui x6; sw x6,128(x6); ecall
abbrev pub stores_base : Image
stores_base = record {
  words = 0x80000337 ∷ 0x08632023 ∷ 0x00000073 ∷ [];
  code = Some (Lui 6 0x80000000) ∷ Some (Sw 6 6 128) ∷ Some Ecall ∷ [];
}

-- lui x6; sw x11 into each of the eight words from 128(x6) on; ecall. It takes ten words, so two lines
abbrev pub stores_line : Image
stores_line = record {
  words = 0x80000337 ∷ 0x08b32023 ∷ 0x08b32223 ∷ 0x08b32423 ∷ 0x08b32623 ∷ 0x08b32823 ∷ 0x08b32a23 ∷ 0x08b32c23 ∷ 0x08b32e23 ∷ 0x00000073
      ∷ [];
  code = Some (Lui 6 0x80000000) ∷ Some (Sw 11 6 128) ∷ Some (Sw 11 6 132) ∷ Some (Sw 11 6 136) ∷ Some (Sw 11 6 140) ∷ Some
      (Sw 11 6 144) ∷ Some (Sw 11 6 148) ∷ Some (Sw 11 6 152) ∷ Some (Sw 11 6 156) ∷ Some Ecall ∷ [];
}

-- the first image's line is filled up, since each image begins a line
unfoldable pub padded : {A : Type 0} → A → ℕ → List A → List A
padded a ℕ.zero xs = xs
padded a (ℕ.suc n) [] = a ∷ padded a n []
padded a (ℕ.suc n) (x ∷ xs) = x ∷ padded a n xs

unfoldable pub both_words : Image → Image → List ℕ
both_words a b = padded 0 8 a.words ++ b.words

unfoldable pub both_code : Image → Image → List (Option Inst)
both_code a b = padded None 8 a.code ++ b.code

abbrev pub entries : ℕ → Local
entries c = image_entry c 2 (image_base + 32 * c)

-- what is reported of a committed transaction: its TID, core, length and loads (address and value)
pub record ReportedCommit : Type 0 where
  pub tid : ℕ
  pub core : ℕ
  pub n : ℕ
  pub loads : List (ℕ × ℕ)

abbrev pub reported_commit : Noted → ReportedCommit
reported_commit c = record { tid = c.tid.0; core = c.core.0; n = c.n; loads = map (λ (l : Load). (l.addr, l.value)) c.loads }

-- a register or a word and its value
abbrev pub Pairs : Type 0
Pairs = List (ℕ × ℕ)

-- those that aren't as they were
unfoldable pub changed : (ℕ → ℕ) → (ℕ → ℕ) → List ℕ → Pairs
changed old new [] = []
changed old new (k ∷ ks) = if old k == new k then changed old new ks else (k, new k) ∷ changed old new ks

-- a core's committed pc and registers that aren't zero
pub record ReportedCore : Type 0 where
  pub pc : ℕ
  pub regs : Pairs

abbrev pub reported_core : Local → ReportedCore
reported_core s = record { pc = s.pc; regs = changed (λ r. 0) (slice_index s.regs) (numbers 32) }

pub record Report : Type 0 where
  pub commits : List ReportedCommit
  pub first : ReportedCore
  pub second : ReportedCore
  pub words : Pairs  -- the words that are not as they were loaded, and what is seen there

unfoldable pub report : Shape → (ram : ℕ → ℕ) → History → Report
report sh ram h = record {
  commits = map reported_commit h.commits;
  first = reported_core (h.world.cores 0).saved;
  second = reported_core (h.world.cores 1).saved;
  words = changed ram (seen sh h.world) (numbers 48);
}

-- the report after these events, where each was enabled
unfoldable pub replayed : Shape → Image → Image → List Event → Option Report
replayed sh a b es = option_map
    (report sh (flat (both_words a b)))
    (run sh (small (both_code a b)) (start entries (flat (both_words a b))) es)
