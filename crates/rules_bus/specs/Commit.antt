-- Commit: memory takes what the attempt wrote, and a packet of it goes to all other cores.
use Rattle.std.specs.Prelude.{ℕ, ◌+◌, Bool, not, Option, None, unwrap_or, nat_lt, ◌==◌, ◌&&◌, if◌then◌else◌}
use Rattle.tcc_base.specs.declared.access.Commit.{Commit as Noted}
use Rattle.rules_maps.specs.Shape.{Shape, lines}
use Rattle.rules_maps.specs.Words.{put, any_below, or_else}
use Rattle.rules_tcc.specs.Attempt.{Out, is_solo}
use Rattle.rules_tcc.specs.Commit.{commit, solo_commit, is_written}
use Rattle.rules_tcc.specs.State.{CoreState}
use Rattle.rules_bus.specs.State.{Bus, Free, Packet, BusWorld}

-- the state after an event, and the commit that it noted
pub record BusStepped : Type 0 where
  pub world : BusWorld
  pub noted : Option Noted

-- the words that an attempt wrote, with their values
unfoldable pub written_words : CoreState → (word : ℕ) → Option ℕ
written_words s w = or_else (s.spilled w) (if s.cache.modified w then s.cache.value w else None)

-- memory with these words
unfoldable pub with_words : (ℕ → Option ℕ) → (ram : ℕ → ℕ) → ℕ → ℕ
with_words f ram w = unwrap_or (f w) (ram w)

unfoldable pub wrote_some : Shape → CoreState → Bool
wrote_some sh s = any_below (is_written s.cache s.spilled) (lines sh)

-- no word is dirty: memory has them all
unfoldable pub all_clean : CoreState → CoreState
all_clean s = record s { cache = record s.cache { dirty = λ w. None } }

-- what the core does and notes, as in the directory machine
abbrev pub commit_out : Shape → (core tid : ℕ) → CoreState → Out
commit_out sh c t s = if is_solo s.phase then solo_commit sh c t s else commit sh c t s

-- all cores but this one
abbrev pub others : Shape → (core : ℕ) → ℕ → Bool
others sh c j = nat_lt j sh.cores && not (j == c)

-- the packet; none where nothing was written or nobody is to take it
abbrev pub packet : Shape → (core : ℕ) → CoreState → Bus
packet sh c s = if wrote_some sh s && any_below (others sh c) sh.cores then Packet (written_words s) (others sh c) else Free

-- the commit of a core whose attempt stands like this
unfoldable pub bus_commit : Shape → BusWorld → (core : ℕ) → CoreState → BusStepped
bus_commit sh w c s = record {
  world = record {
    cores = put w.cores c (all_clean (commit_out sh c w.next s).core);
    ram = with_words (written_words s) w.ram;
    next = w.next + 1;
    bus = packet sh c s;
  };
  noted = (commit_out sh c w.next s).commit;
}
