-- Where a core and a commit have worked: loaded or stored.
use Rattle.std.specs.Prelude.{ℕ, ◌≡◌, ◌<◌, ◌≤◌, Bool, true, false, ◌==◌, ◌&&◌, ◌||◌, List, Contains}
use Rattle.tcc_base.specs.declared.access.Commit.{Commit as Noted}
use Rattle.tcc_base.specs.declared.access.Load.{Load}
use Rattle.rules_maps.specs.Words.{any_below, any_word}
use Rattle.rules_maps.specs.Shape.{Shape, home, lines}
use Rattle.rules_tcc.specs.Attempt.{is_solo}
use Rattle.rules_tcc.specs.State.{CoreState, World}
use Rattle.theorem_serial.specs.Stored.{stores_at}
use Rattle.theorem_serial.specs.Uses.{loads_word}

-- A word that an attempt loaded is marked read or modified, unless its core is alone.
abbrev pub LoadsMarked : Shape → CoreState → Type 0
LoadsMarked sh s = (w : ℕ) → is_solo s.phase ≡ false → loads_word sh.base s.loads w ≡ true → (s.cache.read w || s.cache.modified w) ≡ true

abbrev pub KeptLoads : Shape → World → Type 0
KeptLoads sh w = (c : ℕ) → LoadsMarked sh (w.cores c)

-- the loads name a word of a line that is at home at the directory
unfoldable pub loads_at : Shape → (dir : ℕ) → List Load → Bool
loads_at sh d loads = any_below (λ l. d == home sh l && any_word (loads_word sh.base loads) l) (lines sh)

-- the commit loaded or stored such a word
abbrev pub worked_at : Shape → Noted → (dir : ℕ) → Bool
worked_at sh n d = loads_at sh d n.loads || stores_at sh d n.stores

-- A directory where a commit loaded or stored has reached its TID.
abbrev pub KeptWorked : Shape → World → List Noted → Type 0
KeptWorked sh w commits = (n : Noted) (d : ℕ) → Contains commits n → d < sh.dirs → worked_at sh n d ≡ true
    → n.tid.0 ≤ (w.dirs d).serving.serving
