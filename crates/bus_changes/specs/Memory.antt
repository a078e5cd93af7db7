-- Words of memory that are compared, and kept.
use Rattle.std.specs.Prelude.{ℕ, ◌≡◌, ◌<◌, ◌*◌, ◌^◌, ◌==◌, ◌||◌, ◌++◌, Bool, false, List, [], ◌∷◌, get_or, length, if◌then◌else◌}
use Rattle.image_load.specs.Start.{first_ram}
use Rattle.tcc_base.specs.declared.access.Tagged.{Tagged}
use Rattle.rules_maps.specs.Shape.{Shape, lines}
use Rattle.rules_maps.specs.Words.{those}
use Rattle.rules_bus.specs.State.{BusWorld}
use Rattle.bus_tcc.specs.Machine.{BusMachine, bus_settings_of, bus_start_of, bus_world_of, word_in}
use Rattle.bus_changes.specs.Changes.{bus_change_lines, memory_changes}
use Rattle.bus_changes.specs.Following.{may_change}

abbrev pub number_of_line : Tagged → ℕ
number_of_line t = t.line.0

-- the lines of a machine that the last event may have changed, where it committed
abbrev pub may_have_changed : BusMachine → List ℕ
may_have_changed m = those (may_change (bus_settings_of m) (bus_world_of m).bus) (lines (bus_settings_of m))

unfoldable pub is_among : ℕ → List ℕ → Bool
is_among k [] = false
is_among k (x ∷ xs) = k == x || is_among k xs

-- all of them are lines of memory, whose numbers are small
abbrev pub AreInMemory : Shape → List ℕ → Type 0
AreInMemory sh xs = (i d : ℕ) → i < length xs → (get_or xs i d < lines sh) × (get_or xs i d < 2 ^ 29)

-- the words that have this property are as they are now, the others as they were
abbrev pub AreTaken : (taken : ℕ → Bool) → (old new now : ℕ → ℕ) → Type 0
AreTaken p f g h = (x : ℕ) → g x ≡ (if p x then h x else f x)

-- a copy of memory of so many lines
pub record IsCopy (n : ℕ) (ram : ℕ → ℕ) (ws : List ℕ) : Type 0 where
  pub count : length ws ≡ 8 * n
  pub words : (x : ℕ) → x < 8 * n → word_in ws x ≡ ram x

-- what changed of memory since this state stands behind the text, and memory is kept as it is now
pub record IsRenewed (m : BusMachine) (w : BusWorld) (ws : List ℕ) (before after : List ℕ) : Type 0 where
  pub told : after
      ≡ before ++ bus_change_lines (memory_changes (bus_settings_of m) (first_ram (bus_start_of m)) w.ram (bus_world_of m).ram)
  pub kept : IsCopy (lines (bus_settings_of m)) (bus_world_of m).ram ws
