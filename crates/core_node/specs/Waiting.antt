-- The set in which a core waits for room, from what its cache answers.
use Rattle.std.specs.Prelude.{ℕ, Bool, true, false, Option, Some, None, if◌then◌else◌}
use Rattle.rules_maps.specs.CacheLook.{Look, Hit, Miss, NeedsRoom, Overflow}

-- a full set with an unmarked way is waited for, one without by a core that is alone
abbrev pub room_after : Look → (alone : Bool) → Option ℕ
room_after (Hit value) alone = None
room_after Miss alone = None
room_after (NeedsRoom set) alone = Some set
room_after (Overflow set) alone = if alone then Some set else None

-- the set is full of marked lines
abbrev pub is_full : Look → Bool
is_full (Hit value) = false
is_full Miss = false
is_full (NeedsRoom set) = false
is_full (Overflow set) = true

-- the line has a frame or may have one
abbrev pub has_way : Look → Bool
has_way (Hit value) = true
has_way Miss = true
has_way (NeedsRoom set) = false
has_way (Overflow set) = false
