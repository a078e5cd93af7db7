-- What a way holds that counts: a line with modified words at home at a directory, dirty words, or words that leave it where
-- it is emptied with use.
use Rattle.std.specs.Prelude.{ℕ, ◌%◌, Bool, false, not, ◌==◌, ◌&&◌, ◌||◌, nat_lt, Option, Some, None, is_some, if◌then◌else◌}
use Rattle.std.specs.Option.{option_map}
use Rattle.tcc_base.specs.declared.names.LineAddr.{LineAddr}
use Rattle.rules_maps.specs.CacheUse.{Wants, is_number}
use Rattle.spec_cache.specs.declared.frame.FrameView.{FrameView}
use Rattle.spec_cache.specs.declared.useful.Wants.{Wants as CodeWants}
use Rattle.spec_cache.specs.Home.{written_in}

abbrev pub line_number : LineAddr → ℕ
line_number l = l.0

abbrev pub wants_of : CodeWants → Wants
wants_of q = record { alone = q.alone; awaited = option_map line_number q.awaited; room = q.room }

-- a line at home there has a frame here with a modified word
abbrev pub writes_in : ℕ → ℕ → Option FrameView → Bool
writes_in dirs d o = is_some (written_in dirs d o)

-- the way holds a frame with a dirty word
unfoldable pub dirty_way : Option FrameView → Bool
dirty_way None = false
dirty_way (Some f) = not (f.dirty.0 == 0)

-- a word of the frame is marked; words leave it where it is emptied
abbrev pub is_marked_frame : FrameView → Bool
is_marked_frame f = not (f.read.0 == 0 && f.modified.0 == 0)

abbrev pub is_written_frame : FrameView → Bool
is_written_frame f = not (f.modified.0 == 0 && f.dirty.0 == 0)

-- the way, of this set, may be emptied with use
unfoldable pub useful_in : Wants → ℕ → Option FrameView → Bool
useful_in q s None = false
useful_in q s (Some f) =
    not (is_number q.awaited f.line.0 || (not q.alone && is_marked_frame f)) && (is_written_frame f || is_number q.room s)

-- ---- the sets where what is wanted counts

abbrev pub set_below : ℕ → Option ℕ → Option ℕ
set_below sets None = None
set_below sets (Some s) = if nat_lt s sets then Some s else None

abbrev pub other_set : Option ℕ → Option ℕ → Option ℕ
other_set first None = None
other_set first (Some s) = if is_number first s then None else Some s

-- the set of the line that is awaited
abbrev pub awaited_set : ℕ → Wants → Option ℕ
awaited_set sets q = option_map (λ l. l % sets) q.awaited

-- the set where room is wanted, where it exists
abbrev pub room_set : ℕ → Wants → Option ℕ
room_set sets q = set_below sets q.room

-- the set of the line that is awaited, where no room is wanted there
abbrev pub line_set : ℕ → Wants → Option ℕ
line_set sets q = other_set (room_set sets q) (awaited_set sets q)

-- the number of a set, where there is one
abbrev pub in_set : (ℕ → ℕ) → Option ℕ → ℕ
in_set f None = 0
in_set f (Some s) = f s
