-- The part of a node's records that an event may change.
use Rattle.std.specs.Prelude.{ℕ, Bool, true, false, ◌==◌, ◌||◌, List, [], ◌∷◌, Option, Some, None, if◌then◌else◌}
use Rattle.rules_program.specs.Program.{Need, Nothing, Loads, Stores, Changes, Prints, Ends, Halts, Traps, Program}
use Rattle.rules_program.specs.Ram.{word_of}
use Rattle.rules_maps.specs.Cache.{Cache}
use Rattle.rules_maps.specs.CacheLook.{reads_masked}
use Rattle.rules_maps.specs.CacheUse.{is_number}
use Rattle.rules_maps.specs.Lines.{Lines, has_mark}
use Rattle.rules_maps.specs.Nodes.{Node, Core, Dir, Vendor, Msg, LoadReq, Fill, ProbeReply, Mark, Commit, Abort, InvAck, WriteBack, Flush}
use Rattle.rules_maps.specs.Nodes.{DataReq, Inv, Event, Exec, Evict, Deliver}
use Rattle.rules_maps.specs.Shape.{Shape, lines, set_of}
use Rattle.rules_maps.specs.Words.{any_below, line_of, those}
use Rattle.rules_tcc.specs.Links.{in_flight}
use Rattle.rules_tcc.specs.State.{CoreState, Phase, Ready, Overflowing, Solo, World}
use Rattle.spec_cache.specs.MarkedSets.{has_marked}
use Rattle.watch_state.specs.Cores.{core_part}
use Rattle.watch_state.specs.Directories.{directory_part}
use Rattle.watch_state.specs.Records.{Record, VendorIs}

-- ---- of a core

-- the frames besides that of one line
pub data More : Type 0 where
  NoMore : More
  Marked : More  -- all that are marked
  Every : More

-- what an event may change of a core's frames
pub record Reach : Type 0 where
  pub line : Option ℕ
  pub more : More

abbrev pub no_frame : Reach
no_frame = record { line = None; more = NoMore }

abbrev pub frame_of_line : (line : ℕ) → Reach
frame_of_line l = record { line = Some l; more = NoMore }

abbrev pub marked_frames : Reach
marked_frames = record { line = None; more = Marked }

-- the end of a transaction: a core that is alone commits, and what it has spilled is no more valid in any frame
abbrev pub reach_of_end : Phase → Reach
reach_of_end (Solo t) = record { line = None; more = Every }
reach_of_end _ = no_frame

-- an instruction that needs this: the frame of the line that it accesses
abbrev pub reach_of_need : Shape → Phase → Need → Reach
reach_of_need sh f Nothing = no_frame
reach_of_need sh f (Loads addr size) = frame_of_line (line_of (word_of sh.base addr))
reach_of_need sh f (Stores addr size value) = frame_of_line (line_of (word_of sh.base addr))
reach_of_need sh f (Changes addr changed) = frame_of_line (line_of (word_of sh.base addr))
reach_of_need sh f (Prints byte) = no_frame
reach_of_need sh f Ends = reach_of_end f
reach_of_need sh f (Halts code) = reach_of_end f
reach_of_need sh f (Traps code) = reach_of_end f

-- a core that is ready commits, and no mark stays
abbrev pub reach_of_exec : Shape → Need → Phase → Reach
reach_of_exec sh need (Ready t) = marked_frames
reach_of_exec sh need f = reach_of_need sh f need

-- a core that is alone once all have replied clears its read marks
abbrev pub reach_of_reply : Phase → Reach
reach_of_reply (Overflowing t) = marked_frames
reach_of_reply _ = no_frame

-- where a word was read that becomes invalid the core may roll back
abbrev pub more_if_read : Bool → More
more_if_read read = if read then Marked else NoMore

-- a message: the frame of its line
abbrev pub reach_of_msg : CoreState → Msg → Reach
reach_of_msg s (Fill l ws) = frame_of_line l
reach_of_msg s (DataReq l) = frame_of_line l
reach_of_msg s (Inv l m t) = record { line = Some l; more = more_if_read (reads_masked l m s.cache) }
reach_of_msg s (ProbeReply t serving) = reach_of_reply s.phase
reach_of_msg s _ = no_frame

abbrev pub reach_of_delivery : CoreState → Option Msg → Reach
reach_of_delivery s None = no_frame
reach_of_delivery s (Some m) = reach_of_msg s m

-- the set is the line's, or has the line in a way; in a machine's cache that is the same set
abbrev pub may_hold : Shape → Cache → Option ℕ → (set : ℕ) → Bool
may_hold sh c None x = false
may_hold sh c (Some l) x = set_of sh l == x || any_below (λ y. is_number (c.at x y) l) sh.ways

abbrev pub has_more : Shape → Cache → More → (set : ℕ) → Bool
has_more sh c NoMore x = false
has_more sh c Marked x = has_marked sh c x
has_more sh c Every x = true

-- a way of the set may be something else after the event
unfoldable pub reaches : Shape → Cache → Reach → (set : ℕ) → Bool
reaches sh c r x = may_hold sh c r.line x || has_more sh c r.more x

-- ---- of a directory

-- what a directory knows of a line may be something else after the message: of the message's own line, and of the marked ones where it may
-- end what the directory serves
unfoldable pub may_change : Msg → Lines → (line : ℕ) → Bool
may_change (LoadReq l after) ls j = j == l
may_change (Mark l m t) ls j = j == l
may_change (WriteBack l m ws g) ls j = j == l
may_change (Flush l m ws g) ls j = j == l
may_change (InvAck l keeps) ls j = j == l || has_mark ls j
may_change (Commit t count) ls j = has_mark ls j
may_change (Abort t) ls j = has_mark ls j
may_change _ ls j = false

-- the words of a line may come home with the message
unfoldable pub may_come_home : Msg → (line : ℕ) → Bool
may_come_home (WriteBack l m ws g) j = j == l
may_come_home (Flush l m ws g) j = j == l
may_come_home _ j = false

-- ---- of a node

pub data Part : Type 0 where
  OfCore : (core : ℕ) → (sets : List ℕ) → Part  -- a core's, but of its frames only those of some sets
  OfDirectory : (dir : ℕ) → (known words : List ℕ) → Part  -- a directory's, but of lines only what is known of some, and the words of some
  OfVendor : Part

unfoldable pub part_records : Shape → (first : ℕ → ℕ) → World → Part → List Record
part_records sh first w (OfCore c sets) = core_part sh c sets (w.cores c)
part_records sh first w (OfDirectory d known words) = directory_part sh first d known words (w.dirs d)
part_records sh first w OfVendor = VendorIs w.next ∷ []

-- of a core with this cache
abbrev pub reached_by : Shape → (core : ℕ) → Cache → Reach → Part
reached_by sh c cache r = OfCore c (those (reaches sh cache r) sh.sets)

-- of a directory with these lines, to which a message is delivered
abbrev pub touched_by : Shape → (dir : ℕ) → Lines → Option Msg → Part
touched_by sh d ls None = OfDirectory d [] []
touched_by sh d ls (Some m) = OfDirectory d (those (may_change m ls) (lines sh)) (those (may_come_home m) (lines sh))

abbrev pub touched_at : Shape → World → (dst : Node) → Option Msg → Part
touched_at sh w (Core c) m = reached_by sh c (w.cores c).cache (reach_of_delivery (w.cores c) m)
touched_at sh w (Dir d) m = touched_by sh d (w.dirs d).lines m
touched_at sh w Vendor m = OfVendor

unfoldable pub touched : Shape → Program → World → Event → Part
touched sh p w (Exec c) = reached_by sh c (w.cores c).cache (reach_of_exec sh (p.need (w.cores c).local) (w.cores c).phase)
touched sh p w (Evict c x y) = reached_by sh c (w.cores c).cache (record { line = (w.cores c).cache.at x y; more = NoMore })
touched sh p w (Deliver src dst k) = touched_at sh w dst (in_flight w.net src dst k)
