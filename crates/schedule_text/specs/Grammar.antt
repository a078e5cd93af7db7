-- The grammar of schedule files: the lines of a schedule's text, each ended by a line feed. Numbers are decimal, without
-- leading zeros.
use Rattle.std.specs.Prelude.{ℕ, List, [], ◌∷◌, ◌++◌, map, length, codes, nat_le, ◌&&◌, if◌then◌else◌}
use Rattle.std.specs.Fmt.{decimal}
use Rattle.std.specs.List.{flat_map}
use Rattle.tcc_base.specs.Settings.{Settings}
use Rattle.tcc_base.specs.declared.names.NodeId.{NodeId}
use Rattle.tcc_base.specs.declared.names.NodeId.TheVariants.{Core, Dir, Vendor}
use Rattle.tcc_msg.specs.declared.event.Event.{Event}
use Rattle.tcc_msg.specs.declared.event.Event.TheVariants.{Exec, Evict, Deliver}
use Rattle.tcc_msg.specs.declared.event.Schedule.{Schedule}

-- a line feed
abbrev pub newline : List ℕ
newline = 10 ∷ []

-- version 1 exactly where there are at most 16 cores and at most 16 directories
abbrev pub version_of : Settings → ℕ
version_of config = if nat_le config.cores 16 && nat_le config.dirs 16 then 1 else 2

-- the first line
unfoldable pub version_line : ℕ → List ℕ
version_line version = codes "tcc-schedule " ++ decimal version ++ newline

-- the second line: the settings
unfoldable pub config_line : Settings → List ℕ
config_line config = codes "cores " ++ decimal config.cores ++ codes " dirs " ++ decimal config.dirs
    ++ codes " sets " ++ decimal config.sets ++ codes " ways " ++ decimal config.ways
    ++ codes " base " ++ decimal config.base ++ codes " ram " ++ decimal config.ram ++ newline

-- a node, in an event's line
unfoldable pub node_word : NodeId → List ℕ
node_word (Core core) = codes "c" ++ decimal core.0
node_word (Dir dir) = codes "d" ++ decimal dir.0
node_word Vendor = codes "v"

-- the line of an event
unfoldable pub event_line : Event → List ℕ
event_line (Exec core) = codes "e " ++ decimal core.0 ++ newline
event_line (Evict core set way) = codes "x " ++ decimal core.0 ++ codes " " ++ decimal set ++ codes " " ++ decimal way ++ newline
event_line (Deliver name) =
    codes "d " ++ node_word name.src ++ codes " " ++ node_word name.dst ++ codes " " ++ decimal name.seq ++ newline

-- the last line, with the number of events
unfoldable pub end_line : ℕ → List ℕ
end_line count = codes "end " ++ decimal count ++ newline

-- the lines of a schedule's text, from the first to the last
unfoldable pub lines_of : Schedule → List (List ℕ)
lines_of s = version_line (version_of s.config) ∷ config_line s.config ∷ (map event_line s.events ++ end_line (length s.events) ∷ [])

-- lines, one after the other
abbrev pub joined : List (List ℕ) → List ℕ
joined lines = flat_map (λ line. line) lines

-- the text of a schedule
abbrev pub text_of : Schedule → List ℕ
text_of s = joined (lines_of s)
