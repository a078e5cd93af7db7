-- The lines that say why messages wait, each ended by a line feed. All numbers are decimal, and nodes and events are written as in
-- schedules.
use Rattle.std.specs.Prelude.{ℕ, List, [], ◌++◌, Option, Some, None, codes}
use Rattle.std.specs.Fmt.{decimal}
use Rattle.rules_maps.specs.Nodes.{Node, Event}
use Rattle.schedule_text.specs.Grammar.{newline, node_word, event_line}
use Rattle.live_core.specs.Reasons.{Reason, Early, Marked, Asked, Count, Tag}
use Rattle.text_why.specs.Written.{shown_event_of, shown_node_of}

-- the reason, and the number that goes with it
unfoldable pub reason_words : Reason → List ℕ
reason_words (Early serving) = codes "early " ++ decimal serving
reason_words (Marked mask) = codes "marked " ++ decimal mask
reason_words (Asked owner) = codes "asked " ++ decimal owner
reason_words (Count marked) = codes "count " ++ decimal marked
reason_words (Tag tag) = codes "tag " ++ decimal tag

-- the name of a message: its link, and its number there
unfoldable pub name_words : (src dst : Node) → (k : ℕ) → List ℕ
name_words src dst k = node_word (shown_node_of src) ++ codes " " ++ node_word (shown_node_of dst) ++ codes " " ++ decimal k

-- a message that waits, and why
unfoldable pub waits_line : (src dst : Node) → (k : ℕ) → Reason → List ℕ
waits_line src dst k r = codes "waits " ++ name_words src dst k ++ codes " " ++ reason_words r ++ newline

-- nothing where there is no reason to wait
abbrev pub line_if_waiting : (src dst : Node) → (k : ℕ) → Option Reason → List ℕ
line_if_waiting src dst k None = []
line_if_waiting src dst k (Some r) = waits_line src dst k r

-- what can happen next
unfoldable pub next_line : Option Event → List ℕ
next_line None = codes "next none" ++ newline
next_line (Some e) = codes "next " ++ event_line (shown_event_of e)
