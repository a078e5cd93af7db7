-- The line of a fact. It begins with a space, which the line of an event doesn't.
use Rattle.std.specs.Prelude.{ℕ, List, ◌++◌, codes}
use Rattle.std.specs.Fmt.{decimal}
use Rattle.rules_maps.specs.Nodes.{Node}
use Rattle.schedule_text.specs.Grammar.{newline, node_word}
use Rattle.base_digits.specs.Digits.{hex}
use Rattle.watch.specs.Facts.{Fact, Did, Missed, Overflowed, Evicted, Took, Dropped, AskedOwner, Violated, GaveUp, Committed, CameTo}
use Rattle.watch.specs.Facts.{Serves, Sent}
use Rattle.watch_trace.specs.Shown.{shown_node_of}
use Rattle.watch_trace.specs.Words.{field, message_words, phase_words, done_words}

-- an instruction that wasn't finished: the core, the pc, the address that it wanted, and that address's line
unfoldable pub wanted_words : (core pc addr line : ℕ) → List ℕ
wanted_words core pc addr line =
    decimal core ++ codes " " ++ hex 8 pc ++ codes " " ++ hex 8 addr ++ field (codes " line ") line

-- whom the violation came from, and by which words of which line
unfoldable pub cause_words : (by tid line words : ℕ) → List ℕ
cause_words by tid line words =
    field (codes " by ") by ++ field (codes " tid ") tid ++ field (codes " line ") line ++ field (codes " words ") words

-- the name of a message: its link, and its number there
unfoldable pub name_words : (src dst : Node) → (k : ℕ) → List ℕ
name_words src dst k = node_word (shown_node_of src) ++ codes " " ++ node_word (shown_node_of dst) ++ field (codes " ") k

-- the line, without the space and the line feed
unfoldable pub fact_words : Fact → List ℕ
fact_words (Did core pc done) = field (codes "did ") core ++ codes " " ++ hex 8 pc ++ codes " " ++ done_words done
fact_words (Missed core pc addr line) = codes "miss " ++ wanted_words core pc addr line
fact_words (Overflowed core pc addr line) = codes "overflow " ++ wanted_words core pc addr line
fact_words (Evicted core line dirty modified) =
    field (codes "emptied ") core ++ field (codes " line ") line ++ field (codes " dirty ") dirty ++ field (codes " modified ") modified
fact_words (Took m) = codes "took " ++ message_words m
fact_words (Dropped m) = codes "dropped " ++ message_words m
fact_words (AskedOwner m) = codes "asked " ++ message_words m
fact_words (Violated core by tid line words lost phase) =
    field (codes "violated ") core ++ cause_words by tid line words ++ field (codes " lost ") lost
    ++ codes " in " ++ phase_words phase
fact_words (GaveUp tid core) = field (codes "gaveup ") tid ++ field (codes " ") core
fact_words (Committed tid core n) = field (codes "commit ") tid ++ field (codes " ") core ++ field (codes " ") n
fact_words (CameTo core phase) = field (codes "phase ") core ++ codes " " ++ phase_words phase
fact_words (Serves dir tid) = field (codes "serves ") dir ++ field (codes " ") tid
fact_words (Sent src dst k m) = codes "sent " ++ name_words src dst k ++ codes " " ++ message_words m

unfoldable pub fact_line : Fact → List ℕ
fact_line f = codes " " ++ fact_words f ++ newline
