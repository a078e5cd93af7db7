-- The packet of a commit, line by line.
use Rattle.std.specs.Prelude.{ℕ, ◌≡◌, List, [], map, Option, is_some, unwrap_or}
use Rattle.tcc_base.specs.declared.access.Tagged.{Tagged}
use Rattle.rules_maps.specs.Masks.{mask_of, masked}
use Rattle.rules_maps.specs.Shape.{Shape, lines}
use Rattle.rules_maps.specs.Words.{any_word, eight, those, word_at}
use Rattle.core_node.specs.AtHand.{words_in}
use Rattle.bus_tcc.specs.declared.bus.Bus.{Bus}
use Rattle.bus_tcc.specs.declared.bus.Bus.TheVariants.{Free, Alone, Packet}

-- a line of which a packet has the masked words; zero stands for each that it doesn't have
pub record PacketLine : Type 0 where
  pub line : ℕ
  pub mask : ℕ
  pub words : List ℕ

abbrev pub packet_line : (words : ℕ → Option ℕ) → (line : ℕ) → PacketLine
packet_line f l = record {
  line = l;
  mask = mask_of (λ k. is_some (f (word_at l k)));
  words = eight (λ k. unwrap_or (f (word_at l k)) 0);
}

-- the lines of which a packet has a word, rising
unfoldable pub packet_lines : Shape → (words : ℕ → Option ℕ) → List PacketLine
packet_lines sh f = map (packet_line f) (those (any_word (λ w. is_some (f w))) (lines sh))

-- a line of the code
abbrev pub packet_line_of : Tagged → PacketLine
packet_line_of t = record { line = t.line.0; mask = t.mask.0; words = masked t.mask.0 t.words }

-- the lines of the packet that is on a bus
abbrev pub lines_on : Bus → List Tagged
lines_on Free = []
lines_on (Alone c) = []
lines_on (Packet p) = p.lines

-- each line stands there once with all its words, by rising line
abbrev pub AreInOrder : Shape → List Tagged → Type 0
AreInOrder sh ts = map packet_line_of ts ≡ packet_lines sh (words_in ts)
