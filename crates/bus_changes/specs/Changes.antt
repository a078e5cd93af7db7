-- What changed of the bus and of memory between two states, and how it is written. The changes of a core's records are watch_changes'.
use Rattle.std.specs.Prelude.{ℕ, Bool, true, false, List, [], ◌∷◌, ◌++◌, Option, Some, None, codes, option_map, ◌==◌, ◌&&◌}
use Rattle.std.specs.Prelude.{if◌then◌else◌, is_some}
use Rattle.std.specs.Fmt.{decimal}
use Rattle.std.specs.List.{flat_map}
use Rattle.rules_maps.specs.Shape.{Shape, lines}
use Rattle.rules_maps.specs.Words.{all_below, any_word, word_at}
use Rattle.rules_tcc.specs.Seen.{numbers}
use Rattle.rules_bus.specs.State.{Bus, Free, Alone, Packet, BusWorld}
use Rattle.bus_tcc.specs.Left.{packet_words}
use Rattle.bus_tcc.specs.Packets.{PacketLine, packet_line}
use Rattle.schedule_text.specs.Grammar.{newline}
use Rattle.base_digits.specs.Digits.{hex}
use Rattle.watch_state.specs.Cores.{addr_of}
use Rattle.watch_changes.specs.Same.{alike}
use Rattle.bus_state.specs.Lines.{bus_record_line}
use Rattle.bus_state.specs.Parts.{holding}
use Rattle.bus_state.specs.Records.{BusRecord, ArbiterIs, PacketHas, MemoryWord}

pub data BusChange : Type 0 where
  Told : (told : BusRecord) → BusChange  -- it is new, or isn't as it was
  Gone : (gone : BusRecord) → BusChange  -- there is none with its key any more

-- of one part of the state, which has a record or none: whether it is the same, and the records that it had and has
abbrev pub part_changes : Bool → (before after : Option BusRecord) → List BusChange
part_changes true b a = []
part_changes false b (Some a) = Told a ∷ []
part_changes false (Some b) None = Gone b ∷ []
part_changes false None None = []

-- the changes of a part put on the record that it had
abbrev pub put_on_part : Option BusRecord → List BusChange → Option BusRecord
put_on_part b [] = b
put_on_part b (Told a ∷ cs) = Some a
put_on_part b (Gone g ∷ cs) = None

-- ---- the arbiter

abbrev pub same_flag : Bool → Bool → Bool
same_flag true b = b
same_flag false true = false
same_flag false false = true

-- the same has the bus, of so many cores
abbrev pub same_holding : (cores : ℕ) → (before after : Bus) → Bool
same_holding n Free Free = true
same_holding n (Alone c) (Alone d) = c == d
same_holding n (Packet f left) (Packet g still) = all_below (λ c. same_flag (left c) (still c)) n
same_holding n _ _ = false

abbrev pub arbiter_record : (cores next : ℕ) → Bus → BusRecord
arbiter_record n t b = ArbiterIs t (holding n b)

unfoldable pub arbiter_changes : (cores next : ℕ) → Bus → (next_after : ℕ) → Bus → List BusChange
arbiter_changes n t b u a =
    part_changes (t == u && same_holding n b a) (Some (arbiter_record n t b)) (Some (arbiter_record n u a))

-- ---- the packet

-- a line of which a packet has a word
unfoldable pub line_in : (words : ℕ → Option ℕ) → (line : ℕ) → Option PacketLine
line_in f l = if any_word (λ w. is_some (f w)) l then Some (packet_line f l) else None

abbrev pub same_line : (before after : Option PacketLine) → Bool
same_line None None = true
same_line (Some d) (Some e) = d.mask == e.mask && alike d.words e.words
same_line _ _ = false

abbrev pub line_changes : (before after : Option PacketLine) → List BusChange
line_changes d e = part_changes (same_line d e) (option_map PacketHas d) (option_map PacketHas e)

-- between two packets, by rising line
unfoldable pub packet_changes : Shape → (before after : ℕ → Option ℕ) → List BusChange
packet_changes sh f g = flat_map (λ l. line_changes (line_in f l) (line_in g l)) (numbers (lines sh))

-- ---- memory; `first` are the loaded words

-- of a word with this address, by its value and the one that was loaded
abbrev pub value_record : (addr value first : ℕ) → Option BusRecord
value_record addr value first = if value == first then None else Some (MemoryWord addr value)

unfoldable pub value_changes : (addr before after first : ℕ) → List BusChange
value_changes addr x y first = part_changes (x == y) (value_record addr x first) (value_record addr y first)

unfoldable pub word_changes : Shape → (first before after : ℕ → ℕ) → (word : ℕ) → List BusChange
word_changes sh first f g w = value_changes (addr_of sh w) (f w) (g w) (first w)

unfoldable pub words_changes : Shape → (first before after : ℕ → ℕ) → (line : ℕ) → List BusChange
words_changes sh first f g l = flat_map (λ k. word_changes sh first f g (word_at l k)) (numbers 8)

-- by rising address
unfoldable pub memory_changes : Shape → (first before after : ℕ → ℕ) → List BusChange
memory_changes sh first f g = flat_map (words_changes sh first f g) (numbers (lines sh))

-- ---- all of them

unfoldable pub bus_changes : Shape → (first : ℕ → ℕ) → (before after : BusWorld) → List BusChange
bus_changes sh first w v =
    arbiter_changes sh.cores w.next w.bus v.next v.bus
    ++ (packet_changes sh (packet_words w.bus) (packet_words v.bus) ++ memory_changes sh first w.ram v.ram)

-- ---- their lines, which begin with a space

-- the record's key
abbrev pub bus_key_words : BusRecord → List ℕ
bus_key_words (ArbiterIs next holding) = codes "arbiter"
bus_key_words (PacketHas d) = codes "packet " ++ decimal d.line
bus_key_words (MemoryWord addr value) = codes "mem " ++ hex 8 addr

unfoldable pub bus_change_line : BusChange → List ℕ
bus_change_line (Told r) = codes " " ++ bus_record_line r
bus_change_line (Gone r) = codes " gone " ++ bus_key_words r ++ newline

unfoldable pub bus_change_lines : List BusChange → List ℕ
bus_change_lines cs = flat_map bus_change_line cs
