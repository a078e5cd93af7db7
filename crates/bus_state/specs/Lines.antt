-- How a record is written: a line. Numbers and masks are decimal; addresses and values are eight lower-case hexadecimal digits.
use Rattle.std.specs.Prelude.{ℕ, List, ◌++◌, codes}
use Rattle.std.specs.List.{flat_map}
use Rattle.schedule_text.specs.Grammar.{newline}
use Rattle.base_digits.specs.Digits.{hex}
use Rattle.watch_trace.specs.Words.{field, value_words}
use Rattle.watch_state.specs.Lines.{number_words}
use Rattle.bus_state.specs.Records.{BusRecord, ArbiterIs, PacketHas, MemoryWord, Holding, Nobody, OneCore, LeftTo}

unfoldable pub holding_words : Holding → List ℕ
holding_words Nobody = codes " free"
holding_words (OneCore core) = field (codes " alone ") core
holding_words (LeftTo cores) = codes " left" ++ number_words cores

-- of a packet's line with a dash for each word that the packet hasn't
unfoldable pub bus_record_line : BusRecord → List ℕ
bus_record_line (ArbiterIs next holding) = field (codes "arbiter next ") next ++ holding_words holding ++ newline
bus_record_line (PacketHas d) =
    field (codes "packet ") d.line ++ field (codes " mask ") d.mask ++ value_words d.mask d.words ++ newline
bus_record_line (MemoryWord addr value) = codes "mem " ++ hex 8 addr ++ codes " " ++ hex 8 value ++ newline

-- the lines of records, one after another
unfoldable pub bus_record_lines : List BusRecord → List ℕ
bus_record_lines rs = flat_map bus_record_line rs
