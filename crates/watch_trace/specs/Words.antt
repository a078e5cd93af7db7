-- The words of which the lines of a trace are made. A number is decimal, without leading zeros, and so is a mask; an address, a pc and a
-- value are eight lower-case hexadecimal digits.
use Rattle.std.specs.Prelude.{ℕ, Bool, true, false, List, ◌++◌, Some, None, get_or, codes, if◌then◌else◌}
use Rattle.std.specs.Fmt.{decimal}
use Rattle.std.specs.List.{flat_map, range_with_len}
use Rattle.tcc_base.specs.Bytes.{bytes_of}
use Rattle.tcc_base.specs.declared.access.Size.{Size}
use Rattle.rules_maps.specs.Masks.{has, full}
use Rattle.rules_maps.specs.Nodes.{Msg, TidReq, TidGrant, LoadReq, Fill, Skip, Probe, ProbeReply, Mark, Commit, Abort}
use Rattle.rules_maps.specs.Nodes.{WriteBack, Flush, DataReq, Inv, InvAck}
use Rattle.rules_tcc.specs.State.{Phase, Running, AwaitTid, DoomedTid, Probing, Ready, Overflowing, Solo, Halted}
use Rattle.base_digits.specs.Digits.{hex}
use Rattle.watch.specs.Facts.{Done, Plainly, Loaded, Stored, Changed, Printed, Ended, HaltedWith, TrappedWith}

-- a number behind its name
unfoldable pub field : (name : List ℕ) → (number : ℕ) → List ℕ
field name number = name ++ decimal number

-- the value of a word of a line, where the mask has it, and else "-"
abbrev pub value_word : (mask : ℕ) → (words : List ℕ) → (k : ℕ) → List ℕ
value_word mask words k = codes " " ++ (if has mask k then hex 8 (get_or words k 0) else codes "-")

-- the eight words of a line
unfoldable pub value_words : (mask : ℕ) → (words : List ℕ) → List ℕ
value_words mask words = codes " words" ++ flat_map (value_word mask words) (range_with_len 0 8)

-- dirty words of a line that go home, with the TID of the commit that made them
unfoldable pub home_words : (line mask : ℕ) → (words : List ℕ) → (tag : ℕ) → List ℕ
home_words line mask words tag =
    field (codes " line ") line ++ field (codes " mask ") mask ++ value_words mask words ++ field (codes " tag ") tag

-- committed words of a line
unfoldable pub committed_words : (line mask tid : ℕ) → List ℕ
committed_words line mask tid =
    field (codes " line ") line ++ field (codes " mask ") mask ++ field (codes " tid ") tid

-- all words of a line
unfoldable pub fill_words : (line : ℕ) → (words : List ℕ) → List ℕ
fill_words line words = field (codes "Fill line ") line ++ value_words full words

-- whether a word of an invalidated line is still valid
unfoldable pub keeps_words : Bool → List ℕ
keeps_words true = codes " keeps 1"
keeps_words false = codes " keeps 0"

-- an invalidation that was done
unfoldable pub acknowledged_words : (line : ℕ) → (keeps : Bool) → List ℕ
acknowledged_words line keeps = field (codes "InvAck line ") line ++ keeps_words keeps

-- a message: its kind, and its fields by name
unfoldable pub message_words : Msg → List ℕ
message_words TidReq = codes "TidReq"
message_words (TidGrant tid) = field (codes "TidGrant tid ") tid
message_words (LoadReq line after) = field (codes "LoadReq line ") line ++ field (codes " after ") after
message_words (Fill line words) = fill_words line words
message_words (Skip tid) = field (codes "Skip tid ") tid
message_words (Probe tid) = field (codes "Probe tid ") tid
message_words (ProbeReply tid serving) = field (codes "ProbeReply tid ") tid ++ field (codes " serving ") serving
message_words (Mark line mask tid) = codes "Mark" ++ committed_words line mask tid
message_words (Commit tid count) = field (codes "Commit tid ") tid ++ field (codes " count ") count
message_words (Abort tid) = field (codes "Abort tid ") tid
message_words (WriteBack line mask words tag) = codes "WriteBack" ++ home_words line mask words tag
message_words (Flush line mask words tag) = codes "Flush" ++ home_words line mask words tag
message_words (DataReq line) = field (codes "DataReq line ") line
message_words (Inv line mask tid) = codes "Inv" ++ committed_words line mask tid
message_words (InvAck line keeps) = acknowledged_words line keeps

-- a phase, with its TID where it has one
unfoldable pub phase_words : Phase → List ℕ
phase_words Running = codes "Running"
phase_words AwaitTid = codes "AwaitTid"
phase_words DoomedTid = codes "DoomedTid"
phase_words (Probing tid) = field (codes "Probing ") tid
phase_words (Ready tid) = field (codes "Ready ") tid
phase_words (Overflowing None) = codes "Overflowing"
phase_words (Overflowing (Some tid)) = field (codes "Overflowing ") tid
phase_words (Solo tid) = field (codes "Solo ") tid
phase_words Halted = codes "Halted"

-- an access to RAM: its address and how many bytes it acts on
unfoldable pub access_words : (addr : ℕ) → Size → List ℕ
access_words addr size = hex 8 addr ++ field (codes " ") (bytes_of size)

-- what an instruction did
unfoldable pub done_words : Done → List ℕ
done_words Plainly = codes "local"
done_words (Loaded addr size value) = codes "load " ++ access_words addr size ++ codes " " ++ hex 8 value
done_words (Stored addr size value) = codes "store " ++ access_words addr size ++ codes " " ++ hex 8 value
done_words (Changed addr size old new) =
    codes "change " ++ access_words addr size ++ codes " " ++ hex 8 old ++ codes " " ++ hex 8 new
done_words (Printed byte) = codes "console " ++ hex 2 byte
done_words Ended = codes "end"
done_words (HaltedWith code) = field (codes "halt ") code
done_words (TrappedWith cause) = field (codes "trap ") cause
