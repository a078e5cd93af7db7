-- The lines of a report, each ended by a line feed. A decimal number has no leading zeros; an address and a value are
-- eight lower-case hexadecimal digits.
use Rattle.std.specs.Prelude.{ℕ, List, [], ◌∷◌, ◌++◌, Bool, true, false, codes}
use Rattle.std.specs.Fmt.{decimal}
use Rattle.std.specs.List.{flat_map}
use Rattle.base_digits.specs.Digits.{hex}
use Rattle.tcc_base.specs.Bytes.{bytes_of}
use Rattle.tcc_base.specs.declared.access.Commit.{Commit}
use Rattle.tcc_base.specs.declared.access.CoreEnd.{CoreEnd}
use Rattle.tcc_base.specs.declared.access.CoreEnd.TheVariants.{Run, Halt, Trap}
use Rattle.tcc_base.specs.declared.access.Load.{Load}

abbrev pub newline : List ℕ
newline = 10 ∷ []

unfoldable pub end_line : (done : Bool) → List ℕ
end_line true = codes "end done" ++ newline
end_line false = codes "end open" ++ newline

unfoldable pub events_line : (events : ℕ) → List ℕ
events_line events = codes "events " ++ decimal events ++ newline

unfoldable pub commit_line : Commit → List ℕ
commit_line c = codes "commit " ++ decimal c.tid.0 ++ codes " " ++ decimal c.core.0 ++ codes " " ++ decimal c.n ++ newline

unfoldable pub load_line : Load → List ℕ
load_line l =
    codes "load " ++ hex 8 l.addr ++ codes " " ++ decimal (bytes_of l.size) ++ codes " " ++ hex 8 l.value ++ newline

unfoldable pub core_line : (core : ℕ) → CoreEnd → List ℕ
core_line core Run = codes "core " ++ decimal core ++ codes " run" ++ newline
core_line core (Halt code) = codes "core " ++ decimal core ++ codes " halt " ++ decimal code ++ newline
core_line core (Trap code) = codes "core " ++ decimal core ++ codes " trap " ++ decimal code ++ newline

unfoldable pub pc_line : (pc : ℕ) → List ℕ
pc_line pc = codes "pc " ++ hex 8 pc ++ newline

unfoldable pub reg_line : (r value : ℕ) → List ℕ
reg_line r value = codes "reg " ++ decimal r ++ codes " " ++ hex 8 value ++ newline

-- two digits for each byte
unfoldable pub console_line : (console : List ℕ) → List ℕ
console_line console = codes "console " ++ flat_map (hex 2) console ++ newline

unfoldable pub mem_line : (addr value : ℕ) → List ℕ
mem_line addr value = codes "mem " ++ hex 8 addr ++ codes " " ++ hex 8 value ++ newline
