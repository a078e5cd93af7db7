-- The records of the lines as the protocol's map of lines.
use Rattle.std.specs.Prelude.{ℕ, false, None, option_map}
use Rattle.rules_maps.specs.Masks.{has}
use Rattle.rules_maps.specs.Lines.{Lines}
use Rattle.dir_lines.specs.declared.record.LineRecord.{LineRecord}

abbrev pub Record : Type 0
Record = LineRecord

-- no sharer, no owner, tag 0, not asked, no mark
abbrev pub blank : Record
blank = record { sharers = record { 0 = 0 }; owner = None; tag = record { 0 = 0 }; asked = false; mark = record { 0 = 0 } }

unfoldable pub lines_of : (ℕ → Record) → Lines
lines_of f = record {
  sharers = λ l c. has (f l).sharers.0 c;
  owner = λ l. option_map (λ c. c.0) (f l).owner;
  tag = λ l. (f l).tag.0;
  asked = λ l. (f l).asked;
  mark = λ l. (f l).mark.0;
}
