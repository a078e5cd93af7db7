-- What is written of a run while it goes on, before it ends: the rows of a table but the last, or what commits print.
use Rattle.std.specs.Prelude.{ℕ, ◌≡◌, ◌≤◌, List, ◌++◌, Option, length}
use Rattle.image_load.specs.Contents.{Contents, started}
use Rattle.image_load.specs.Start.{Start}
use Rattle.net_core.specs.Machine.{Machine}
use Rattle.rules_maps.specs.Nodes.{Event}
use Rattle.tcc_world.specs.Faults.{Rose}
use Rattle.tcc_world.specs.Page.{Written}
use Rattle.watch_count.specs.Counts.{Counts}
use Rattle.watch_count.specs.Csv.{names_row}
use Rattle.watch_run.specs.Consoles.{consoles_head, printed_from}
use Rattle.watch_run.specs.Looked.{HasCounted}
use Rattle.watch_run.specs.Tables.{open_rest}
use Rattle.watch_run.specs.Written.{IsPart}
use Rattle.watch_run.specs.declared.meanwhile.Meanwhile.{Meanwhile}
use Rattle.watch_run.specs.declared.meanwhile.Meanwhile.TheVariants.{Consoles, Rows}
use Rattle.watch_run.specs.declared.tracing.Broken.{Broken}
use Rattle.watch_run.specs.declared.tracing.Broken.TheVariants.{Memory, Output}

-- of a run by these events, from so many of them on
abbrev pub meanwhile_text : Meanwhile → (first : ℕ) → Start → List Event → List ℕ
meanwhile_text (Rows rows) first s es = open_rest rows s es first
meanwhile_text Consoles first s es = printed_from first s es

-- the line before all that
abbrev pub head_line : Meanwhile → List ℕ
head_line (Rows rows) = names_row
head_line Consoles = consoles_head

-- rows stand at least one event apart
abbrev pub IsSpaced : Meanwhile → Type 0
IsSpaced (Rows rows) = 1 ≤ rows.every
IsSpaced Consoles = Unit {0}

-- the text is that of further events, whatever events had led to the machine and were counted
abbrev pub IsFurtherText : Meanwhile → Machine → Counts → (more : List Event) → (text : List ℕ) → Type 0
IsFurtherText told m counts more text = (c : Contents) (es : List Event) → HasCounted c es m counts
    → text ≡ meanwhile_text told (length es) (started c) (es ++ more)

-- a first part of it was written
abbrev pub IsFurtherPart : Meanwhile → Machine → Counts → (more : List Event) → (before after : Option (List ℕ)) → Type 0
IsFurtherPart told m counts more before after = (c : Contents) (es : List Event) → HasCounted c es m counts
    → IsPart (meanwhile_text told (length es) (started c) (es ++ more)) before after

-- and why no more
abbrev pub IsFurtherStopped : Meanwhile → Machine → Counts → (more : List Event) → Written → Broken → Type 0
IsFurtherStopped told m counts more o Memory = IsFurtherPart told m counts more o.before.bytes o.after.bytes
IsFurtherStopped told m counts more o Output =
    IsFurtherPart told m counts more o.before.bytes o.after.bytes × Rose o.before.faults o.after.faults
