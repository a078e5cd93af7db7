-- The lines of the loads so far are written.
use Rattle.std.proofs.Common.{◌≡◌, ◌++◌, string_bytes, take}
use Rattle.std.specs.List.{flat_map}
use Rattle.report_text.specs.Lines.{load_line}
use Rattle.report_text.proofs.body.push_loads.Given as goal

abbrev pub invariant-loop-load : goal.invariant-loop-load
invariant-loop-load l = string_bytes l.text ≡ string_bytes l.fn.text ++ flat_map load_line (take l.load-index l.loads)
