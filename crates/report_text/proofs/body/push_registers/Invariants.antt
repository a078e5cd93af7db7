-- The lines of the registers so far, from x1 on, are written.
use Rattle.std.proofs.Common.{◌≡◌, ◌++◌, ◌-◌, string_bytes}
use Rattle.std.specs.List.{flat_map, range_with_len}
use Rattle.report_text.specs.Text.{register_text}
use Rattle.report_text.proofs.body.push_registers.Given as goal

abbrev pub invariant-loop-number : goal.invariant-loop-number
invariant-loop-number l =
    string_bytes l.text ≡ string_bytes l.fn.text ++ flat_map (register_text l.regs) (range_with_len 1 (l.number - 1))
