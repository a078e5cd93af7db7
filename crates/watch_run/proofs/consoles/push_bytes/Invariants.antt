-- The bytes so far are written.
use Rattle.std.proofs.Common.{◌≡◌, ◌++◌, string_bytes, take}
use Rattle.base_digits.specs.Digits.{hex}
use Rattle.std.specs.List.{flat_map}
use Rattle.watch_run.proofs.consoles.push_bytes.Given as goal

abbrev pub invariant-loop-byte : goal.invariant-loop-byte
invariant-loop-byte l = string_bytes l.text ≡ string_bytes l.fn.text ++ flat_map (hex 2) (take l.byte-index l.bytes)
