-- The numbers so far are written.
use Rattle.std.proofs.Common.{◌≡◌, ◌++◌, string_bytes}
use Rattle.rules_maps.specs.Masks.{has}
use Rattle.rules_maps.specs.Words.{those}
use Rattle.watch_state.specs.Lines.{number_words}
use Rattle.watch_state.proofs.numbers.push_numbers.Given as goal

abbrev pub invariant-loop-number : goal.invariant-loop-number
invariant-loop-number l = string_bytes l.text ≡ string_bytes l.fn.text ++ number_words (those (has l.bits) l.number-counter)
