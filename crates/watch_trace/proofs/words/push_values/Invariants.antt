-- The words of the line so far are written.
use Rattle.std.proofs.Common.{◌≡◌, ◌++◌, codes, string_bytes}
use Rattle.std.specs.List.{flat_map, range_with_len}
use Rattle.watch_trace.specs.Words.{value_word}
use Rattle.watch_trace.proofs.words.push_values.Given as goal

abbrev pub invariant-loop-k : goal.invariant-loop-k
invariant-loop-k l =
    string_bytes l.text ≡ string_bytes l.fn.text ++ (codes " words" ++ flat_map (value_word l.mask l.words) (range_with_len 0 l.k))
