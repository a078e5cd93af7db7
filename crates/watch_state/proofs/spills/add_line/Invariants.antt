-- The records of the words so far are there.
use Rattle.std.proofs.Common.{◌≡◌, ◌++◌, map}
use Rattle.std.specs.List.{flat_map}
use Rattle.rules_maps.specs.Words.{word_at}
use Rattle.rules_tcc.specs.Seen.{numbers}
use Rattle.overflow_buf.specs.Kept.{spilled}
use Rattle.watch_state.specs.Cores.{spilled_word}
use Rattle.watch_state.specs.Plain.{record_of}
use Rattle.watch_state.proofs.spills.add_line.Given as goal

abbrev pub invariant-loop-k : goal.invariant-loop-k
invariant-loop-k l =
    map record_of l.records
    ≡ map record_of l.fn.records
    ++ flat_map (λ k. spilled_word l.config l.core.0 (spilled l.kept) (word_at l.line.0 k)) (numbers l.k)
