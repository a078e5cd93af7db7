use Rattle.std.specs.Prelude.{◌≡◌, ◌+◌, Some, None, if◌then◌else◌}
use Rattle.node_locks.specs.Turns.{after_words}
use Rattle.tcc_workers.specs.Calls.{Made, acts_at}
use Rattle.test_threads.proofs.turns.Answering.acts.Given as goal

-- so many acts were listed, each with a word, and moved
abbrev pub invariant-loop-before : goal.invariant-loop-before
invariant-loop-before l = record {
  made : Made (if l.fn.called.lost then None else Some l.fn.called.list.items) (if l.called.lost then None else Some l.called.list.items)
      (acts_at l.node l.fn.words l.before);
  drawn : l.words ≡ after_words l.before l.fn.words;
  moved : l.called.moved ≡ l.fn.called.moved + l.before;
}
