use Rattle.std.specs.Prelude.{◌≡◌}
use Rattle.image_load.specs.Contents.{Contents}
use Rattle.node_locks.specs.Turns.{MovedOn, after_words}
use Rattle.node_locks.specs.Wiring.{IsOf, Wiring}
use Rattle.node_locks.proofs.acts.act_on.Given as goal

-- the node moved each time, with a word each time
abbrev pub invariant-loop-before : goal.invariant-loop-before
invariant-loop-before g l = record {
  moved : MovedOn l.fn.node l.fn.words l.before l.node;
  drawn : l.words ≡ after_words l.before l.fn.words;
  of : (code : Contents) (link : Wiring) → IsOf code link l.fn.node → IsOf code link l.node;
}
