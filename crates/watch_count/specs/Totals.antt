-- The numbers of all cores together: sums, but of the longest row of violations the greatest.
use Rattle.std.specs.Prelude.{◌+◌, ◌-◌, List, [], ◌∷◌, max, ℕ}
use Rattle.watch_count.specs.declared.tables.Attempts.{Attempts}
use Rattle.watch_count.specs.declared.tables.Instructions.{Instructions}
use Rattle.watch_count.specs.declared.tables.Accesses.{Accesses}
use Rattle.watch_count.specs.declared.tables.Evictions.{Evictions}
use Rattle.watch_count.specs.declared.tables.Phases.{Phases}
use Rattle.watch_count.specs.declared.tables.CoreCounts.{CoreCounts}
use Rattle.watch_count.specs.declared.messages.MessageCounts.{MessageCounts}
use Rattle.watch_count.specs.Tables.{nothing}
use Rattle.watch_count.specs.Messages.{no_messages}

unfoldable pub attempts_plus : (a b : Attempts) → Attempts
attempts_plus a b = record {
  begun = a.begun + b.begun;
  committed = a.committed + b.committed;
  violated = a.violated + b.violated;
  still_open = a.still_open + b.still_open;
  unbroken = a.unbroken + b.unbroken;
  row = max a.row b.row;
  gave_up = a.gave_up + b.gave_up;
}

unfoldable pub instructions_plus : (a b : Instructions) → Instructions
instructions_plus a b = record {
  executed = a.executed + b.executed;
  committed = a.committed + b.committed;
  lost = a.lost + b.lost;
  still_open = a.still_open + b.still_open;
}

unfoldable pub accesses_plus : (a b : Accesses) → Accesses
accesses_plus a b = record {
  loads = a.loads + b.loads;
  stores = a.stores + b.stores;
  changes = a.changes + b.changes;
  misses = a.misses + b.misses;
  fills = a.fills + b.fills;
  overflows = a.overflows + b.overflows;
}

unfoldable pub evictions_plus : (a b : Evictions) → Evictions
evictions_plus a b = record { clean = a.clean + b.clean; dirty = a.dirty + b.dirty; modified = a.modified + b.modified }

unfoldable pub phases_plus : (a b : Phases) → Phases
phases_plus a b = record {
  running = a.running + b.running;
  await_tid = a.await_tid + b.await_tid;
  doomed_tid = a.doomed_tid + b.doomed_tid;
  probing = a.probing + b.probing;
  ready = a.ready + b.ready;
  overflowing = a.overflowing + b.overflowing;
  solo = a.solo + b.solo;
  halted = a.halted + b.halted;
}

-- all cores together are in no phase
unfoldable pub core_plus : (a b : CoreCounts) → CoreCounts
core_plus a b = record {
  attempts = attempts_plus a.attempts b.attempts;
  instructions = instructions_plus a.instructions b.instructions;
  accesses = accesses_plus a.accesses b.accesses;
  evictions = evictions_plus a.evictions b.evictions;
  phases = phases_plus a.phases b.phases;
  phase = a.phase;
}

unfoldable pub cores_after : (so_far : CoreCounts) → List CoreCounts → CoreCounts
cores_after t [] = t
cores_after t (c ∷ cs) = cores_after (core_plus t c) cs

abbrev pub all_cores : List CoreCounts → CoreCounts
all_cores cs = cores_after nothing cs

unfoldable pub messages_plus : (a b : MessageCounts) → MessageCounts
messages_plus a b = record { sent = a.sent + b.sent; took = a.took + b.took; dropped = a.dropped + b.dropped; asked = a.asked + b.asked }

unfoldable pub messages_sum : (so_far : MessageCounts) → List MessageCounts → MessageCounts
messages_sum t [] = t
messages_sum t (m ∷ ms) = messages_sum (messages_plus t m) ms

abbrev pub all_messages : List MessageCounts → MessageCounts
all_messages ms = messages_sum no_messages ms

-- what was sent and not consumed
abbrev pub in_flight : MessageCounts → ℕ
in_flight m = m.sent - m.took - m.dropped
