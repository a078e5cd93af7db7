use Rattle.node_locks.specs.Wiring.{links_of}
use Rattle.test_threads.proofs.workers.worked.Given as goal

abbrev pub ghosts-farmed-W-Setup : goal.ghosts-farmed-W-Setup
ghosts-farmed-W-Setup g a = record { code = a.nodes.code; link = links_of a.nodes }

abbrev pub ghosts-farmed-E-Ledger : goal.ghosts-farmed-E-Ledger
ghosts-farmed-E-Ledger g a = record { name = a.entries.name; parts = a.entries.parts }

abbrev pub ghosts-farmed-T-Ledger : goal.ghosts-farmed-T-Ledger
ghosts-farmed-T-Ledger g a = record { name = a.turns.name; parts = a.turns.parts }
