-- The farm is of these nodes, and the ledgers are those that were made for it.
use Rattle.node_locks.specs.Wiring.{links_of}
use Rattle.apart_run.proofs.apart.run_apart.Given as goal

abbrev pub ghosts-logs_after-W-Setup : goal.ghosts-logs_after-W-Setup
ghosts-logs_after-W-Setup g a = record { code = a.nodes.code; link = links_of a.nodes }

abbrev pub ghosts-logs_after-E-Ledger : goal.ghosts-logs_after-E-Ledger
ghosts-logs_after-E-Ledger g a = record { name = a.entries.name; parts = a.entries.parts }

abbrev pub ghosts-logs_after-T-Ledger : goal.ghosts-logs_after-T-Ledger
ghosts-logs_after-T-Ledger g a = record { name = a.turns.name; parts = a.turns.parts }
