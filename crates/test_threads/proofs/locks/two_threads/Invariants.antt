use Rattle.node_locks.specs.Wiring.{links_of}
use Rattle.test_threads.proofs.locks.two_threads.Given as goal

-- the machine is that of the nodes, and the ledgers are the two blanks'
abbrev pub ghosts-by_two-W-Setup : goal.ghosts-by_two-W-Setup
ghosts-by_two-W-Setup g a = record { code = a.nodes.code; link = links_of a.nodes }

abbrev pub ghosts-by_two-E-Ledger : goal.ghosts-by_two-E-Ledger
ghosts-by_two-E-Ledger g a = record { name = a.marks.name; parts = a.marks.parts }

abbrev pub ghosts-by_two-T-Ledger : goal.ghosts-by_two-T-Ledger
ghosts-by_two-T-Ledger g a = record { name = a.turns.name; parts = a.turns.parts }
