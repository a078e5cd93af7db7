use Rattle.theorem_riscv.proofs.Given.{committed_tids_were_granted_once}
use Rattle.theorem_riscv.proofs.committed_tids_were_granted_once.Goals as goal

pub returns : goal.returns
returns c = record { tids = committed_tids_were_granted_once }
