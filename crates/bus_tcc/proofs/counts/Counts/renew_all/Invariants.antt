-- The cores so far are counted.
use Rattle.image_load.specs.Contents.{started}
use Rattle.rv_code.specs.Machine.{program}
use Rattle.machine_cores.specs.Bank.{cores_of}
use Rattle.bus_tcc.proofs.Counting.{AreCountedTo}
use Rattle.bus_tcc.proofs.counts.Counts.renew_all.Given as goal

abbrev pub invariant-loop-c : goal.invariant-loop-c
invariant-loop-c l = AreCountedTo l.fn.bank.code.settings (program (started l.fn.bank.code)) l.fn.bus_free (cores_of l.fn.bank) l.c l.self
