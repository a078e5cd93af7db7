-- The numbers of the ways in which the program ends.
use Rattle.std.specs.Prelude.{ℕ}
use Rattle.tcc_cli.specs.declared.status.Status.{Status}
use Rattle.tcc_cli.specs.declared.status.Status.TheVariants.{Done, Stopped, Words, Image, Schedule, StoreFault, SinkFault, Memory}

abbrev pub number_of : Status → ℕ
number_of Done = 0
number_of Stopped = 1
number_of Words = 2
number_of Image = 3
number_of Schedule = 4
number_of StoreFault = 5
number_of SinkFault = 6
number_of Memory = 7
