use Rattle.std.proofs.Common.{arith}
use Rattle.std.proofs.lemmas.Bool.Decides.{nat_tests}
use Rattle.image_elf.specs.Elf.{segment_of}
use Rattle.image_elf.proofs.Flags.{flag-set}
use Rattle.image_elf.proofs.read.segment.Goals as goal

pub returns-then-header-ne-LOAD-clause-value : goal.returns-then-header-ne-LOAD-clause-value
unfolding segment_of
returns-then-header-ne-LOAD-clause-value c = grind (arith, nat_tests)

pub returns-clause-value : goal.returns-clause-value
unfolding segment_of
returns-clause-value c = grind (arith, nat_tests, flag-set)
