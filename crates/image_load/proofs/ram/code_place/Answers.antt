use Rattle.std.proofs.Common.{◌+◌, ◌-◌, false, arith}
use Rattle.std.proofs.lemmas.List.{get_or_past}
use Rattle.std.proofs.lemmas.Bool.Decides.{nat_tests}
use Rattle.image_load.specs.Memory.{all_four}
use Rattle.image_load.specs.Contents.{code_place}
use Rattle.image_load.proofs.ram.code_place.Goals as goal

pub returns-then-addr-base-clause-value : goal.returns-then-addr-base-clause-value
unfolding code_place all_four
returns-then-addr-base-clause-value c = grind (arith, nat_tests)

pub returns-then-place-code-clause-value : goal.returns-then-place-code-clause-value
unfolding code_place all_four
returns-then-place-code-clause-value c =
    let past = get_or_past c.args.code.now (c.args.addr - c.args.base + 3) false (omega arith) in grind (arith, nat_tests)

pub returns-then-code-place-4-clause-value : goal.returns-then-code-place-4-clause-value
unfolding code_place all_four
returns-then-code-place-4-clause-value c = grind (arith, nat_tests)

pub returns-else-code-place-clause-value : goal.returns-else-code-place-clause-value
unfolding code_place all_four
returns-else-code-place-clause-value c = grind (arith, nat_tests)
