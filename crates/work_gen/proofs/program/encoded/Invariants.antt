use Rattle.std.proofs.Common.{◌≡◌, take}
use Rattle.work_gen.specs.Programs.{image}
use Rattle.work_gen.proofs.program.encoded.Given as goal

abbrev pub invariant-loop-inst : goal.invariant-loop-inst
invariant-loop-inst l = l.bytes.items ≡ image (take l.inst-index l.insts)
