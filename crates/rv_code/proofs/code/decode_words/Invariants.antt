use Rattle.std.proofs.Common.{◌≡◌, length}
use Rattle.rv_code.specs.Instructions.{AreFound}
use Rattle.rv_code.proofs.code.decode_words.Given as goal

abbrev pub invariant-loop-w : goal.invariant-loop-w
invariant-loop-w l = (length l.insts.items ≡ l.w) × AreFound l.loaded l.insts.items
