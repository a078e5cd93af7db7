-- A kept instruction tells what the program does.
use Rattle.std.proofs.Common.{subst}
use Rattle.image_load.specs.Contents.{started}
use Rattle.rv_code.proofs.Running.{runs-found}
use Rattle.rv_code.specs.Instructions.{Finds}
use Rattle.rv_code.proofs.code.Code.inst.Goals as goal

pub returns-in-Some : goal.returns-in-Some
returns-in-Some c =
    let s = started c.args.self.now in
    runs-found s c.args.at.now c.in-Some.inst (subst (λ p. Finds (s.fetch p) c.in-Some.inst) c.pc.ensures c.in-Some.ensures)
