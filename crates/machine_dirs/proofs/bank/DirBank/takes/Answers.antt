-- What the directory takes.
use Rattle.std.proofs.Common.{◌≡◌, subst}
use Rattle.std.specs.Prelude.{get_or}
use Rattle.tcc_msg.specs.Plain.{msg_of}
use Rattle.machine_dirs.specs.BankInside.{AreDirs}
use Rattle.machine_dirs.proofs.Answers.{at, takes-at}
use Rattle.machine_dirs.proofs.bank.DirBank.takes.Goals as goal

pub returns : goal.returns
returns c =
    let b = c.args.self.now in
    let d = c.args.dir.0 in
    let x = c.index.result.now in
    let are : AreDirs b.settings b.dirs = subst (λ v. AreDirs v.settings v.dirs) c.self.view_is c.self.invariant.dirs in
    let is : x ≡ get_or b.dirs d x =
    subst (λ v. x ≡ get_or v.dirs d x) c.self.view_is (subst (λ i. x ≡ get_or i.dirs d x) c.self-inside.view_is c.index.ensures) in
    takes-at b d x c.args.src.0 (msg_of c.args.msg.now) c.takes.result (at b d x are c.requires.exists is) c.takes.ensures
