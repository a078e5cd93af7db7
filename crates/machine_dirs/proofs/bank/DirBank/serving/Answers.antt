-- The TID that the directory serves.
use Rattle.std.proofs.Common.{◌≡◌, subst, sym}
use Rattle.std.specs.Prelude.{get_or}
use Rattle.machine_dirs.specs.BankInside.{AreDirs}
use Rattle.machine_dirs.proofs.Answers.{at}
use Rattle.machine_dirs.proofs.Parts.{dirs-at}
use Rattle.machine_dirs.proofs.bank.DirBank.serving.Goals as goal

pub returns : goal.returns
returns c = λ ram.
    let b = c.args.self.now in
    let d = c.args.dir.0 in
    let x = c.index.result.now in
    let are : AreDirs b.settings b.dirs = subst (λ v. AreDirs v.settings v.dirs) c.self.view_is c.self.invariant.dirs in
    let is : x ≡ get_or b.dirs d x =
    subst (λ v. x ≡ get_or v.dirs d x) c.self.view_is (subst (λ i. x ≡ get_or i.dirs d x) c.self-inside.view_is c.index.ensures) in
    let a = at b d x are c.requires.exists is in
    subst (λ s. c.serving.result.0 ≡ s.serving.serving) (sym (dirs-at ram b d x a.got)) (c.serving.ensures ram)
