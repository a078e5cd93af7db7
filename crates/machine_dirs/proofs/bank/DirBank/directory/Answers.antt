-- The directory of that number.
use Rattle.std.proofs.Common.{◌≡◌, subst, sym}
use Rattle.std.specs.Prelude.{get_or}
use Rattle.machine_dirs.specs.BankInside.{AreDirs}
use Rattle.machine_dirs.proofs.Answers.{At, at}
use Rattle.machine_dirs.proofs.Parts.{dirs-at}
use Rattle.machine_dirs.proofs.bank.DirBank.directory.Goals as goal

found : (c : goal.After-index) → At c.args.self.now c.args.dir.0 c.index.result.now
found c =
    let b = c.args.self.now in
    let d = c.args.dir.0 in
    let x = c.index.result.now in
    let are : AreDirs b.settings b.dirs = subst (λ v. AreDirs v.settings v.dirs) c.self.view_is c.self.invariant.dirs in
    let is : x ≡ get_or b.dirs d x =
    subst (λ v. x ≡ get_or v.dirs d x) c.self.view_is (subst (λ i. x ≡ get_or i.dirs d x) c.self-inside.view_is c.index.ensures) in
    at b d x are c.requires.exists is

pub returns-clause-place : goal.returns-clause-place
returns-clause-place c = (found c).place

pub returns-clause-state : goal.returns-clause-state
returns-clause-state c = λ ram. sym (dirs-at ram c.args.self.now c.args.dir.0 c.index.result.now (found c).got)
