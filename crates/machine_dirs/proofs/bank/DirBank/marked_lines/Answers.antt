-- The marked lines of the directory.
use Rattle.std.proofs.Common.{ℕ, ◌≡◌, subst, sym}
use Rattle.std.specs.Prelude.{get_or}
use Rattle.machine_dirs.specs.BankInside.{AreDirs}
use Rattle.machine_dirs.proofs.Answers.{at}
use Rattle.machine_dirs.proofs.Parts.{dirs-at}
use Rattle.directory.specs.Data.{dir_of}
use Rattle.dir_lines.specs.Home.{Home}
use Rattle.rules_maps.specs.Lines.{has_mark}
use Rattle.rules_maps.specs.Shape.{lines}
use Rattle.rules_maps.specs.Words.{count_below}
use Rattle.machine_dirs.proofs.bank.DirBank.marked_lines.Goals as goal

pub returns : goal.returns
returns c = λ ram.
    let b = c.args.self.now in
    let d = c.args.dir.0 in
    let x = c.index.result.now in
    let are : AreDirs b.settings b.dirs = subst (λ v. AreDirs v.settings v.dirs) c.self.view_is c.self.invariant.dirs in
    let is : x ≡ get_or b.dirs d x =
    subst (λ v. x ≡ get_or v.dirs d x) c.self.view_is (subst (λ i. x ≡ get_or i.dirs d x) c.self-inside.view_is c.index.ensures) in
    let a = at b d x are c.requires.exists is in
    let n : ℕ = c.marked_lines.result in
    let own : n ≡ count_below (has_mark (dir_of ram x).lines) (lines b.settings) =
    subst (λ (p : Home). n ≡ count_below (has_mark (dir_of ram x).lines) (lines p.shape)) a.place (c.marked_lines.ensures ram) in
    subst (λ s. n ≡ count_below (has_mark s.lines) (lines b.settings)) (sym (dirs-at ram b d x a.got)) own
