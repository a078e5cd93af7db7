-- What is known at the line's home.
use Rattle.std.proofs.Common.{◌≡◌, ◌<◌, subst, sym}
use Rattle.std.specs.Prelude.{get_or}
use Rattle.rules_maps.specs.Shape.{home}
use Rattle.rules_maps.specs.Words.{line_of}
use Rattle.machine_dirs.specs.Bank.{dirs_of}
use Rattle.machine_dirs.specs.BankInside.{AreDirs}
use Rattle.machine_dirs.proofs.Parts.{dirs-at}
use Rattle.machine_dirs.proofs.Answers.{at}
use Rattle.machine_dirs.proofs.bank.DirBank.word.Goals as goal

pub returns : goal.returns
returns c = λ ram.
    let b = c.args.self.now in
    let d = c.home-dir.result.0 in
    let x = c.index.result.now in
    let are : AreDirs b.settings b.dirs = subst (λ v. AreDirs v.settings v.dirs) c.self.view_is c.self.invariant.dirs in
    let is : x ≡ get_or b.dirs d x =
    subst (λ v. x ≡ get_or v.dirs d x) c.self.view_is (subst (λ i. x ≡ get_or i.dirs d x) c.self-inside.view_is c.index.ensures) in
    let within : d < b.settings.dirs =
    subst (λ v. d < v.settings.dirs) c.self.view_is (subst (λ i. d < i.config.dirs) c.self-inside.view_is c.home-dir.ensures.exists) in
    let a = at b d x are within is in
    let place : d ≡ home b.settings (line_of c.args.w.0) =
    subst (λ v. d ≡ home v.settings (line_of c.args.w.0)) c.self.view_is
    (subst (λ i. d ≡ home i.config (line_of c.args.w.0)) c.self-inside.view_is c.home-dir.ensures.value) in
    subst (λ h. c.word.result ≡ (dirs_of ram b h).words c.args.w.0) place
    (subst (λ s. c.word.result ≡ s.words c.args.w.0) (sym (dirs-at ram b d x a.got)) (c.word.ensures ram))
