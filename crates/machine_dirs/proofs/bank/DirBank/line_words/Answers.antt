-- The words at the home of the line.
use Rattle.std.proofs.Common.{◌≡◌, ◌<◌, subst, sym}
use Rattle.std.specs.Prelude.{get_or}
use Rattle.rules_maps.specs.Shape.{home}
use Rattle.rules_maps.specs.Words.{eight, word_at}
use Rattle.machine_dirs.specs.Bank.{dirs_of}
use Rattle.machine_dirs.specs.BankInside.{AreDirs}
use Rattle.machine_dirs.proofs.Parts.{dirs-at}
use Rattle.machine_dirs.proofs.Answers.{at}
use Rattle.machine_dirs.proofs.bank.DirBank.line_words.Goals as goal

pub returns : goal.returns
returns c = λ ram.
    let b = c.args.self.now in
    let d = c.home-dir.result.0 in
    let x = c.index.result.now in
    let are : AreDirs b.settings b.dirs = subst (λ v. AreDirs v.settings v.dirs) c.self.view_is c.self.invariant.dirs in
    let is : x ≡ get_or b.dirs d x =
    subst (λ v. x ≡ get_or v.dirs d x) c.self.view_is (subst (λ i. x ≡ get_or i.dirs d x) c.self-inside.view_is c.index.ensures) in
    let within : d < b.settings.dirs =
    subst (λ v. d < v.settings.dirs) c.self.view_is (subst (λ i. d < i.config.dirs) c.self-inside.view_is c.home-dir.ensures.exists) in
    let a = at b d x are within is in
    let place : d ≡ home b.settings c.args.line.0 =
    subst (λ v. d ≡ home v.settings c.args.line.0) c.self.view_is
    (subst (λ i. d ≡ home i.config c.args.line.0) c.self-inside.view_is c.home-dir.ensures.value) in
    subst (λ h. c.line_words.result ≡ eight (λ k. (dirs_of ram b h).words (word_at c.args.line.0 k))) place
    (subst (λ s. c.line_words.result ≡ eight (λ k. s.words (word_at c.args.line.0 k))) (sym (dirs-at ram b d x a.got))
    (c.line_words.ensures ram))
