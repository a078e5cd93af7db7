-- What is known at the line's home.
use Rattle.std.proofs.Common.{◌≡◌, ◌<◌, ℕ, subst, sym, ap, ◌∙◌}
use Rattle.std.specs.Prelude.{get_or, option_map}
use Rattle.directory.specs.Data.{dir_of}
use Rattle.rules_maps.specs.Shape.{home}
use Rattle.rules_tcc.specs.State.{DirState}
use Rattle.machine_dirs.specs.Bank.{dirs_of}
use Rattle.machine_dirs.specs.BankInside.{AreDirs}
use Rattle.machine_dirs.proofs.Answers.{at}
use Rattle.machine_dirs.proofs.Parts.{dirs-at}
use Rattle.machine_dirs.proofs.bank.DirBank.line_state.Goals as goal

-- the directory that was asked is the line's home
at-home : (c : goal.After-line_state) (ram : ℕ → ℕ)
    → dir_of ram c.index.result.now ≡ dirs_of ram c.args.self.now (home c.args.self.now.settings c.args.line.0)
at-home c ram =
    let b = c.args.self.now in
    let d = c.home-dir.result.0 in
    let x = c.index.result.now in
    let are : AreDirs b.settings b.dirs = subst (λ v. AreDirs v.settings v.dirs) c.self.view_is c.self.invariant.dirs in
    let is : x ≡ get_or b.dirs d x =
    subst (λ v. x ≡ get_or v.dirs d x) c.self.view_is (subst (λ i. x ≡ get_or i.dirs d x) c.self-inside.view_is c.index.ensures) in
    let within : d < b.settings.dirs =
    subst (λ v. d < v.settings.dirs) c.self.view_is (subst (λ i. d < i.config.dirs) c.self-inside.view_is c.home-dir.ensures.exists) in
    let a = at b d x are within is in
    let place : d ≡ home b.settings c.args.line.0 =
    subst (λ v. d ≡ home v.settings c.args.line.0) c.self.view_is
    (subst (λ i. d ≡ home i.config c.args.line.0) c.self-inside.view_is c.home-dir.ensures.value) in
    sym (dirs-at ram b d x a.got) ∙ ap (dirs_of ram b) place

pub returns-clause-mark : goal.returns-clause-mark
returns-clause-mark c = λ ram.
    subst (λ (s : DirState). c.line_state.result.mark.0 ≡ s.lines.mark c.args.line.0) (at-home c ram) (c.line_state.ensures.mark ram)

pub returns-clause-owner : goal.returns-clause-owner
returns-clause-owner c = λ ram.
    subst (λ (s : DirState). option_map (λ o. o.0) c.line_state.result.owner ≡ s.lines.owner c.args.line.0) (at-home c ram)
    (c.line_state.ensures.owner ram)

pub returns-clause-asked : goal.returns-clause-asked
returns-clause-asked c = λ ram.
    subst (λ (s : DirState). c.line_state.result.asked ≡ s.lines.asked c.args.line.0) (at-home c ram) (c.line_state.ensures.asked ram)

pub returns-clause-tag : goal.returns-clause-tag
returns-clause-tag c = λ ram.
    subst (λ (s : DirState). c.line_state.result.tag.0 ≡ s.lines.tag c.args.line.0) (at-home c ram) (c.line_state.ensures.tag ram)
