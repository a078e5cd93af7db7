-- What the line's home does.
use Rattle.std.proofs.Common.{◌≡◌, subst, sym, ap, ◌∙◌}
use Rattle.rules_maps.specs.Shape.{home}
use Rattle.directory.specs.Restored.{restored_line}
use Rattle.machine_dirs.specs.BankInside.{IsBank, bank_of}
use Rattle.machine_dirs.proofs.OneRestored.{restored}
use Rattle.machine_dirs.proofs.bank.DirBank.restore_line.Goals as goal

pub returns-clause-restored : goal.returns-clause-restored
returns-clause-restored c =
    let b = c.args.self.now in
    let is = ap bank_of c.self-inside.view_is ∙ c.self.view_is in
    let place : c.home-dir.result.0 ≡ home b.settings c.args.line.0 =
    subst (λ v. c.home-dir.result.0 ≡ home v.settings c.args.line.0) is c.home-dir.ensures.value in
    restored _ b c.home-dir.result.0 (home b.settings c.args.line.0) c.index_mut.result.now c.restore_line.new.self c.restore_line.result
    (restored_line c.args.line.0 c.args.to c.args.words.now) is
    (subst (λ i. IsBank i) (sym c.self-inside.view_is) c.self.invariant) c.home-dir.ensures.exists c.index_mut.ensures.value place
    c.restore_line.ensures.restored
