-- What the directory does.
use Rattle.std.proofs.Common.{refl, subst, sym, ap, ◌∙◌, arith}
use Rattle.directory.specs.Restored.{restored_serving}
use Rattle.machine_dirs.specs.BankInside.{IsBank, bank_of}
use Rattle.machine_dirs.proofs.OneRestored.{restored}
use Rattle.machine_dirs.proofs.bank.DirBank.restore_serving.Goals as goal

pub returns-clause-restored : goal.returns-clause-restored
returns-clause-restored c =
    let d = c.args.dir.0 in
    restored _ c.args.self.now d d c.index_mut.result.now c.restore_serving.new.self c.restore_serving.result
    (restored_serving c.args.skips c.args.owed) (ap bank_of c.self-inside.view_is ∙ c.self.view_is)
    (subst (λ i. IsBank i) (sym c.self-inside.view_is) c.self.invariant) (omega (arith, c.dirs.ensures.value, c.if-dir-dirs.false))
    c.index_mut.ensures.value refl c.restore_serving.ensures.restored
