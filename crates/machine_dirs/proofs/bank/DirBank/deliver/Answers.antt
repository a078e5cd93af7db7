-- What the directory does.
use Rattle.std.proofs.Common.{◌≡◌, subst, sym, ap, ◌∙◌, ◌↔◌, Err}
use Rattle.std.specs.Prelude.{get_or, true}
use Rattle.tcc_msg.specs.Plain.{msg_of}
use Rattle.directory.specs.Foreign.{is_foreign}
use Rattle.directory.specs.declared.handled.DirError.TheVariants.{Foreign}
use Rattle.machine_dirs.specs.BankInside.{AreDirs, IsBank, bank_of}
use Rattle.machine_dirs.proofs.Answers.{at, does}
use Rattle.machine_dirs.proofs.bank.DirBank.deliver.Goals as goal

pub returns-clause-does : goal.returns-clause-does
returns-clause-does c =
    does _ c.args.self.now c.args.dir.0 c.index_mut.result.now c.deliver.new.self c.args.out.now.list.items c.deliver.new.out.list.items
    c.deliver.result
    c.args.src.0 (msg_of c.args.msg.now) (ap bank_of c.self-inside.view_is ∙ c.self.view_is)
    (subst (λ i. IsBank i) (sym c.self-inside.view_is) c.self.invariant) c.requires.exists c.index_mut.ensures.value c.deliver.ensures.gives

pub returns-clause-foreign : goal.returns-clause-foreign
returns-clause-foreign c =
    let b = c.args.self.now in
    let d = c.args.dir.0 in
    let x = c.index_mut.result.now in
    let are : AreDirs b.settings b.dirs = subst (λ v. AreDirs v.settings v.dirs) c.self.view_is c.self.invariant.dirs in
    let is : x ≡ get_or b.dirs d x =
    subst (λ v. x ≡ get_or v.dirs d x) c.self.view_is (subst (λ i. x ≡ get_or i.dirs d x) c.self-inside.view_is c.index_mut.ensures.value)
    in
    let a = at b d x are c.requires.exists is in
    subst (λ p. (c.deliver.result ≡ Err Foreign) ↔ (is_foreign p (msg_of c.args.msg.now) ≡ true)) a.place c.deliver.ensures.foreign
