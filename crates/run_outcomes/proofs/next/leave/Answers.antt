use Rattle.std.proofs.Common.{length, ◌≡◌, ◌∙◌, ap}
use Rattle.run_outcomes.proofs.Untouched.{stores-inside}
use Rattle.rv_plain.specs.declared.attempt.Attempt.{Attempt}
use Rattle.run_outcomes.proofs.next.leave.Goals as goal

pub left_words-requires-clause-stores : goal.left_words-requires-clause-stores
left_words-requires-clause-stores c =
    let h = stores-inside c.args.code.now.settings (length c.args.memory.now.ram) c.args.attempt.stores
    c.requires.whole c.requires.stores in
    let stores : c.deref.result.now ≡ c.args.attempt.stores =
    c.deref.ensures.value ∙ ap (λ (a : Attempt). a.stores) c.attempt.view_is in
    rw (stores, c.base-base.ensures.value, c.config.ensures) h
