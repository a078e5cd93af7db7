-- What was taken is a well-formed schedule.
use Rattle.std.proofs.Common.{◌≡◌, ◌∙◌, IfOk, ap, arith, sym, subst}
use Rattle.net_core.specs.Machine.{settings_of}
use Rattle.schedule_text.specs.Grammar.{text_of}
use Rattle.schedule_text.specs.WellFormed.{IsWellFormed}
use Rattle.tcc_msg.specs.declared.event.Schedule.{Schedule}
use Rattle.tcc_cli.proofs.records.schedule_text.Goals as goal

formed : (c : goal.After-taken) → IsWellFormed (record {
  config = settings_of c.args.refined.now.machine;
  events = c.args.refined.now.taken;
})
formed c =
    c.what_was_taken_has_a_text.ensures c.args.refined.now c.taken.ensures.refined (omega
    (arith, c.taken.ensures.refined.count, c.requires.few))

pub write-requires : goal.write-requires
write-requires c =
    subst (λ s. IsWellFormed (record { config = s; events = c.taken.result.now })) (sym (c.config.ensures
    ∙ ap settings_of c.system.ensures.machine))
    (subst (λ es. IsWellFormed (record { config = settings_of c.args.refined.now.machine; events = es })) (sym c.taken.ensures.taken)
    (formed c))

pub returns-clause-formed : goal.returns-clause-formed
returns-clause-formed c = formed c.before

pub returns-clause-text : goal.returns-clause-text
returns-clause-text c =
    let same : ◌≡◌ {A = Schedule} (record { config = c.config.result.now; events = c.taken.result.now })
    (record { config = settings_of c.args.refined.now.machine; events = c.args.refined.now.taken }) =
    λ i. record { config = (c.config.ensures ∙ ap settings_of c.system.ensures.machine) i; events = c.taken.ensures.taken i } in
    subst (λ s. IfOk c.write.result (λ text. text.items ≡ text_of s)) same c.write.ensures
