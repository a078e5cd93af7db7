-- A core that waits for the bus commits.
use Rattle.std.proofs.Common.{◌≡◌, Some, OnOk, ap, sym, ◌∙◌, subst}
use Rattle.std.specs.Prelude.{IfOk}
use Rattle.image_load.specs.Contents.{started}
use Rattle.rv_code.specs.Machine.{program}
use Rattle.core_node.specs.View.{core_of}
use Rattle.rules_tcc.specs.Attempt.{is_solo}
use Rattle.bus_tcc.proofs.Endings.{ends-waiting}
use Rattle.bus_tcc.proofs.ending.end.Goals as goal

pub returns-else-is_alone-clause-does : goal.returns-else-is_alone-clause-does
returns-else-is_alone-clause-does c =
    let k = c.args.core.now in
    let waits = sym (ap is_solo c.phase.ensures) ∙ sym c.is_alone.ensures ∙ c.if-is_alone.false in
    subst (λ o. OnOk c.commit.result (core_of c.commit.new.self ≡ o.core))
    (ends-waiting k.config (program (started c.args.code.now)) k.id.0 c.args.tid.0 (core_of k) waits) c.commit.ensures.does

pub returns-else-is_alone-clause-noted : goal.returns-else-is_alone-clause-noted
returns-else-is_alone-clause-noted c =
    let k = c.args.core.now in
    let waits = sym (ap is_solo c.phase.ensures) ∙ sym c.is_alone.ensures ∙ c.if-is_alone.false in
    subst (λ o. IfOk c.commit.result (λ d. Some d ≡ o.commit))
    (ends-waiting k.config (program (started c.args.code.now)) k.id.0 c.args.tid.0 (core_of k) waits) c.commit.ensures.noted
