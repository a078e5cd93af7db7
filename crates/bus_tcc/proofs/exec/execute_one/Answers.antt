-- An instruction of a core.
use Rattle.std.proofs.Common.{◌≢◌, Bool, None, Err, subst}
use Rattle.image_load.specs.Contents.{started}
use Rattle.rv_code.specs.Machine.{program}
use Rattle.core_node.specs.Answers.{IsBlocked}
use Rattle.core_node.specs.View.{core_of}
use Rattle.bus_tcc.proofs.Instructions.{as-instruction, ran-so}
use Rattle.bus_tcc.proofs.exec.execute_one.Goals as goal

pub returns-in-Err-clause-blocked : goal.returns-in-Err-clause-blocked
returns-in-Err-clause-blocked c =
    let k = c.args.core.now in
    subst (IsBlocked {A = Bool} (Err c.in-Err.error))
    (as-instruction k.config (program (started c.args.code.now)) c.args.ram.now k.id.0 (core_of k)) c.in-Err.ensures.blocked

pub returns-in-Ok-clause-does : goal.returns-in-Ok-clause-does
returns-in-Ok-clause-does c =
    let k = c.args.core.now in
    ran-so _ _ c.args.tid.0 c.go_alone_if_waiting.result (core_of c.exec_from.new.self) _
    (as-instruction k.config (program (started c.args.code.now)) c.args.ram.now k.id.0 (core_of k))
    c.in-Ok.ensures.does c.go_alone_if_waiting.ensures.alone c.go_alone_if_waiting.ensures.does

pub returns-in-Ok-clause-blocked : goal.returns-in-Ok-clause-blocked
returns-in-Ok-clause-blocked c =
    let k = c.args.core.now in
    subst (λ o. o ≢ None) (as-instruction k.config (program (started c.args.code.now)) c.args.ram.now k.id.0 (core_of k))
    c.in-Ok.ensures.blocked
