use Rattle.std.proofs.Common.{◌≡◌, Some, subst}
use Rattle.image_load.specs.Contents.{started}
use Rattle.rv_plain.proofs.Transacted.{begun-view, closed-transacts}
use Rattle.rv_plain.specs.Attempts.{attempt_of}
use Rattle.rv_plain.specs.Buffered.{plain_view}
use Rattle.rv_plain.specs.Endings.{IsFault}
use Rattle.rv_code.specs.Machine.{program}
use Rattle.rules_program.specs.Plain.{steps}
use Rattle.rv_plain.proofs.plain.transact.Goals as goal

pub returns-in-Err-clause-fault : goal.returns-in-Err-clause-fault
returns-in-Err-clause-fault c =
    let at = c.args.code.now in
    let e = begun-view c.args.state.now.state c.args.memory.now c.requires.empty in
    let now = rw c.begin-attempt.ensures at c.in-Err.ensures.fault in
    subst (λ s. IsFault (λ k. steps at.settings.base (program (started at)) k s) c.args.n c.in-Err.fault) e now

pub returns-in-Ok-clause-does : goal.returns-in-Ok-clause-does
returns-in-Ok-clause-does c =
    let at = c.args.code.now in
    let e = begun-view c.args.state.now.state c.args.memory.now c.requires.empty in
    let end = plain_view (attempt_of c.run.new.self c.run.new.memory c.in-Ok.outcome) in
    let now = rw c.begin-attempt.ensures at c.in-Ok.ensures.runs.0 in
    let does = subst (λ s. steps at.settings.base (program (started at)) c.args.n s ≡ Some end) e now in
    closed-transacts at c.args.state.now c.close.new.state c.args.memory.now c.run.new.memory c.close.new.memory c.args.n
    c.run.new.self c.in-Ok.outcome c.end.result c.close.result c.requires.runs does c.end.ensures c.close.ensures.state
    c.close.ensures.did c.close.ensures.ram
