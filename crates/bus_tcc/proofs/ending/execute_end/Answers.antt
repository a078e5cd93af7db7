-- A core that is alone commits by its execution.
use Rattle.std.proofs.Common.{sym, ◌∙◌, subst}
use Rattle.image_load.specs.Contents.{started}
use Rattle.rv_code.specs.Machine.{program}
use Rattle.core_node.specs.Answers.{Happened}
use Rattle.core_node.specs.View.{core_of}
use Rattle.bus_tcc.specs.Ending.{at_commit}
use Rattle.bus_tcc.proofs.Endings.{as-told, ends-alone, never-blocked}
use Rattle.bus_tcc.proofs.ending.execute_end.Goals as goal
use Rattle.theorem_bus.proofs.Lemmas.{out-noted}

pub returns-in-Err-clause-cause : goal.returns-in-Err-clause-cause
returns-in-Err-clause-cause c =
    let k = c.args.core.now in
    let p = program (started c.args.code.now) in
    never-blocked (Unit {0}) (Unit {0}) c.in-Err.error _ _
    (ends-alone k.config p k.id.0 c.args.tid.0 (core_of k) c.requires.alone c.requires.idle c.requires.commits) c.in-Err.ensures.blocked

pub returns-in-Ok-Committed-clause-does : goal.returns-in-Ok-Committed-clause-does
returns-in-Ok-Committed-clause-does c =
    let k = c.args.core.now in
    let p = program (started c.args.code.now) in
    (subst (λ o. Happened o c.args.out.now c.exec.new.self c.exec.new.out)
    (ends-alone k.config p k.id.0 c.args.tid.0 (core_of k) c.requires.alone c.requires.idle c.requires.commits)
    c.in-Ok-Committed.ensures.does).core

pub returns-in-Ok-Committed-clause-noted : goal.returns-in-Ok-Committed-clause-noted
returns-in-Ok-Committed-clause-noted c =
    let k = c.args.core.now in
    let p = program (started c.args.code.now) in
    let h = ends-alone k.config p k.id.0 c.args.tid.0 (core_of k) c.requires.alone c.requires.idle c.requires.commits in
    sym (as-told _ _ _ _ c.in-Ok-Committed.field-0-is h c.in-Ok-Committed.ensures.told)

pub unreachable-requires : goal.unreachable-requires
unreachable-requires c =
    let k = c.args.core.now in
    let p = program (started c.args.code.now) in
    let h = ends-alone k.config p k.id.0 c.args.tid.0 (core_of k) c.requires.alone c.requires.idle c.requires.commits in
    let told = as-told _ _ _ _ c.in-Ok-Stepped.field-0-is h c.in-Ok-Stepped.ensures.told in
    let none = sym (out-noted k.config k.id.0 c.args.tid.0 (at_commit p (core_of k))) ∙ told.0 in absurd (cc)

pub unreachable-requires-in-Ok-Asked : goal.unreachable-requires-in-Ok-Asked
unreachable-requires-in-Ok-Asked c =
    let k = c.args.core.now in
    let p = program (started c.args.code.now) in
    let h = ends-alone k.config p k.id.0 c.args.tid.0 (core_of k) c.requires.alone c.requires.idle c.requires.commits in
    let told = as-told _ _ _ _ c.in-Ok-Asked.field-0-is h c.in-Ok-Asked.ensures.told in
    let none = sym (out-noted k.config k.id.0 c.args.tid.0 (at_commit p (core_of k))) ∙ told.0 in absurd (cc)
