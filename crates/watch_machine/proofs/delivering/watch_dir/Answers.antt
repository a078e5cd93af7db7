-- What becomes of the message, and what is told behind its delivery, are all that it did.
use Rattle.std.proofs.Common.{◌<◌, ◌++◌, map, sym, ◌∙◌, subst}
use Rattle.base_lemmas.proofs.Lemmas.{lt-from}
use Rattle.rules_maps.specs.Bridge.{node_of}
use Rattle.rules_maps.specs.Nodes.{Core, Dir, Deliver}
use Rattle.tcc_msg.specs.Plain.{msg_of}
use Rattle.net_core.specs.Machine.{settings_of, world_of}
use Rattle.watch.specs.Happened.{commit_fact, serves_fact}
use Rattle.watch.specs.Plain.{fact_of}
use Rattle.watch_machine.specs.Watched.{told_commit}
use Rattle.watch_machine.proofs.Enabled.{answer-told, flying-ends as ends, taken-enabled}
use Rattle.watch_machine.proofs.Happening.{advanced-from, advanced-to, flown, told-all}
use Rattle.watch_machine.proofs.delivering.watch_dir.Goals as goal
use Rattle.net_core.proofs.Lemmas.{sound-message}

pub what_became-requires-clause-dir : goal.what_became-requires-clause-dir
what_became-requires-clause-dir c =
    lt-from c.args.dir.0 (settings_of c.args.system.now).dirs
    (ends c.args.system.now (Core c.args.core.0) (Dir c.args.dir.0) c.args.name.seq (msg_of c.args.msg) c.events.ensures.sound
    c.requires.flies).to

pub what_became-requires-clause-line : goal.what_became-requires-clause-line
what_became-requires-clause-line c =
    (sound-message c.args.system.now c.events.ensures.sound (Core c.args.core.0) (Dir c.args.dir.0) c.args.name.seq
    (msg_of c.args.msg) c.requires.flies).line

pub serving-before-requires : goal.serving-before-requires
serving-before-requires c =
    lt-from c.args.dir.0 (settings_of c.args.system.now).dirs
    (ends c.args.system.now (Core c.args.core.0) (Dir c.args.dir.0) c.args.name.seq (msg_of c.args.msg) c.events.ensures.sound
    c.requires.flies).to

pub tell_dir-requires : goal.tell_dir-requires
tell_dir-requires c =
    subst (λ k. c.args.dir.0 < k.settings.dirs) (sym c.in_ok-step.ensures.code)
    (lt-from c.args.dir.0 (settings_of c.args.system.now).dirs
    (ends c.args.system.now (Core c.args.core.0) (Dir c.args.dir.0) c.args.name.seq (msg_of c.args.msg) c.events.ensures.sound
    c.requires.flies).to)

pub returns-in-Ok : goal.returns-in-Ok
returns-in-Ok c =
    let m = c.args.system.now in
    let n = c.advance.new.system in
    let x = msg_of c.args.msg in
    let core = c.args.core.0 in
    let dir = c.args.dir.0 in
    let k = c.args.name.seq in
    let e = Deliver (Core core) (Dir dir) k in
    let a = advanced-from m n _ _ (Dir dir) k c.in_ok-step.step c.requires.source
    (advanced-to m n (node_of c.args.name.src) _ _ k c.in_ok-step.step c.requires.destination c.in_ok-step.ensures) in
    let told = c.fact_of_message-fact.ensures ∙ answer-told m core dir k c.what_became.result x c.requires.flies
    (taken-enabled m n e c.in_ok-step.step a) c.what_became.ensures ∙ sym (flown m n (Core core) (Dir dir) k x c.requires.flies) in
    told-all m n e c.in_ok-step.step c.tell_dir.new.facts c.events.ensures.sound a
    (c.in-Ok.ensures
    ∙ (λ i. map fact_of (c.requires.empty i) ++ (told i ++ (commit_fact (told_commit c.in_ok-step.step n.commits)
    ++ serves_fact dir (c.serving-before.ensures i) ((world_of n).dirs dir).serving.serving))))

pub returns-in-Err : goal.returns-in-Err
returns-in-Err c =
    let m = c.args.system.now in
    let n = c.advance.new.system in
    let dst = Dir c.args.dir.0 in
    let k = c.args.name.seq in
    taken-enabled m n (Deliver (Core c.args.core.0) dst k) c.in_ok-step.step
    (advanced-from m n _ _ dst k c.in_ok-step.step c.requires.source
    (advanced-to m n (node_of c.args.name.src) _ _ k c.in_ok-step.step c.requires.destination c.in_ok-step.ensures))
