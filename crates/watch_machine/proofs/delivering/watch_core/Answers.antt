-- What was seen before the delivery and what is told behind it are all that it did.
use Rattle.std.proofs.Common.{◌<◌, ◌++◌, map, ap, sym, ◌∙◌, subst}
use Rattle.base_lemmas.proofs.Lemmas.{lt-from}
use Rattle.rules_maps.specs.Bridge.{node_of}
use Rattle.rules_maps.specs.Nodes.{Core, Deliver}
use Rattle.tcc_msg.specs.Plain.{msg_of}
use Rattle.core_node.specs.View.{IsKnown, core_of}
use Rattle.net_core.specs.Machine.{settings_of, world_of}
use Rattle.watch.specs.Messages.{grant_given_up, taken, violated}
use Rattle.watch.specs.Plain.{fact_of}
use Rattle.watch_machine.specs.Telling.{SawMessage}
use Rattle.watch_machine.proofs.Enabled.{flying-ends as ends, taken-enabled}
use Rattle.watch_machine.proofs.Happening.{advanced-to, flown, joined, told-all, told_behind}
use Rattle.watch_machine.proofs.delivering.watch_core.Goals as goal
use Rattle.net_core.proofs.Lemmas.{known}

pub core-requires : goal.core-requires
core-requires c =
    lt-from c.args.id.0 (settings_of c.args.system.now).cores
    (ends c.args.system.now (node_of c.args.name.src) (Core c.args.id.0) c.args.name.seq (msg_of c.args.msg) c.events.ensures.sound
    c.requires.flies).to

pub look-seen-requires : goal.look-seen-requires
look-seen-requires c =
    subst (λ s. IsKnown s c.args.name.src) (sym c.core.ensures.config)
    (known (settings_of c.args.system.now) c.args.name.src
    (ends c.args.system.now (node_of c.args.name.src) (Core c.args.id.0) c.args.name.seq (msg_of c.args.msg) c.events.ensures.sound
    c.requires.flies).from)

pub tell_core-requires : goal.tell_core-requires
tell_core-requires c =
    subst (λ k. c.args.id.0 < k.settings.cores) (sym c.in_ok-step.ensures.code)
    (lt-from c.args.id.0 (settings_of c.args.system.now).cores
    (ends c.args.system.now (node_of c.args.name.src) (Core c.args.id.0) c.args.name.seq (msg_of c.args.msg) c.events.ensures.sound
    c.requires.flies).to)

pub returns-in-Ok : goal.returns-in-Ok
returns-in-Ok c =
    let m = c.args.system.now in
    let n = c.advance.new.system in
    let src = node_of c.args.name.src in
    let x = msg_of c.args.msg in
    let id = c.args.id.0 in
    let e = Deliver src (Core id) c.args.name.seq in
    let s = (world_of m).cores id in
    let seen : SawMessage c.look-seen.result src x m.commits s = subst (λ s. SawMessage c.look-seen.result src x m.commits s)
    c.core.ensures.state
    (subst (λ cs. SawMessage c.look-seen.result src x cs (core_of c.core.result.now)) c.commits.ensures c.look-seen.ensures) in
    let behind = told_behind m n e c.in_ok-step.step in
    let a = advanced-to m n src _ _ c.args.name.seq c.in_ok-step.step c.requires.destination c.in_ok-step.ensures in
    told-all m n e c.in_ok-step.step c.tell_core.new.facts c.events.ensures.sound a
    (c.in-Ok.ensures src x m.commits s seen
    ∙ ap (λ fs. map fact_of fs ++ (taken src x s ++ (violated id m.commits x s ((world_of n).cores id)
    ++ (grant_given_up id x s.phase ++ behind)))) c.requires.empty
    ∙ joined (taken src x s) (violated id m.commits x s ((world_of n).cores id)) (grant_given_up id x s.phase) behind
    ∙ ap (λ fs. fs ++ behind) (sym (flown m n src (Core id) c.args.name.seq x c.requires.flies)))

pub returns-in-Err : goal.returns-in-Err
returns-in-Err c =
    let m = c.args.system.now in
    let n = c.advance.new.system in
    let src = node_of c.args.name.src in
    let k = c.args.name.seq in
    taken-enabled m n (Deliver src (Core c.args.id.0) k) c.in_ok-step.step
    (advanced-to m n src _ _ k c.in_ok-step.step c.requires.destination c.in_ok-step.ensures)
