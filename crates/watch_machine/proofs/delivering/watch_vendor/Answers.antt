-- The request is taken, and a commit is told behind it.
use Rattle.std.proofs.Common.{◌++◌, ◌∷◌, append-nil, map, ap, sym, ◌∙◌}
use Rattle.rules_maps.specs.Bridge.{node_of}
use Rattle.rules_maps.specs.Nodes.{Core, Vendor, Deliver}
use Rattle.tcc_msg.specs.Plain.{msg_of}
use Rattle.watch.specs.Facts.{Took}
use Rattle.watch.specs.Happened.{commit_fact}
use Rattle.watch.specs.Plain.{fact_of}
use Rattle.watch_machine.specs.Watched.{told_commit}
use Rattle.watch_machine.proofs.Enabled.{taken-enabled}
use Rattle.watch_machine.proofs.Happening.{advanced-from, advanced-to, flown, told-all, told_behind}
use Rattle.watch_machine.proofs.delivering.watch_vendor.Goals as goal

pub returns-in-Ok : goal.returns-in-Ok
returns-in-Ok c =
    let m = c.args.system.now in
    let n = c.advance.new.system in
    let x = msg_of c.args.msg in
    let core = c.args.core.0 in
    let k = c.args.name.seq in
    let e = Deliver (Core core) Vendor k in
    let a = advanced-from m n _ _ Vendor k c.in_ok-step.step c.requires.source
    (advanced-to m n (node_of c.args.name.src) _ _ k c.in_ok-step.step c.requires.destination c.in_ok-step.ensures) in
    let behind = told_behind m n e c.in_ok-step.step in
    let noted = commit_fact (told_commit c.in_ok-step.step n.commits) in
    told-all m n e c.in_ok-step.step c.tell_vendor.new.facts c.events.ensures.sound a
    (c.in-Ok.ensures
    ∙ ap (λ fs. map fact_of fs ++ (Took x ∷ noted)) c.requires.empty
    ∙ ap (λ fs. Took x ∷ fs) (sym (append-nil noted))
    ∙ ap (λ fs. fs ++ behind) (sym (flown m n (Core core) Vendor k x c.requires.flies)))

pub returns-in-Err : goal.returns-in-Err
returns-in-Err c =
    let m = c.args.system.now in
    let n = c.advance.new.system in
    let k = c.args.name.seq in
    taken-enabled m n (Deliver (Core c.args.core.0) Vendor k) c.in_ok-step.step
    (advanced-from m n _ _ Vendor k c.in_ok-step.step c.requires.source
    (advanced-to m n (node_of c.args.name.src) _ _ k c.in_ok-step.step c.requires.destination c.in_ok-step.ensures))
