-- What was seen before the execution and what is told behind it are all that it did.
use Rattle.std.proofs.Common.{◌<◌, ◌++◌, map, ap, sym, ◌∙◌, subst}
use Rattle.image_load.specs.Contents.{started}
use Rattle.rv_code.specs.Machine.{program}
use Rattle.rules_maps.specs.Nodes.{Exec}
use Rattle.net_core.specs.Machine.{settings_of, world_of}
use Rattle.watch.specs.Instructions.{executed}
use Rattle.watch.specs.Plain.{fact_of}
use Rattle.watch_core.specs.Seen.{Saw}
use Rattle.watch_machine.proofs.Enabled.{core-named}
use Rattle.watch_machine.proofs.Happening.{told-all, told_behind}
use Rattle.watch_machine.proofs.executing.watch_exec.Goals as goal

pub look-seen-requires : goal.look-seen-requires
look-seen-requires c = core-named c.args.system.now c.args.id.0 c.requires.enabled

pub tell_exec-requires : goal.tell_exec-requires
tell_exec-requires c =
    subst (λ k. c.args.id.0 < k.settings.cores) (sym c.in_ok-step.ensures.code)
    (core-named c.args.system.now c.args.id.0 c.requires.enabled)

pub returns-in-Ok : goal.returns-in-Ok
returns-in-Ok c =
    let m = c.args.system.now in
    let n = c.advance.new.system in
    let a = c.in_ok-step.ensures in
    let id = c.args.id.0 in
    let s = (world_of m).cores id in
    let t = (world_of n).cores id in
    let seen = subst (λ k. Saw c.look-seen.result (program (started k)) s) (sym a.code) c.look-seen.ensures in
    told-all m n (Exec id) c.in_ok-step.step c.tell_exec.new.facts c.events.ensures.sound a
    (c.in-Ok.ensures s seen
    ∙ ap (λ fs. map fact_of fs
    ++ (executed (settings_of n) (program (started n.cores.code)) id s t ++ told_behind m n (Exec id) c.in_ok-step.step))
    c.requires.empty
    ∙ ap (λ k. executed k.settings (program (started k)) id s t ++ told_behind m n (Exec id) c.in_ok-step.step) a.code)
