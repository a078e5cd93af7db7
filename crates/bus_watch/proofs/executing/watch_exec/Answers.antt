-- What was seen before the execution and what is told behind it are all that it did.
use Rattle.std.proofs.Common.{◌<◌, ◌++◌, map, ap, sym, ◌∙◌, subst}
use Rattle.image_load.specs.Contents.{started}
use Rattle.rv_code.specs.Machine.{program}
use Rattle.core_node.specs.View.{core_of}
use Rattle.rules_bus.specs.State.{Exec}
use Rattle.bus_tcc.specs.Machine.{bus_program_of, bus_settings_of, bus_world_of}
use Rattle.bus_watch.specs.Happened.{executed, holder}
use Rattle.bus_watch.specs.Plain.{bus_fact_of}
use Rattle.bus_watch.specs.Telling.{SawExec}
use Rattle.bus_watch.proofs.Enabled.{exec-named}
use Rattle.bus_watch.proofs.Happening.{told-all, told_behind}
use Rattle.bus_watch.proofs.executing.watch_exec.Goals as goal

pub core-requires : goal.core-requires
core-requires c = exec-named c.args.system.now c.args.id.0 c.requires.enabled

pub look_before-before-requires : goal.look_before-before-requires
look_before-before-requires c = exec-named c.args.system.now c.args.id.0 c.requires.enabled

pub tell_exec-requires : goal.tell_exec-requires
tell_exec-requires c =
    subst (λ k. c.args.id.0 < k.settings.cores) (sym c.in_ok-step.ensures.code)
    (exec-named c.args.system.now c.args.id.0 c.requires.enabled)

pub returns-in-Ok : goal.returns-in-Ok
returns-in-Ok c =
    let m = c.args.system.now in
    let n = c.step.new.self in
    let a = c.in_ok-step.ensures in
    let id = c.args.id.0 in
    let s = (bus_world_of m).cores id in
    let t = (bus_world_of n).cores id in
    let r = c.look-seen.result in
    let seen = subst (λ k. SawExec r k.settings (program (started k)) s) (sym a.code)
    (subst (λ x. SawExec r (bus_settings_of m) (program (started m.code)) x) c.core.ensures.state
    (subst (λ k. SawExec r (bus_settings_of m) (program (started k)) (core_of c.core.result.now)) c.code.ensures
    (subst (λ k. SawExec r k (program (started c.code.result.now)) (core_of c.core.result.now)) c.core.ensures.config
    c.look-seen.ensures))) in
    told-all m n (Exec id) c.in_ok-step.step c.tell_exec.new.facts a
    (c.in-Ok.ensures s (holder (bus_world_of m)) seen c.look_before-before.ensures
    ∙ ap (λ fs. map bus_fact_of fs
    ++ (executed (bus_settings_of n) (bus_program_of n) id s t ++ told_behind m n (Exec id) c.in_ok-step.step))
    c.requires.empty
    ∙ ap (λ k. executed k.settings (program (started k)) id s t ++ told_behind m n (Exec id) c.in_ok-step.step) a.code)
