-- What the packet does to the core is told.
use Rattle.std.proofs.Common.{◌++◌, map, ap, ◌∙◌}
use Rattle.bus_tcc.specs.Machine.{bus_settings_of, bus_world_of}
use Rattle.bus_watch.specs.Happened.{taken}
use Rattle.bus_watch.specs.Plain.{bus_fact_of}
use Rattle.bus_watch.proofs.Enabled.{take-named}
use Rattle.bus_watch.proofs.taking.watch_take.Goals as goal

pub tell_taken-requires : goal.tell_taken-requires
tell_taken-requires c = take-named c.args.system.now c.args.id.0 c.requires.enabled

pub watch_told-requires-clause-exists : goal.watch_told-requires-clause-exists
watch_told-requires-clause-exists c = take-named c.args.system.now c.args.id.0 c.requires.enabled

pub watch_told-requires-clause-told : goal.watch_told-requires-clause-told
watch_told-requires-clause-told c = λ v. c.in-Ok.ensures
    ∙ ap (λ fs. map bus_fact_of fs
    ++ taken (bus_settings_of c.args.system.now) c.args.system.now.commits (bus_world_of c.args.system.now) c.args.id.0) c.requires.empty
