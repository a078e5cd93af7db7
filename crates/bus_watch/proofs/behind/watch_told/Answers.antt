-- What was told before and what is told behind it are all that the event did.
use Rattle.std.proofs.Common.{◌<◌, ◌++◌, sym, ◌∙◌, subst}
use Rattle.bus_tcc.specs.Answers.{tid_told}
use Rattle.bus_tcc.specs.Machine.{bus_event_of, bus_world_of}
use Rattle.bus_watch.specs.Happened.{holder}
use Rattle.bus_watch.specs.Telling.{behind_told}
use Rattle.bus_watch.proofs.Happening.{told-all}
use Rattle.bus_watch.proofs.behind.watch_told.Goals as goal

pub tell_behind-requires : goal.tell_behind-requires
tell_behind-requires c = subst (λ k. c.args.id.0 < k.settings.cores) (sym c.in_ok-step.ensures.code) c.requires.exists

pub returns-in-Ok : goal.returns-in-Ok
returns-in-Ok c =
    let m = c.args.system.now in
    let n = c.step.new.self in
    let w = bus_world_of m in
    told-all m n (bus_event_of c.args.e) c.in_ok-step.step c.tell_behind.new.facts c.in_ok-step.ensures
    (c.in-Ok.ensures (w.cores c.args.id.0) (holder w) c.look_before-before.ensures
    ∙ (λ i. c.requires.told (bus_world_of n) i
    ++ behind_told n (sym c.requires.core i) (w.cores (sym c.requires.core i)).phase (holder w) (tid_told c.in_ok-step.step)))
