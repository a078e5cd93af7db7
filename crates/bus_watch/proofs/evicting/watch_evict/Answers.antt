-- What stood in the way before is told.
use Rattle.std.proofs.Common.{◌<◌, ◌++◌, map, sym, ◌∙◌, subst}
use Rattle.watch.specs.Instructions.{evicted}
use Rattle.bus_watch.specs.Facts.{Common}
use Rattle.bus_watch.specs.Plain.{bus_fact_of}
use Rattle.bus_watch.proofs.Enabled.{way-named}
use Rattle.bus_watch.proofs.evicting.watch_evict.Goals as goal

pub core-requires : goal.core-requires
core-requires c = (way-named c.args.system.now c.args.id.0 c.args.set c.args.way c.requires.enabled).core

pub tell_evicted-requires-clause-set_exists : goal.tell_evicted-requires-clause-set_exists
tell_evicted-requires-clause-set_exists c =
    subst (λ s. c.args.set < s.sets) (sym c.core.ensures.config)
    (way-named c.args.system.now c.args.id.0 c.args.set c.args.way c.requires.enabled).set

pub tell_evicted-requires-clause-way_exists : goal.tell_evicted-requires-clause-way_exists
tell_evicted-requires-clause-way_exists c =
    subst (λ s. c.args.way < s.ways) (sym c.core.ensures.config)
    (way-named c.args.system.now c.args.id.0 c.args.set c.args.way c.requires.enabled).way

pub watch_told-requires-clause-exists : goal.watch_told-requires-clause-exists
watch_told-requires-clause-exists c = (way-named c.args.system.now c.args.id.0 c.args.set c.args.way c.requires.enabled).core

pub watch_told-requires-clause-told : goal.watch_told-requires-clause-told
watch_told-requires-clause-told c = λ v. c.in-Ok.ensures
    ∙ (λ i. map bus_fact_of (c.requires.empty i) ++ map Common (evicted c.args.id.0 c.args.set c.args.way (c.core.ensures.state i)))
