-- What stood in the way before, and what is told behind the eviction, are all that it did.
use Rattle.std.proofs.Common.{◌<◌, ◌++◌, map, ap, sym, ◌∙◌, subst}
use Rattle.rules_maps.specs.Nodes.{Evict}
use Rattle.net_core.specs.Machine.{world_of}
use Rattle.watch.specs.Happened.{commit_fact, phase_fact}
use Rattle.watch.specs.Instructions.{evicted}
use Rattle.watch.specs.Plain.{fact_of}
use Rattle.watch_machine.specs.Watched.{told_commit}
use Rattle.watch_machine.proofs.Enabled.{way-named}
use Rattle.watch_machine.proofs.Happening.{told-all}
use Rattle.watch_machine.proofs.evicting.watch_evict.Goals as goal

pub core-core-requires : goal.core-core-requires
core-core-requires c = (way-named c.args.system.now c.args.id.0 c.args.set c.args.way c.requires.enabled).core

pub evicted-held-requires-clause-set_exists : goal.evicted-held-requires-clause-set_exists
evicted-held-requires-clause-set_exists c =
    subst (λ s. c.args.set < s.sets) (sym c.core-core.ensures.config)
    (way-named c.args.system.now c.args.id.0 c.args.set c.args.way c.requires.enabled).set

pub evicted-held-requires-clause-way_exists : goal.evicted-held-requires-clause-way_exists
evicted-held-requires-clause-way_exists c =
    subst (λ s. c.args.way < s.ways) (sym c.core-core.ensures.config)
    (way-named c.args.system.now c.args.id.0 c.args.set c.args.way c.requires.enabled).way

pub tell_evict-requires : goal.tell_evict-requires
tell_evict-requires c =
    subst (λ k. c.args.id.0 < k.settings.cores) (sym c.in_ok-step.ensures.code)
    (way-named c.args.system.now c.args.id.0 c.args.set c.args.way c.requires.enabled).core

pub returns-in-Ok : goal.returns-in-Ok
returns-in-Ok c =
    let m = c.args.system.now in
    let n = c.advance.new.system in
    let id = c.args.id.0 in
    let t = (world_of n).cores id in
    let held = c.evicted-held.ensures ∙ ap (evicted id c.args.set c.args.way) c.core-core.ensures.state in
    let phase = c.phase-before.ensures ∙ ap (λ s. s.phase) c.core-core.ensures.state in
    told-all m n (Evict id c.args.set c.args.way) c.in_ok-step.step c.tell_evict.new.facts c.events.ensures.sound c.in_ok-step.ensures
    (c.in-Ok.ensures
    ∙ (λ i. map fact_of (c.requires.empty i) ++ (held i ++ (commit_fact (told_commit c.in_ok-step.step n.commits)
    ++ phase_fact id (phase i) t.phase))))
