-- By the core's cache.
use Rattle.std.proofs.Common.{ap, sym, ◌∙◌, is_some, subst, ◌<◌}
use Rattle.rules_tcc.specs.CoreEvict.{core_evict}
use Rattle.machine_cores.specs.Bank.{cores_of}
use Rattle.bus_tcc.specs.Machine.{bus_settings_of}
use Rattle.bus_tcc.proofs.Enabling.{evict-enabled}
use Rattle.bus_tcc.proofs.Events.{bank_in, no-evict}
use Rattle.bus_tcc.proofs.engine.Engine.allows_evict.Goals as goal

pub returns-then-not-has_way : goal.returns-then-not-has_way
returns-then-not-has_way c =
    sym (ap is_some (no-evict c.args.self.now c.config.result.now c.args.core.0 c.args.set c.args.way c.config.ensures
    (λ h. let q = c.if-not-has_way.ensures.1 h in absurd (cc))))

pub returns : goal.returns
returns c =
    let has = subst (λ s. (c.args.core.0 < s.cores) × (c.args.set < s.sets) × (c.args.way < s.ways)) c.config.ensures
    (c.if-not-has_way.ensures.0 (search)) in
    c.can_evict.ensures
    ∙ (λ i. is_some (core_evict (c.core.ensures.config i) c.args.set c.args.way (c.core.ensures.state i)))
    ∙ ap (λ m. is_some (core_evict (bus_settings_of m) c.args.set c.args.way (cores_of (bank_in m) c.args.core.0))) c.self.view_is
    ∙ sym (evict-enabled c.args.self.now c.args.core.0 c.args.set c.args.way has)
