-- The core in which the number falls, and the way that is so far into its own.
use Rattle.std.proofs.Common.{ap, ◌∙◌}
use Rattle.std.specs.Option.{option_map}
use Rattle.bus_tcc.specs.Machine.{bus_event_of}
use Rattle.bus_tcc.proofs.Choices.{core-fits, evict-found, evict-past, evict-there, same-ways}
use Rattle.bus_tcc.proofs.engine.Engine.evict_at.Goals as goal

pub returns-in_err-core : goal.returns-in_err-core
returns-in_err-core c =
    ap (option_map bus_event_of) c.from_residual.ensures
    ∙ evict-past c.args.self.now c.args.counts.now c.args.k c.requires c.in_err-core.ensures.below.1

pub overflow_cast-core : goal.overflow_cast-core
overflow_cast-core c =
    core-fits _ c.args.self.now c.args.counts.now c.args.k c.in_ok-core.core _ c.self.invariant c.self.view_is c.requires
    c.in_ok-core.ensures.falls

pub returns-in_err-set : goal.returns-in_err-set
returns-in_err-set c =
    absurd (evict-there c.args.self.now c.args.counts.now c.args.k c.in_ok-core.core _ _ c.requires c.in_ok-core.ensures.falls
    (same-ways _ c.args.self.now c.in_ok-core.core _ _ _ c.self.view_is c.core.ensures.config
    (ap (λ b. b.cores.code) c.self-inside.view_is) c.core.ensures.state)
    c.in_err-set.ensures)

pub returns : goal.returns
returns c =
    evict-found c.args.self.now c.args.counts.now c.args.k c.in_ok-core.core _ _ _ _ c.requires c.in_ok-core.ensures.falls
    (same-ways _ c.args.self.now c.in_ok-core.core _ _ _ c.self.view_is c.core.ensures.config
    (ap (λ b. b.cores.code) c.self-inside.view_is) c.core.ensures.state)
    c.in_ok-set.ensures
