-- By the packet that is on the bus.
use Rattle.std.proofs.Common.{ap, sym, ◌∙◌, is_some, subst, ◌<◌}
use Rattle.bus_tcc.specs.Left.{is_left}
use Rattle.bus_tcc.specs.Machine.{bus_of, bus_world_of}
use Rattle.bus_tcc.proofs.Enabling.{take-enabled}
use Rattle.bus_tcc.proofs.AfterTake.{no-core}
use Rattle.bus_tcc.proofs.engine.Engine.allows_take.Goals as goal

pub returns-then-core-cores : goal.returns-then-core-cores
returns-then-core-cores c =
    sym (ap is_some (no-core c.args.self.now c.args.core.0 c.cores.result (c.cores.ensures.value ∙ ap (λ s. s.cores) c.config.ensures)
    c.if-core-cores.true))

pub returns : goal.returns
unfolding bus_world_of
returns c =
    let l = subst (λ k. c.args.core.0 < k) (c.cores.ensures.value ∙ ap (λ s. s.cores) c.config.ensures) c.if-core-cores.false in
    c.is_left.ensures ∙ ap (λ m. is_left (bus_of m.bus) c.args.core.0) c.self.view_is ∙ sym (take-enabled c.args.self.now c.args.core.0 l)
