-- A core takes a packet.
use Rattle.std.proofs.Common.{ap, ◌∙◌}
use Rattle.tcc_base.specs.Put.{put}
use Rattle.machine_cores.specs.Bank.{cores_of}
use Rattle.bus_tcc.specs.Taking.{took}
use Rattle.bus_tcc.proofs.Banks.{acted-whole, cores-acted, here, state-here}
use Rattle.bus_tcc.proofs.bank.BusBank.take.Goals as goal

pub invariant_of-self : goal.invariant_of-self
invariant_of-self c =
    let h = here _ c.self.inside _ c.args.core.0 _ c.self-inside.view_is c.self.invariant c.self.view_is c.requires.exists
    c.index_mut.ensures.value in
    acted-whole _ _ _ _ _ h c.take_lines.ensures.config c.take_lines.ensures.id

pub returns-clause-does : goal.returns-clause-does
returns-clause-does c =
    let h = here _ c.self.inside _ c.args.core.0 _ c.self-inside.view_is c.self.invariant c.self.view_is c.requires.exists
    c.index_mut.ensures.value in
    cores-acted _ _ c.args.core.0 _ _ h
    ∙ ap (put (cores_of c.args.self.now) c.args.core.0) (c.take_lines.ensures.does ∙ ap (took c.args.lines.now) (state-here _ _ _ _ h))
