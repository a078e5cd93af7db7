-- Whether a core's transaction ends.
use Rattle.std.proofs.Common.{◌∙◌, ap, sym}
use Rattle.image_load.specs.Contents.{started}
use Rattle.rv_code.specs.Machine.{program}
use Rattle.machine_cores.specs.Bank.{cores_of}
use Rattle.core_node.specs.AtHand.{ends_by}
use Rattle.bus_tcc.proofs.bank.BusBank.ends.Goals as goal

pub ends-requires : goal.ends-requires
ends-requires c = ap (λ d. d.code.settings) c.self.view_is ∙ sym c.core.ensures.config

pub returns : goal.returns
returns c =
    let now = c.args.self.now in
    c.ends.ensures
    ∙ ap (λ y. ends_by ((program (started c.self.inside.code)).need y.local)) c.core.ensures.state
    ∙ ap (λ d. ends_by ((program (started d.code)).need (cores_of now c.args.core.0).local)) c.self.view_is
