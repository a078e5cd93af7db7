-- The k-th execution.
use Rattle.std.proofs.Common.{◌∙◌, ap, sym}
use Rattle.std.specs.Option.{option_map}
use Rattle.tcc_msg.specs.Plain.{event_of}
use Rattle.machine_cores.proofs.Choices.{exec-founds, exec-pasts}
use Rattle.machine_cores.proofs.bank.CoreBank.exec_at.Goals as goal

pub returns-in_err-core : goal.returns-in_err-core
returns-in_err-core c =
    ap (option_map event_of) c.from_residual.ensures
    ∙ sym (exec-pasts c.self.inside _ c.args.k c.self.invariant c.self.view_is c.in_err-core.ensures.below.1)

pub returns : goal.returns
returns c = sym (exec-founds c.self.inside _ c.args.k _ _ c.self.invariant c.self.view_is c.in_ok-core.ensures.falls)
