-- The k-th useful eviction.
use Rattle.std.proofs.Common.{◌∙◌, ap, sym, Some}
use Rattle.std.specs.Option.{option_map}
use Rattle.tcc_msg.specs.Plain.{event_of}
use Rattle.machine_cores.proofs.Choices.{evict-founds, evict-pasts, evict-there}
use Rattle.machine_cores.proofs.bank.CoreBank.evict_at.Goals as goal

pub returns-in_err-core : goal.returns-in_err-core
returns-in_err-core c =
    ap (option_map event_of) c.from_residual.ensures
    ∙ sym (evict-pasts c.self.inside _ c.args.k c.self.invariant c.self.view_is c.in_err-core.ensures.below.1)

pub returns-in_err-set : goal.returns-in_err-set
returns-in_err-set c =
    absurd (evict-there c.self.inside _ c.args.k _ _ c.core.result.now _ c.self.invariant c.self.view_is c.in_ok-core.ensures.falls
    c.core.ensures.config c.core.ensures.state c.useful_evict.ensures c.in_err-set.was)

pub returns : goal.returns
returns c =
    evict-founds c.self.inside _ c.args.k _ _ c.core.result.now (Some (c.in_ok-set.set, c.in_ok-set.way)) c.self.invariant c.self.view_is
    c.in_ok-core.ensures.falls c.core.ensures.config c.core.ensures.state (sym c.in_ok-set.was ∙ c.useful_evict.ensures)
