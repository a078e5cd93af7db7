-- A member at its start is whole.
use Rattle.std.proofs.Common.{◌∙◌, ap, subst}
use Rattle.std.specs.Arc.{arc_value}
use Rattle.tcc_base.specs.Settings.{IsAllowed}
use Rattle.apart_member.proofs.Starts.{starts-whole}
use Rattle.apart_member.proofs.member.at_start.Goals as goal

pub invariant_of-result : goal.invariant_of-result
invariant_of-result c =
    starts-whole (arc_value c.args.code) c.args.kind
    (subst IsAllowed (c.config.ensures ∙ ap (λ k. k.settings) c.deref.ensures) c.cores-cores.ensures.allowed)
    c.requires.exists c.requires.placed c.requires.start
