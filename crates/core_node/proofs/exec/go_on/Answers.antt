use Rattle.rv_exec.specs.Running.{alone}
use Rattle.core_node.specs.View.{core_of}
use Rattle.core_node.proofs.Blocked.{blocked_some, ok_silently}
use Rattle.core_node.proofs.Needed.{does_plain}
use Rattle.core_node.proofs.exec.go_on.Goals as goal

pub returns-in_default-clause-does : goal.returns-in_default-clause-does
returns-in_default-clause-does c =
    let k = c.args.core.now in
    let same = does_plain k.config (alone c.args.inst.now) k.id.0 (core_of k) c.args.need c.requires.goes_on
    c.in_default.not-Load c.in_default.not-Store c.in_default.not-Amo in
    ok_silently c.finish_plain.result _ _ 1 c.args.out.now c.finish_plain.new.core same c.finish_plain.ensures.does

pub returns-in_default-clause-blocked : goal.returns-in_default-clause-blocked
returns-in_default-clause-blocked c =
    let k = c.args.core.now in
    blocked_some c.finish_plain.result _ _
    (does_plain k.config (alone c.args.inst.now) k.id.0 (core_of k) c.args.need c.requires.goes_on
    c.in_default.not-Load c.in_default.not-Store c.in_default.not-Amo)
    c.finish_plain.ensures.cause
