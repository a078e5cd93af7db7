use Rattle.std.proofs.Common.{◌≡◌, ◌&&◌, nat_eq, false, refl, ◌∙◌, sym}
use Rattle.rules_maps.specs.Masks.{has}
use Rattle.core_node.specs.View.{core_of}
use Rattle.core_node.proofs.Steps.{did_silently}
use Rattle.core_node.proofs.granting.reply_probing.Goals as goal

pub returns-else-is_awaited-clause-does : goal.returns-else-is_awaited-clause-does
unfolding core_of
returns-else-is_awaited-clause-does c =
    let e : (nat_eq c.args.own.0 c.args.tid.0 && has c.args.core.now.owing.bits c.args.d.0) ≡ false = sym c.is_awaited.ensures
    ∙ c.if-is_awaited.false in
    rw e (did_silently _ _ _ _ refl)
