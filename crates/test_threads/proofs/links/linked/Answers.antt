use Rattle.std.proofs.Common.{◌≡◌, true, sym, refl, ap, subst}
use Rattle.tcc_base.specs.Settings.{Settings}
use Rattle.rules_maps.specs.Nodes.{Core, Vendor, TidReq}
use Rattle.rules_maps.specs.Messages.{fits}
use Rattle.net_links.specs.Linked.{MayCarry}
use Rattle.net_links.specs.declared.rule.Ends.{Ends}
use Rattle.test_threads.proofs.links.linked.Goals as goal

a_core_may_ask : (s : Settings) → s.cores ≡ 1 → fits s (Core 0) Vendor TidReq ≡ true
unfolding fits
a_core_may_ask s one = rw one refl

pub returns-clause-carried : goal.returns-clause-carried
returns-clause-carried c =
    let one = ap (λ (s : Settings). s.cores) c.in_ok-config.ensures.settings in
    subst (λ (e : Ends). MayCarry e TidReq) (sym c.in_ok-link.ensures.outlet.0)
    record { fits = a_core_may_ask c.in_ok-config.config one; line = tt; tid = tt }
