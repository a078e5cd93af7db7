-- A request is held back where its core is late; all else isn't.
use Rattle.std.proofs.Common.{◌≡◌, false, ap, sym, ◌∙◌, subst, arith}
use Rattle.std.specs.Prelude.{nat_lt, option_map}
use Rattle.std.proofs.lemmas.Bool.Decides.{nat_tests}
use Rattle.tcc_base.specs.declared.names.CoreId.{CoreId}
use Rattle.tcc_msg.specs.Plain.{event_of}
use Rattle.image_load.specs.Contents.{started}
use Rattle.net_core.specs.Machine.{Machine, settings_of}
use Rattle.tcc_base.specs.Settings.{Settings}
use Rattle.tcc_phase.specs.Phased.{PhaseMachine}
use Rattle.tcc_phase.proofs.Holding.{Holds, absent-of, free-of, late-of}
use Rattle.tcc_phase.proofs.system.PhaseSystem.holds_back.Goals as goal

pub is_late-requires : goal.is_late-requires
unfolding started
is_late-requires c =
    let q = c.cores.ensures.value ∙ ap (λ (k : Settings). k.cores) c.config.ensures
    ∙ ap (λ (m : Machine). (settings_of m).cores) c.system-system.ensures.machine in
    let rows = c.self.invariant.kept.rows.own in
    omega (arith, q, rows, c.if-core-cores.true)

pub returns-then-core-cores : goal.returns-then-core-cores
returns-then-core-cores c =
    let by = sym c.asker.ensures ∙ ap (option_map (λ (x : CoreId). x.0)) c.in-Some.is in
    let q = c.cores.ensures.value ∙ ap (λ (k : Settings). k.cores) c.config.ensures
    ∙ ap (λ (m : Machine). (settings_of m).cores) c.system-system.ensures.machine in
    subst (λ (p : PhaseMachine). Holds p.refined.machine (event_of c.args.e) c.is_late.result) c.self.view_is
    (late-of c.self.inside.refined.machine c.self.inside.standing (event_of c.args.e) c.in-Some.core.0 c.is_late.result by
    c.self.invariant.kept (omega (arith, q, c.if-core-cores.true)) c.is_late.ensures)

pub returns-else-core-cores : goal.returns-else-core-cores
returns-else-core-cores c =
    let by = sym c.asker.ensures ∙ ap (option_map (λ (x : CoreId). x.0)) c.in-Some.is in
    let q = c.cores.ensures.value ∙ ap (λ (k : Settings). k.cores) c.config.ensures
    ∙ ap (λ (m : Machine). (settings_of m).cores) c.system-system.ensures.machine in
    let h = c.if-core-cores.false in
    let t : nat_lt c.in-Some.core.0 c.cores.result ≡ false = grind (arith, nat_tests) in
    let u : nat_lt c.in-Some.core.0 (settings_of c.self.inside.refined.machine).cores ≡ false = ap (nat_lt c.in-Some.core.0) (sym q) ∙ t in
    subst (λ (p : PhaseMachine). Holds p.refined.machine (event_of c.args.e) (nat_lt c.in-Some.core.0 c.cores.result)) c.self.view_is
    (subst (λ b. Holds c.self.inside.refined.machine (event_of c.args.e) b) (sym t)
    (absent-of c.self.inside.refined.machine (event_of c.args.e) c.in-Some.core.0 by u))

pub returns-in-None : goal.returns-in-None
returns-in-None c =
    subst (λ (p : PhaseMachine). Holds p.refined.machine (event_of c.args.e) false) c.self.view_is
    (free-of c.self.inside.refined.machine (event_of c.args.e)
    (sym c.asker.ensures ∙ ap (option_map (λ (x : CoreId). x.0)) c.in-None.is))
