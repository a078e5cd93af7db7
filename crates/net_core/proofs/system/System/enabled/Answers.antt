-- Which events are enabled.
use Rattle.std.proofs.Common.{rules, None, ◌≡◌, ◌<◌, ◌≤◌, ℕ, Some, sym, ap, ◌∙◌, subst, arith}
use Rattle.std.specs.Prelude.{false, is_some, nat_lt}
use Rattle.std.proofs.lemmas.Bool.Decides.{nat_tests}
use Rattle.std.proofs.lemmas.Bool.{le-ltb}
use Rattle.rules_maps.specs.Bridge.{node_of}
use Rattle.tcc_msg.specs.Plain.{event_of, msg_of}
use Rattle.rules_maps.specs.Nodes.{Evict}
use Rattle.rules_tcc.specs.Links.{in_flight}
use Rattle.machine_dirs.specs.Bank.{dirs_of}
use Rattle.net_core.specs.Answers.{step_of}
use Rattle.net_core.specs.Delivery.{AllMayGo, MayGo, is_deliverable}
use Rattle.net_core.specs.Inside.{machine_of}
use Rattle.net_core.specs.Machine.{settings_of, start_of, world_of}
use Rattle.image_load.specs.Start.{first_ram}
use Rattle.net_core.proofs.Useful.Enabled.{absent-refused, evict-enabled, evict-refused, exec-enabled, exec-refused, flying-enabled}
use Rattle.net_core.proofs.Keeping.{may-all-go}
use Rattle.net_core.proofs.system.System.enabled.Goals as goal
use Rattle.net_core.proofs.system.System.enabled.Goals.{then-core-cores-2, else-core-cores-2, then-set-sets, else-set-sets}

pub is_ready-requires : goal.is_ready-requires
unfolding AllMayGo
is_ready-requires c =
    let m = machine_of c.self.inside in
    let src = node_of c.in-Deliver.name.src in
    let dst = node_of c.in-Deliver.name.dst in
    let x = msg_of c.in-Some.msg.now in
    let fly : in_flight (world_of m).net src dst c.in-Deliver.name.seq ≡ Some x =
    ap (λ o. in_flight (world_of o).net src dst c.in-Deliver.name.seq) c.self.view_is ∙ sym c.in-Some.ensures in
    subst (λ s. MayGo s src dst x) (sym c.self.invariant.dirs) (may-all-go m c.self.invariant src dst c.in-Deliver.name.seq x fly)

pub returns-then-core-cores : goal.returns-then-core-cores
returns-then-core-cores c =
    let m = machine_of c.self.inside in
    let config : c.config-config.result.now ≡ settings_of m = c.config-config.ensures ∙ ap settings_of (sym c.self.view_is) in
    let h : c.in-Exec.core.0 < (settings_of m).cores = subst (λ s. c.in-Exec.core.0 < s.cores) config
    (subst (λ k. c.in-Exec.core.0 < k) c.cores.ensures.value c.if-core-cores.true) in
    c.can_exec.ensures ∙ sym (exec-enabled m c.in-Exec.core.0 h)
    ∙ (λ i. is_some (step_of (c.self.view_is i) (event_of (sym c.in-Exec.is i))))

pub returns-else-core-cores : goal.returns-else-core-cores
returns-else-core-cores c =
    let m = machine_of c.self.inside in
    let config : c.config-config.result.now ≡ settings_of m = c.config-config.ensures ∙ ap settings_of (sym c.self.view_is) in
    let h : (settings_of m).cores ≤ c.in-Exec.core.0 = subst (λ s. s.cores ≤ c.in-Exec.core.0) config
    (subst (λ k. k ≤ c.in-Exec.core.0) c.cores.ensures.value c.if-core-cores.false) in
    le-ltb c.in-Exec.core.0 c.cores.result c.if-core-cores.false
    ∙ sym (ap is_some (exec-refused m c.in-Exec.core.0 h))
    ∙ (λ i. is_some (step_of (c.self.view_is i) (event_of (sym c.in-Exec.is i))))

pub returns-then-way-ways : goal.returns-then-way-ways
returns-then-way-ways c =
    let m = machine_of c.self.inside in
    let a : c.in-Evict.core.0 < (settings_of m).cores = search rules in
    let b : c.in-Evict.set < (settings_of m).sets = search rules in
    let d : c.in-Evict.way < (settings_of m).ways = search rules in
    c.can_evict.ensures ∙ sym (evict-enabled m c.in-Evict.core.0 c.in-Evict.set c.in-Evict.way (a, b, d))
    ∙ (λ i. is_some (step_of (c.self.view_is i) (event_of (sym c.in-Evict.is i))))

not-below : (k n b : ℕ) → nat_lt k n ≡ false → n ≡ b → k < b → ⊥
not-below k n b e q h = grind (arith, nat_tests)

pub returns-else-way-ways : goal.returns-else-way-ways
returns-else-way-ways c =
    let m = machine_of c.self.inside in
    let config : c.config-config.result.now ≡ settings_of m = c.config-config.ensures ∙ ap settings_of (sym c.self.view_is) in
    let none : step_of m (Evict c.in-Evict.core.0 c.in-Evict.set c.in-Evict.way) ≡ None =
    evict-refused m c.in-Evict.core.0 c.in-Evict.set c.in-Evict.way (λ h. elim c.if-set-sets.branch [
      | then-set-sets w ↦ not-below c.in-Evict.way w.ways.result (settings_of m).ways (sym w.value-is ∙ c.if-way-ways.false)
          (w.ways.ensures.value ∙ ap (λ s. s.ways) config) h.2
      | else-set-sets w ↦ elim c.if-core-cores-2.branch [
        | then-core-cores-2 v ↦ not-below c.in-Evict.set v.sets.result (settings_of m).sets (sym v.value-is ∙ w.if-set-sets.false)
            (v.sets.ensures.value ∙ ap (λ s. s.sets) config) h.1
        | else-core-cores-2 v ↦ not-below c.in-Evict.core.0 c.cores-in-Evict.result (settings_of m).cores
            (sym v.value-is ∙ w.if-set-sets.false) (c.cores-in-Evict.ensures.value ∙ ap (λ s. s.cores) config) h.0
      ]
    ]) in
    c.if-way-ways.false ∙ sym (ap is_some none) ∙ (λ i. is_some (step_of (c.self.view_is i) (event_of (sym c.in-Evict.is i))))

pub returns-in-Some : goal.returns-in-Some
returns-in-Some c =
    let m = machine_of c.self.inside in
    let src = node_of c.in-Deliver.name.src in
    let dst = node_of c.in-Deliver.name.dst in
    let x = msg_of c.in-Some.msg.now in
    let ram = first_ram (start_of m) in
    let fly : in_flight (world_of m).net src dst c.in-Deliver.name.seq ≡ Some x =
    ap (λ o. in_flight (world_of o).net src dst c.in-Deliver.name.seq) c.self.view_is ∙ sym c.in-Some.ensures in
    c.is_ready.ensures ram ∙ ap (λ s. is_deliverable s (dirs_of ram m.dirs) src dst x) c.self.invariant.dirs
    ∙ sym (flying-enabled m c.self.invariant src dst c.in-Deliver.name.seq x fly)
    ∙ (λ i. is_some (step_of (c.self.view_is i) (event_of (sym c.in-Deliver.is i))))

pub returns-in-None : goal.returns-in-None
returns-in-None c =
    let src = node_of c.in-Deliver.name.src in
    let dst = node_of c.in-Deliver.name.dst in
    sym (ap is_some (absent-refused c.args.self.now src dst c.in-Deliver.name.seq (sym c.in-None.ensures)))
    ∙ ap (λ e. is_some (step_of c.args.self.now (event_of e))) (sym c.in-Deliver.is)
