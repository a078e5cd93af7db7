-- One core after another.
use Rattle.std.proofs.Common.{◌≡◌, sym, ◌∙◌, add-one}
use Rattle.rules_phases.specs.Phased.{has_halted}
use Rattle.net_core.specs.Machine.{world_of}
use Rattle.tcc_phase.proofs.Requests.Behind.{behind-halted, behind-none, behind-running, halted-is}
use Rattle.tcc_phase.proofs.standing.earliest.Goals as goal
use Rattle.tcc_phase.proofs.standing.earliest.Goals.{then-not-has_halted, else-not-has_halted}

pub loop-core-init : goal.loop-core-init
loop-core-init c = λ q. behind-none (world_of c.args.system.now) c.args.own.now q

pub loop-core-preserved : goal.loop-core-preserved
loop-core-preserved c = λ q.
    let w = world_of c.args.system.now in
    let own = c.args.own.now in
    let n = c.loop-core.core in
    let is : has_halted (w.cores n).phase ≡ c.has_halted.result = halted-is c.has_halted.result (w.cores n).phase c.has_halted.ensures in
    elim c.if-not-has_halted.branch [
      | then-not-has_halted v ↦
          rw (add-one, v.least-is)
          (behind-running n w own c.loop-core.least q (is ∙ v.if-not-has_halted.true) (c.loop-core.invariant q)
          ∙ sym (v.lesser-least.ensures q))
      | else-not-has_halted v ↦
          rw (add-one, v.least-is) (behind-halted n w own c.loop-core.least q (is ∙ v.if-not-has_halted.false) (c.loop-core.invariant q))
    ]
