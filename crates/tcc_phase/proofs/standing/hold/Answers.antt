-- One core after another.
use Rattle.std.proofs.Common.{◌≡◌, ℕ, Bool, [], ◌∷◌, ◌++◌, length, ap, sym, ◌∙◌, arith}
use Rattle.base_lemmas.proofs.Lemmas.{those-most}
use Rattle.net_core.specs.Machine.{program_of, settings_of, world_of}
use Rattle.tcc_phase.specs.Requests.{is_above}
use Rattle.tcc_phase.proofs.Requests.Those.{those-first, those-more, those-past}
use Rattle.tcc_phase.proofs.standing.hold.Goals as goal
use Rattle.tcc_phase.proofs.standing.hold.Goals.{then-is_above, else-is_above}

pub loop-core-init : goal.loop-core-init
loop-core-init c = (c.requires.none ∙ those-first _, c.requires.room)

pub push_reserved-requires : goal.push_reserved-requires
push_reserved-requires c =
    let m = c.args.system.now in
    let p : ℕ → Bool = is_above (settings_of m) (program_of m) (world_of m) c.args.least c.args.own.now c.args.asked.now in
    let i = c.loop-core.invariant in
    let cores : c.cores-core-end.result ≡ (settings_of m).cores = c.cores-core-end.ensures.value ∙ ap (λ k. k.cores) c.config.ensures in
    let many = ap length i.0 in
    let most = those-most p c.loop-core.core in
    let room = i.1 in
    omega (arith, many, most, room, cores, c.loop-core-test.true, c.loop-core.auto.core-end)

pub loop-core-preserved : goal.loop-core-preserved
loop-core-preserved c =
    let m = c.args.system.now in
    let p : ℕ → Bool = is_above (settings_of m) (program_of m) (world_of m) c.args.least c.args.own.now c.args.asked.now in
    let i = c.loop-core.invariant in
    elim c.if-is_above.branch [
      | then-is_above w ↦
          rw w.held-is (
            w.push_reserved.ensures.items ∙ ap (λ xs. xs ++ c.loop-core.core ∷ []) i.0
                ∙ those-more p c.loop-core.core (sym c.is_above.ensures ∙ w.if-is_above.true),
            omega (arith, i.1, w.push_reserved.ensures.capacity),
          )
      | else-is_above w ↦
          rw w.held-is (i.0 ∙ sym (those-past p c.loop-core.core (sym c.is_above.ensures ∙ w.if-is_above.false)), i.1)
    ]
