-- One core after another; others are as at the start.
use Rattle.std.proofs.Common.{◌≡◌, ℕ, ⊎_elim, ap, refl, sym, ◌∙◌, subst, arith}
use Rattle.std.proofs.lemmas.Bool.{cases_lt}
use Rattle.rules_maps.specs.Cache.{empty_cache}
use Rattle.rules_maps.specs.Shape.{Shape}
use Rattle.rules_program.specs.Program.{Local}
use Rattle.rules_tcc.specs.State.{CoreState, core_start}
use Rattle.core_node.specs.View.{core_of}
use Rattle.machine_cores.specs.Bank.{CoresData, cores_of}
use Rattle.machine_parts.specs.Cores.{IsGoodCore}
use Rattle.machine_parts.proofs.Below.{below-more, below-none}
use Rattle.machine_parts.proofs.cores.are_good_cores.Goals as goal

at-start : (sh : Shape) (events : ℕ) (l : Local) → IsGoodCore sh events (core_start l)
unfolding core_start empty_cache
at-start sh events l = record {
  attempt = record { instructions = omega arith; loads = omega arith; stores = omega arith; console = omega arith };
  marks = record { modified = λ x e. absurd (cc); dirty = λ x e. absurd (cc) };
  ends = λ e. absurd (cc);
}

good-config : (b : CoresData) (n events : ℕ) (sh : Shape) (s : CoreState) → sh ≡ b.code.settings → s ≡ cores_of b n
    → IsGoodCore sh events s → IsGoodCore b.code.settings events (cores_of b n)
good-config b n events sh s config state g =
    subst (λ k. IsGoodCore k events (cores_of b n)) config (subst (IsGoodCore sh events) state g)

pub loop-c-init : goal.loop-c-init
loop-c-init c = below-none (λ n. IsGoodCore c.args.cores.now.code.settings c.args.events (cores_of c.args.cores.now n))

pub returns-then-not-is_good_core : goal.returns-then-not-is_good_core
returns-then-not-is_good_core c = (
  λ t. absurd (cc),
  λ g. sym c.if-not-is_good_core.true ∙ c.is_good_core.ensures.1
      (subst (λ k. IsGoodCore k c.args.events (core_of c.core.result.now)) (sym c.core.ensures.config)
      (subst (IsGoodCore c.args.cores.now.code.settings c.args.events) (sym c.core.ensures.state) (g c.loop-c.c))),
)

pub loop-c-preserved : goal.loop-c-preserved
loop-c-preserved c =
    below-more c.loop-c.c (λ n. IsGoodCore c.args.cores.now.code.settings c.args.events (cores_of c.args.cores.now n)) c.loop-c.invariant
    (good-config c.args.cores.now c.loop-c.c c.args.events _ _ c.core.ensures.config c.core.ensures.state
    (c.is_good_core.ensures.0 c.if-not-is_good_core.false))

pub returns : goal.returns
returns c = (
  λ t n. ⊎_elim
      (λ l. c.loop-c.invariant n l)
      (λ l. subst (IsGoodCore c.args.cores.now.code.settings c.args.events)
      (sym (c.core_count.ensures.others n
      (let sum = c.cores-c-end.ensures.value in let code = ap (λ k. k.settings.cores) c.code.ensures in
      let config = ap (λ k. k.cores) c.config.ensures in omega (arith, l, c.loop-c-test.false, sum, code, config))))
      (at-start c.args.cores.now.code.settings c.args.events _)) (cases_lt n c.loop-c.c),
  λ g. refl,
)
