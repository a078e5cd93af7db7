-- The numbers are those of the core.
use Rattle.std.proofs.Common.{◌≡◌, ℕ, Bool, length, sym, subst, ◌≤◌}
use Rattle.std.specs.Prelude.{◌↔◌, IsTrue}
use Rattle.core_node.specs.View.{core_of}
use Rattle.core_node.specs.declared.state.Core.{Core}
use Rattle.theorem_bounds.specs.Bounds.{AttemptCounted}
use Rattle.machine_parts.proofs.cores.is_counted.Goals as goal

counted : (x : Core) (events a b d : ℕ) (r : Bool) → a ≡ length x.loads → b ≡ length x.stores → d ≡ length x.console
    → IsTrue r ↔ ((x.n ≤ events) × ((a ≤ x.n) × ((b ≤ x.n) × (d ≤ x.n)))) → IsTrue r ↔ AttemptCounted events (core_of x)
unfolding core_of
counted x events a b d r ea eb ed w = (
  λ t. let k = w.0 t in
      record {
        instructions = k.0;
        loads = subst (λ n. n ≤ x.n) ea k.1.0;
        stores = subst (λ n. n ≤ x.n) eb k.1.1.0;
        console = subst (λ n. n ≤ x.n) ed k.1.1.1;
      },
  λ k. w.1 (
    k.instructions,
    (subst (λ n. n ≤ x.n) (sym ea) k.loads, (subst (λ n. n ≤ x.n) (sym eb) k.stores, subst (λ n. n ≤ x.n) (sym ed) k.console)),
  ),
)

pub returns : goal.returns
returns c =
    subst (λ (x : Core). IsTrue c.are_counted.result ↔ AttemptCounted c.args.events (core_of x)) c.core-core.ensures
    (counted c.core-core.result.now c.args.events c.count.result c.count-2.result c.count-3.result c.are_counted.result c.count.ensures
    c.count-2.ensures c.count-3.ensures c.are_counted.ensures)
