-- A count of transactions keeps up with the cores that run.
use Rattle.std.proofs.Common.{ℕ, zero, suc, ◌+◌, ◌≡◌, ◌<◌, ◌^◌, ◌-◌, min, List, refl, ◌∙◌, ap, length, add-one, arith}
use Rattle.run_outcomes.proofs.Reach.{state-kept}
use Rattle.run_outcomes.specs.Counted.{total, runs, running, all_running, Counts}
use Rattle.run_outcomes.specs.Explored.{IsGrown, state_at}
use Rattle.run_outcomes.specs.States.{core_in}
use Rattle.run_outcomes.specs.declared.states.Snapshot.{Snapshot}
use Rattle.tcc_base.specs.declared.access.CoreEnd.{CoreEnd}
use Rattle.tcc_base.specs.declared.access.CoreEnd.TheVariants.{Run, Halt, Trap}

total-next : (f : ℕ → ℕ) (n : ℕ) → total f (n + 1) ≡ total f n + f n
unfolding total
total-next f n = rw (add-one n) refl

total-same : (f g : ℕ → ℕ) (n : ℕ) → ((k : ℕ) → k < n → f k ≡ g k) → total f n ≡ total g n
unfolding total
total-same f g zero same = refl
total-same f g (suc n) same =
    let rest : total f n ≡ total g n = total-same f g n (λ k lt. same k (omega (arith, lt))) in
    let last : f n ≡ g n = same n (omega arith) in
    omega (arith, rest, last)

pub stopped-runs : (end : CoreEnd) → (end ≡ Run → ⊥) → runs end ≡ 0
stopped-runs Run h = absurd (h refl)
stopped-runs (Halt code) h = refl
stopped-runs (Trap code) h = refl

-- one core more
pub running-next : (s s' : Snapshot) (first before now core : ℕ) → s' ≡ s → Counts before (first + running s core)
    → Counts now (before + runs (core_in s' core).ended) → Counts now (first + running s (core + 1))
running-next s s' first before now core same old new =
    let n : now ≡ min (before + runs (core_in s' core).ended) (2 ^ 64 - 1) = new in
    let o : before ≡ min (first + running s core) (2 ^ 64 - 1) = old in
    let t : running s (core + 1) ≡ running s core + runs (core_in s core).ended =
    total-next (λ c. runs (core_in s c).ended) core in
    let r : runs (core_in s' core).ended ≡ runs (core_in s core).ended = ap (λ x. runs (core_in x core).ended) same in
    omega (arith, n, o, t, r)

-- one state more
pub states-next : (cores : ℕ) (old new : List Snapshot) (n before now : ℕ) → IsGrown old new → n < length old
    → Counts before (all_running cores old n) → Counts now (before + running (state_at old n) cores)
    → Counts now (all_running cores new (n + 1))
states-next cores old new n before now g lt was is =
    let s : now ≡ min (before + running (state_at old n) cores) (2 ^ 64 - 1) = is in
    let o : before ≡ min (all_running cores old n) (2 ^ 64 - 1) = was in
    let kept : (k : ℕ) → k < length old → state_at new k ≡ state_at old k =
    λ k below. ap (λ x. state_at x k) g.1 ∙ state-kept old g.0 k below in
    let t : all_running cores new (n + 1) ≡ all_running cores new n + running (state_at new n) cores =
    total-next (λ k. running (state_at new k) cores) n in
    let e : all_running cores new n ≡ all_running cores old n =
    total-same (λ k. running (state_at new k) cores) (λ k. running (state_at old k) cores) n
    (λ k below. ap (λ x. running x cores) (kept k (omega (arith, below, lt)))) in
    let r : running (state_at new n) cores ≡ running (state_at old n) cores = ap (λ x. running x cores) (kept n lt) in
    omega (arith, s, o, t, e, r)
