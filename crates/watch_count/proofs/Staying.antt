-- The numbers of a core, to which the events since it came to its phase are added late.
use Rattle.std.proofs.Common.{◌≡◌, ◌≢◌, ℕ, suc, ◌+◌, ◌-◌, ◌≤◌, List, [], ◌∷◌, map, refl, ap, ◌∙◌, arith}
use Rattle.std.specs.Prelude.{All}
use Rattle.std.proofs.lemmas.List.Elements.{All-head, All-tail}
use Rattle.tcc_base.specs.declared.names.CoreId.{CoreId}
use Rattle.commit_engine.specs.declared.phase.Phase.{Phase}
use Rattle.watch.specs.Facts.{Fact}
use Rattle.watch.specs.Plain.{fact_of}
use Rattle.watch.specs.declared.fact.Fact.{Fact as CodeFact}
use Rattle.watch.specs.declared.fact.Fact.TheVariants as fact
use Rattle.watch_count.specs.declared.tables.PhaseName.{PhaseName}
use Rattle.watch_count.specs.declared.tables.PhaseName.TheVariants as name
use Rattle.watch_count.specs.declared.tables.Phases.{Phases}
use Rattle.watch_count.specs.declared.tables.CoreCounts.{CoreCounts}
use Rattle.watch_count.specs.declared.kept.KeptCore.{KeptCore}
use Rattle.watch_count.specs.Tables.{attempts_after, instructions_after, accesses_after, evictions_after, phase_counted, phase_after}
use Rattle.watch_count.specs.Tables.{core_after, event_came}
use Rattle.watch_count.specs.KeptCores.{numbers_after, stayed}
use Rattle.watch_count.specs.Sizes.{phases_size, core_size}

pub stayed-size : (n : ℕ) (q : PhaseName) (p : Phases) → phases_size (stayed n q p) ≡ phases_size p + n
unfolding stayed phases_size
stayed-size n name.Running p = omega arith
stayed-size n name.AwaitTid p = omega arith
stayed-size n name.DoomedTid p = omega arith
stayed-size n name.Probing p = omega arith
stayed-size n name.Ready p = omega arith
stayed-size n name.Overflowing p = omega arith
stayed-size n name.Solo p = omega arith
stayed-size n name.Halted p = omega arith

-- none more
pub stayed-none : (q : PhaseName) (p : Phases) → stayed 0 q p ≡ p
unfolding stayed
stayed-none name.Running p = ap (λ k. record p { running = k }) (omega arith)
stayed-none name.AwaitTid p = ap (λ k. record p { await_tid = k }) (omega arith)
stayed-none name.DoomedTid p = ap (λ k. record p { doomed_tid = k }) (omega arith)
stayed-none name.Probing p = ap (λ k. record p { probing = k }) (omega arith)
stayed-none name.Ready p = ap (λ k. record p { ready = k }) (omega arith)
stayed-none name.Overflowing p = ap (λ k. record p { overflowing = k }) (omega arith)
stayed-none name.Solo p = ap (λ k. record p { solo = k }) (omega arith)
stayed-none name.Halted p = ap (λ k. record p { halted = k }) (omega arith)

-- one more
stayed-more : (n : ℕ) (q : PhaseName) (p : Phases) → stayed (suc n) q p ≡ phase_counted q (stayed n q p)
unfolding stayed phase_counted
stayed-more n name.Running p = ap (λ k. record p { running = k }) (omega arith)
stayed-more n name.AwaitTid p = ap (λ k. record p { await_tid = k }) (omega arith)
stayed-more n name.DoomedTid p = ap (λ k. record p { doomed_tid = k }) (omega arith)
stayed-more n name.Probing p = ap (λ k. record p { probing = k }) (omega arith)
stayed-more n name.Ready p = ap (λ k. record p { ready = k }) (omega arith)
stayed-more n name.Overflowing p = ap (λ k. record p { overflowing = k }) (omega arith)
stayed-more n name.Solo p = ap (λ k. record p { solo = k }) (omega arith)
stayed-more n name.Halted p = ap (λ k. record p { halted = k }) (omega arith)

-- an event comes
pub numbers-more : (e : ℕ) (k : KeptCore) → k.since ≤ e → numbers_after (e + 1) k ≡ event_came (numbers_after e k)
unfolding numbers_after event_came
numbers-more e k l =
    let one : (e + 1) - k.since ≡ suc (e - k.since) = omega (arith, l) in
    ap (λ n. record k.counts { phases = stayed n k.counts.phase k.counts.phases }) one
    ∙ ap (λ p. record k.counts { phases = p }) (stayed-more (e - k.since) k.counts.phase k.counts.phases)

pub all-came : (e : ℕ) (ks : List KeptCore) → All (λ k. k.since ≤ e) ks
    → map (numbers_after (e + 1)) ks ≡ map event_came (map (numbers_after e) ks)
all-came e [] all = refl
all-came e (k ∷ ks) all =
    λ i. numbers-more e k (All-head (λ k. k.since ≤ e) k ks all) i ∷ all-came e ks (All-tail (λ k. k.since ≤ e) k ks all) i

-- settled numbers are the same
pub numbers-settled : (e : ℕ) (k : CoreCounts) → numbers_after e (record { counts = k; since = e }) ≡ k
unfolding numbers_after
numbers-settled e k =
    let none : e - e ≡ 0 = omega arith in
    ap (λ n. record k { phases = stayed n k.phase k.phases }) none ∙ ap (λ p. record k { phases = p }) (stayed-none k.phase k.phases)

-- a fact that leaves the core in its phase
pub numbers-count : (f : Fact) (e s : ℕ) (k : CoreCounts) → phase_after f k.phase ≡ k.phase
    → numbers_after e (record { counts = core_after f k; since = s }) ≡ core_after f (numbers_after e (record { counts = k; since = s }))
unfolding numbers_after core_after
numbers-count f e s k h =
    ap (λ q. record {
      attempts = attempts_after f k.attempts;
      instructions = instructions_after f k.instructions;
      accesses = accesses_after f k.accesses;
      evictions = evictions_after f k.evictions;
      phases = stayed (e - s) q k.phases;
      phase = phase_after f k.phase;
    }) h

-- the numbers of what is kept are no larger than those with the events that are added late
pub kept-smaller : (e : ℕ) (k : KeptCore) → core_size k.counts ≤ core_size (numbers_after e k)
unfolding numbers_after
kept-smaller e k =
    let size = stayed-size (e - k.since) k.counts.phase k.counts.phases in
    omega (arith, size)

-- only what tells of a phase changes it
pub stays-in : (f : CodeFact) (q : PhaseName) → ((c : CoreId) (p : Phase) → f ≢ fact.CameTo c p) → phase_after (fact_of f) q ≡ q
stays-in (fact.CameTo c p) q h = absurd (h c p refl)
stays-in (fact.Did c pc d) q h = refl
stays-in (fact.Missed c pc a l) q h = refl
stays-in (fact.Overflowed c pc a l) q h = refl
stays-in (fact.Evicted c l d m) q h = refl
stays-in (fact.Took m) q h = refl
stays-in (fact.Dropped m) q h = refl
stays-in (fact.AskedOwner m) q h = refl
stays-in (fact.Violated c b t l w n p) q h = refl
stays-in (fact.GaveUp t c) q h = refl
stays-in (fact.Committed t c n) q h = refl
stays-in (fact.Serves d t) q h = refl
stays-in (fact.Sent s d k m) q h = refl
