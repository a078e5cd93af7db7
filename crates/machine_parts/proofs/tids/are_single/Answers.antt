-- One core after another.
use Rattle.std.proofs.Common.{◌≡◌, ◌+◌, ◌≤◌, ℕ, zero, suc, inl, inr, List, [], ap, refl, sym, subst, arith}
use Rattle.std.specs.Prelude.{nat_le}
use Rattle.std.proofs.lemmas.Bool.{cases_eq}
use Rattle.tcc_base.specs.declared.access.Commit.{Commit}
use Rattle.rules_maps.specs.Nodes.{Core, Vendor}
use Rattle.rules_maps.specs.Words.{num}
use Rattle.rules_tcc.specs.DirDeliver.{sum_below}
use Rattle.machine_cores.specs.Bank.{cores_of}
use Rattle.machine_links.specs.Flights.{net_of}
use Rattle.theorem_serial.specs.Owners.{times}
use Rattle.machine_parts.specs.Tids.{AreNoted, held_by}
use Rattle.machine_parts.proofs.Noted.{not-single, noted-then, nothing-noted, over-more, over-then}
use Rattle.machine_parts.proofs.tids.are_single.Goals as goal

sum-next : (f : ℕ → ℕ) (n : ℕ) → sum_below f (n + 1) ≡ sum_below f n + f n
unfolding sum_below
sum-next f n = let e : n + 1 ≡ suc n = omega arith in ap (sum_below f) e

sum-most : (f : ℕ → ℕ) (n m : ℕ) → n ≤ m → sum_below f n ≤ sum_below f m
unfolding sum_below
sum-most f n zero l = let e : n ≡ 0 = omega (arith, l) in let none = ap (sum_below f) e in omega (arith, none)
sum-most f n (suc m) l = elim (cases_eq n (suc m)) [
  | inl e ↦ (let same = ap (sum_below f) e in omega (arith, same))
  | inr other ↦ omega (arith, sum-most f n m (omega (arith, l, other)))
]

pub loop-c-init : goal.loop-c-init
unfolding sum_below
loop-c-init c =
    subst (λ us. AreNoted [] us c.as_slice-commits.result.now c.args.next.0 _) (sym c.new-held.ensures.items)
    (nothing-noted [] c.as_slice-commits.result.now c.args.next.0 _ (λ t. refl))

pub loop-c-preserved : goal.loop-c-preserved
loop-c-preserved c =
    let count : ℕ → ℕ → ℕ =
    λ t k. held_by (cores_of c.args.cores.now k) (net_of c.args.flights.now Vendor (Core k)) t in
    noted-then [] c.loop-c.held.items c.note_core.new.held.items c.as_slice-commits.result.now c.args.next.0
    (λ t. sum_below (count t) c.loop-c.c) (λ t. count t c.loop-c.c) (λ t. sum_below (count t) (c.loop-c.c + 1)) c.loop-c.invariant
    (c.in_ok-note_core.ensures.noted c.if-not-branch.false) (λ t. sum-next (count t) c.loop-c.c)

pub returns-then-not-are_granted : goal.returns-then-not-are_granted
returns-then-not-are_granted c = (
  λ t. absurd (cc),
  λ single.
      let count : ℕ → ℕ → ℕ =
      λ t k. held_by (cores_of c.args.cores.now k) (net_of c.args.flights.now Vendor (Core k)) t in
      let all : ℕ → ℕ = λ t. sum_below (count t) c.args.cores.now.code.settings.cores in
      absurd (not-single c.as_slice-commits.result.now c.args.next.0 all
      (over-more [] c.as_slice-commits.result.now c.args.next.0 (λ t. 0) all (c.are_granted.ensures.refused c.if-not-are_granted.true)
      (λ t. omega arith))
      (subst (λ (cs : List Commit). (t : ℕ) → all t + times t cs + num (nat_le c.args.next.0 t) ≤ 1)
      (sym c.as_slice-commits.ensures.commits) single)),
)

pub returns-then-not-branch : goal.returns-then-not-branch
returns-then-not-branch c = (
  λ t. absurd (cc),
  λ single.
      let cores = c.args.cores.now.code.settings.cores in
      let count : ℕ → ℕ → ℕ =
      λ t k. held_by (cores_of c.args.cores.now k) (net_of c.args.flights.now Vendor (Core k)) t in
      let all : ℕ → ℕ = λ t. sum_below (count t) cores in
      let below : c.loop-c.c + 1 ≤ cores =
      (let sum = c.cores-c-end.ensures.value in let code = ap (λ k. k.settings.cores) c.code.ensures in
      let config = ap (λ k. k.cores) c.config.ensures in omega (arith, c.loop-c-test.true, sum, code, config)) in
      absurd (not-single c.as_slice-commits.result.now c.args.next.0 all
      (over-then [] c.loop-c.held.items c.as_slice-commits.result.now c.args.next.0 (λ t. sum_below (count t) c.loop-c.c)
      (λ t. count t c.loop-c.c) all c.loop-c.invariant (c.in_ok-note_core.ensures.refused c.if-not-branch.true)
      (λ t. omega (arith, sum-next (count t) c.loop-c.c, sum-most (count t) (c.loop-c.c + 1) cores below)))
      (subst (λ (cs : List Commit). (t : ℕ) → all t + times t cs + num (nat_le c.args.next.0 t) ≤ 1)
      (sym c.as_slice-commits.ensures.commits) single)),
)

pub returns : goal.returns
returns c = (
  λ e t.
      let cores = c.args.cores.now.code.settings.cores in
      let count : ℕ → ℕ = λ k. held_by (cores_of c.args.cores.now k) (net_of c.args.flights.now Vendor (Core k)) t in
      let all : c.loop-c.c ≡ cores =
      (let sum = c.cores-c-end.ensures.value in let code = ap (λ k. k.settings.cores) c.code.ensures in
      let config = ap (λ k. k.cores) c.config.ensures in omega (arith, c.loop-c-test.false, c.loop-c.auto.c-end, sum, code, config)) in
      let single = c.loop-c.invariant.single (c.are_granted.ensures.granted c.if-not-are_granted.false) t in
      let more = c.loop-c.invariant.more t in
      let held = ap (sum_below count) all in
      subst (λ (cs : List Commit). sum_below count cores + times t cs + num (nat_le c.args.next.0 t) ≤ 1) c.as_slice-commits.ensures.commits
      (omega (arith, single, more, held)),
  λ single. refl,
)
