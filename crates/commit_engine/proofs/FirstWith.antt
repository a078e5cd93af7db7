-- The first numbers that have a property, one by one; and what goes to the directories that have it.
use Rattle.std.proofs.Common.{ℕ, ◌+◌, ◌≡◌, Bool, true, false, not, ◌&&◌, ◌||◌, nat_eq, nat_lt, if◌then◌else◌, [], ◌∷◌, ◌++◌, refl, ap}
use Rattle.std.proofs.Common.{arith}
use Rattle.std.proofs.lemmas.Bool.Decides.{nat_tests}
use Rattle.tcc_base.specs.Put.{put}
use Rattle.base_lemmas.proofs.Lemmas.{lt_self}
use Rattle.rules_maps.specs.Masks.{has}
use Rattle.rules_maps.specs.Nodes.{Node, Core, Dir, Vendor, Skip, Probe, Abort}
use Rattle.rules_maps.specs.Shape.{Shape}
use Rattle.rules_maps.specs.Cache.{Cache, reads_at, writes_at}
use Rattle.rules_tcc.specs.Sends.{when, abort_written}
use Rattle.rules_tcc.specs.CoreDeliver.{grant_sends}
use Rattle.commit_engine.specs.Engine.{first_with}
use Rattle.commit_engine.specs.Sent.{followed, to_first, to_members}

pub first_none : (p : ℕ → Bool) → (λ (d : ℕ). false) ≡ first_with 0 p
unfolding first_with
first_none p = λ i d. (each d) i
  where
    each : (d : ℕ) → false ≡ (nat_lt d 0 && p d)
    each d = (let e : nat_lt d 0 ≡ false = grind (arith, nat_tests) in rw e refl)

lt_same : (n : ℕ) → nat_lt n (n + 1) ≡ true
lt_same n = grind (arith, nat_tests)

lt_next : (d n : ℕ) → nat_eq d n ≡ false → nat_lt d (n + 1) ≡ nat_lt d n
lt_next d n e = grind (arith, nat_tests)

pub first_in : (n : ℕ) (p : ℕ → Bool) → p n ≡ true → put (first_with n p) n true ≡ first_with (n + 1) p
unfolding first_with
first_in n p h = λ i d. (each d) i
  where
    other : (d : ℕ) (b : Bool) → nat_eq d n ≡ b → (if b then true else nat_lt d n && p d) ≡ (nat_lt d (n + 1) && p d)
    other d true e = (let s : d ≡ n = grind (arith, nat_tests) in rw s (rw (lt_same n, h) refl))
    other d false e = rw (lt_next d n e) refl

    each : (d : ℕ) → put (first_with n p) n true d ≡ (nat_lt d (n + 1) && p d)
    each d = other d (nat_eq d n) refl

pub first_out : (n : ℕ) (p : ℕ → Bool) → p n ≡ false → first_with n p ≡ first_with (n + 1) p
unfolding first_with
first_out n p h = λ i d. (each d (nat_eq d n) refl) i
  where
    both : (b : Bool) → false ≡ (b && false)
    both true = refl
    both false = refl

    each : (d : ℕ) (b : Bool) → nat_eq d n ≡ b → (nat_lt d n && p d) ≡ (nat_lt d (n + 1) && p d)
    each d true e = (let s : d ≡ n = grind (arith, nat_tests) in rw s (rw (lt_self n, lt_same n, h) refl))
    each d false e = rw (lt_next d n e) refl

pub aborts_are : (sh : Shape) (c : Cache) (bits t : ℕ) → has bits ≡ first_with sh.dirs (writes_at sh c)
    → to_first sh.dirs (to_members bits (Abort t)) ≡ abort_written sh c t
unfolding to_first to_members abort_written first_with
aborts_are sh c bits t e = λ i dst. (each dst) i
  where
    inside : (b w : Bool) → (if b then when (b && w) (Abort t ∷ []) else []) ≡ (if b then when w (Abort t ∷ []) else [])
    inside true w = refl
    inside false w = refl

    each : (dst : Node) → to_first sh.dirs (to_members bits (Abort t)) dst ≡ abort_written sh c t dst
    each (Dir d) = rw (ap (λ (p : ℕ → Bool). p d) e) (inside (nat_lt d sh.dirs) (writes_at sh c d))
    each (Core k) = refl
    each Vendor = refl

pub grants_are : (sh : Shape) (c : Cache) (skips probes t : ℕ)
    → ((d : ℕ) → has skips d ≡ (nat_lt d sh.dirs && not (first_with sh.dirs (writes_at sh c) d)))
    → ((d : ℕ) → has probes d ≡ (first_with sh.dirs (writes_at sh c) d || first_with sh.dirs (reads_at sh c) d))
    → followed (to_first sh.dirs (to_members skips (Skip t))) (to_first sh.dirs (to_members probes (Probe t))) ≡ grant_sends sh c t
unfolding followed to_first to_members grant_sends first_with
grants_are sh c skips probes t e f = λ i dst. (each dst) i
  where
    inside : (b w r : Bool) → (if b then when (b && not (b && w)) (Skip t ∷ []) else [])
        ++ (if b then when (b && w || b && r) (Probe t ∷ []) else [])
        ≡ (if b then when (not w) (Skip t ∷ []) ++ when (w || r) (Probe t ∷ []) else [])
    inside true w r = refl
    inside false w r = refl

    each : (dst : Node) → followed (to_first sh.dirs (to_members skips (Skip t))) (to_first sh.dirs (to_members probes (Probe t))) dst
        ≡ grant_sends sh c t dst
    each (Dir d) = rw (e d, f d) (inside (nat_lt d sh.dirs) (writes_at sh c d) (reads_at sh c d))
    each (Core k) = refl
    each Vendor = refl
