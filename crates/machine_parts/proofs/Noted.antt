-- TIDs that are noted one after another, and commits of rising TIDs.
use Rattle.std.proofs.Common.{◌≡◌, ◌≢◌, ℕ, zero, suc, ◌+◌, ◌<◌, ◌≤◌, Bool, true, false, inl, inr, List, [], ◌∷◌, ◌++◌, length, refl, ap}
use Rattle.std.proofs.Common.{sym, ◌∙◌, subst, arith}
use Rattle.std.specs.Prelude.{◌==◌, ◌↔◌, IfOk, IsTrue, Result, Ok, Err, nat_le, slice_index_or}
use Rattle.std.proofs.lemmas.Bool.{cases_eq, cases_lt}
use Rattle.std.proofs.lemmas.Bool.Decides.{nat_tests}
use Rattle.tcc_base.specs.declared.access.Commit.{Commit}
use Rattle.tcc_base.specs.declared.names.Tid.{Tid}
use Rattle.rules_maps.specs.Words.{num}
use Rattle.tcc_msg.specs.Plain.{msg_of}
use Rattle.tcc_msg.specs.declared.msg.Msg.{Msg}
use Rattle.tcc_msg.specs.declared.msg.Msg.TheVariants as code
use Rattle.machine_commits.specs.Rising.{RisesFrom, Rising}
use Rattle.theorem_serial.specs.Count.{Grants, passes}
use Rattle.theorem_serial.specs.Owners.{times}
use Rattle.machine_parts.specs.Tids.{AreNoted, IsNoted, IsOver, IsSingle, among}

-- ---- those that are held

pub among-append : (t u : ℕ) (us : List ℕ) → among t (us ++ u ∷ []) ≡ among t us + num (u == t)
unfolding among
among-append t u [] = omega arith
among-append t u (v ∷ us) = omega (arith, among-append t u us)

pub none-among : (t : ℕ) (us : List ℕ) → ((j : ℕ) → j < length us → slice_index_or us j 0 ≡ t → ⊥) → among t us ≡ 0
unfolding among
none-among t [] h = refl
none-among t (u ∷ us) h =
    let other : (u == t) ≡ false = (let no = h 0 (omega arith) in grind (arith, nat_tests)) in
    let own : num (u == t) ≡ 0 = ap num other in
    omega (arith, own, none-among t us (λ j l e. h (suc j) (omega (arith, l)) e))

pub some-among : (t : ℕ) (us : List ℕ) (j : ℕ) → j < length us → slice_index_or us j 0 ≡ t → 0 < among t us
unfolding among
some-among t [] j l e = absurd (omega (arith, l))
some-among t (u ∷ us) zero l e =
    let own : (u == t) ≡ true = grind (arith, nat_tests) in
    let one : num (u == t) ≡ 1 = ap num own in omega (arith, one)
some-among t (u ∷ us) (suc j) l e = omega (arith, some-among t us j (omega (arith, l)) e)

-- ---- commits

in-range : (cs : List Commit) (j : ℕ) (a b : Commit) → j < length cs → slice_index_or cs j a ≡ slice_index_or cs j b
in-range [] j a b l = absurd (omega (arith, l))
in-range (c ∷ cs) zero a b l = refl
in-range (c ∷ cs) (suc j) a b l = in-range cs j a b (omega (arith, l))

-- of the commit at this place, whatever stands for none
abbrev pub At : List Commit → (Commit → Type 0) → ℕ → Type 0
At cs P j = (d : Commit) → j < length cs → P (slice_index_or cs j d)

pub at-item : (cs : List Commit) (P : Commit → Type 0) (j : ℕ) (x : Commit) → x ≡ slice_index_or cs j x → P x → At cs P j
at-item cs P j x e p = λ d l. subst P (e ∙ in-range cs j x d l) p

pub none-committed : (t : ℕ) (cs : List Commit) → ((j : ℕ) → j < length cs → At cs (λ c. c.tid.0 ≢ t) j) → times t cs ≡ 0
unfolding times
none-committed t [] h = refl
none-committed t (c ∷ cs) h =
    let other : (c.tid.0 == t) ≡ false = (let no = h 0 (omega arith) c (omega arith) in grind (arith, nat_tests)) in
    let own : num (c.tid.0 == t) ≡ 0 = ap num other in
    omega (arith, own, none-committed t cs (λ j l d k. h (suc j) (omega (arith, l)) d (omega (arith, k))))

pub some-committed : (t : ℕ) (cs : List Commit) (j : ℕ) → j < length cs → At cs (λ c. c.tid.0 ≡ t) j → 0 < times t cs
unfolding times
some-committed t [] j l h = absurd (omega (arith, l))
some-committed t (c ∷ cs) zero l h =
    let own : (c.tid.0 == t) ≡ true = (let e : c.tid.0 ≡ t = h c l in grind (arith, nat_tests)) in
    let one : num (c.tid.0 == t) ≡ 1 = ap num own in omega (arith, one)
some-committed t (c ∷ cs) (suc j) l h =
    omega (arith, some-committed t cs j (omega (arith, l)) (λ d k. h d (omega (arith, k))))

from-above : (last t : ℕ) (cs : List Commit) → RisesFrom last cs → t ≤ last → times t cs ≡ 0
unfolding RisesFrom times
from-above last t [] r l = refl
from-above last t (c ∷ cs) r l =
    let other : (c.tid.0 == t) ≡ false = (let a = r.0 in grind (arith, nat_tests)) in
    let own : num (c.tid.0 == t) ≡ 0 = ap num other in
    omega (arith, own, from-above c.tid.0 t cs r.1 (omega (arith, l, r.0)))

-- one and those above it
first-once : (t : ℕ) (c : Commit) (cs : List Commit) → RisesFrom c.tid.0 cs → times t cs ≤ 1 → num (c.tid.0 == t) + times t cs ≤ 1
first-once t c cs r rest = elim (cases_eq c.tid.0 t) [
  | inl e ↦ (let none = from-above c.tid.0 t cs r (omega (arith, e)) in
      let most : num (c.tid.0 == t) ≤ 1 = grind (arith, nat_tests) in omega (arith, none, most))
  | inr n ↦ (let other : (c.tid.0 == t) ≡ false = grind (arith, nat_tests) in
      let own : num (c.tid.0 == t) ≡ 0 = ap num other in omega (arith, own, rest))
]

once-from : (last t : ℕ) (cs : List Commit) → RisesFrom last cs → times t cs ≤ 1
unfolding RisesFrom times
once-from last t [] r = omega arith
once-from last t (c ∷ cs) r = first-once t c cs r.1 (once-from c.tid.0 t cs r.1)

pub once : (t : ℕ) (cs : List Commit) → Rising cs → times t cs ≤ 1
unfolding Rising times
once t [] r = omega arith
once t (c ∷ cs) r = first-once t c cs r (once-from c.tid.0 t cs r)

-- commits below the next TID
pub commits-single : (cs : List Commit) (next : ℕ) → Rising cs → ((j : ℕ) → j < length cs → At cs (λ c. c.tid.0 < next) j)
    → IsSingle [] cs next
unfolding among
commits-single cs next r h t = elim (cases_lt t next) [
  | inl l ↦ (let free : nat_le next t ≡ false = grind (arith, nat_tests) in
      let none : num (nat_le next t) ≡ 0 = ap num free in omega (arith, none, once t cs r))
  | inr l ↦ (let most : num (nat_le next t) ≤ 1 = grind (arith, nat_tests) in
      let none = none-committed t cs (λ j k d i e. (let below = h j k d i in omega (arith, below, e, l))) in omega (arith, none, most))
]

-- one of the commits isn't below it
pub commits-over : (cs : List Commit) (next j : ℕ) (x : Commit) → j < length cs → x ≡ slice_index_or cs j x → next ≤ x.tid.0
    → IsOver [] cs next (λ t. 0)
commits-over cs next j x l e h = (
  x.tid.0,
  let last : nat_le next x.tid.0 ≡ true = grind (arith, nat_tests) in
      let one : num (nat_le next x.tid.0) ≡ 1 = ap num last in
      omega (arith, one, some-committed x.tid.0 cs j l (at-item cs (λ c. c.tid.0 ≡ x.tid.0) j x e refl)),
)

-- ---- one more

-- it is in another place already
pub over : (old : List ℕ) (cs : List Commit) (next tid : ℕ) → 1 ≤ among tid old + times tid cs + num (nat_le next tid)
    → IsOver old cs next (λ t. num (tid == t))
over old cs next tid h = (
  tid,
  let own : (tid == tid) ≡ true = grind (arith, nat_tests) in
      let one : num (tid == tid) ≡ 1 = ap num own in omega (arith, one, h),
)

-- what was noted before counts too
pub over-then : (a b : List ℕ) (cs : List Commit) (next : ℕ) (f g h : ℕ → ℕ) → AreNoted a b cs next f → IsOver b cs next g
    → ((t : ℕ) → f t + g t ≤ h t) → IsOver a cs next h
over-then a b cs next f g h n o sum = (o.0, omega (arith, n.more o.0, o.1, sum o.0))

pub over-more : (old : List ℕ) (cs : List Commit) (next : ℕ) (f g : ℕ → ℕ) → IsOver old cs next f → ((t : ℕ) → f t ≤ g t)
    → IsOver old cs next g
over-more old cs next f g o more = (o.0, omega (arith, o.1, more o.0))

-- where none is held but the counted ones, it is in no single place
pub not-single : (cs : List Commit) (next : ℕ) (count : ℕ → ℕ) → IsOver [] cs next count
    → ((t : ℕ) → count t + times t cs + num (nat_le next t) ≤ 1) → ⊥
unfolding among
not-single cs next count o single = omega (arith, o.1, single o.0)

pub refused-so : {E : Type 0} → (r : Result Bool E) (P Q : Type 0) → (P → Q) → IfOk r (λ b. b ≡ false → P) → IfOk r (λ b. b ≡ false → Q)
refused-so (Ok b) P Q f h = λ e. f (h e)
refused-so (Err x) P Q f h = tt

-- it isn't granted yet
pub next-counts : (next tid : ℕ) → next ≤ tid → 1 ≤ num (nat_le next tid)
next-counts next tid l =
    let last : nat_le next tid ≡ true = grind (arith, nat_tests) in
    let one : num (nat_le next tid) ≡ 1 = ap num last in omega (arith, one)

-- a test that is exact, where it is false
pub none-so : (b : Bool) (n : ℕ) → IsTrue b ↔ 0 < n → b ≡ false → n ≡ 0
none-so b zero h e = refl
none-so b (suc n) h e = let t : b ≡ true = h.1 (omega arith) in absurd (cc)

pub noted : (old new : List ℕ) (cs : List Commit) (next tid : ℕ) → new ≡ old ++ tid ∷ [] → tid < next → among tid old ≡ 0
    → times tid cs ≡ 0 → IsNoted old new cs next tid
noted old new cs next tid e below none committed = record {
  more = more;
  single = λ s t. elim (cases_eq tid t) [
    | inl q ↦ (let free : nat_le next t ≡ false = grind (arith, nat_tests) in
        let a : among t old ≡ 0 = subst (λ u. among u old ≡ 0) q none in
        let b : times t cs ≡ 0 = subst (λ u. times u cs ≡ 0) q committed in
        let last : num (nat_le next t) ≡ 0 = ap num free in
        let one : num (tid == t) ≤ 1 = grind (arith, nat_tests) in omega (arith, more t, a, b, last, one))
    | inr n ↦ (let other : (tid == t) ≡ false = grind (arith, nat_tests) in
        let none-more : num (tid == t) ≡ 0 = ap num other in omega (arith, more t, none-more, s t))
  ];
}
  where
    more : (t : ℕ) → among t new ≡ among t old + num (tid == t)
    more t = ap (among t) e ∙ among-append t tid old

pub nothing-noted : (us : List ℕ) (cs : List Commit) (next : ℕ) (count : ℕ → ℕ) → ((t : ℕ) → count t ≡ 0) → AreNoted us us cs next count
nothing-noted us cs next count none = record { more = λ t. omega (arith, none t); single = λ s. s }

pub noted-then : (a b c : List ℕ) (cs : List Commit) (next : ℕ) (f g h : ℕ → ℕ) → AreNoted a b cs next f → AreNoted b c cs next g
    → ((t : ℕ) → h t ≡ f t + g t) → AreNoted a c cs next h
noted-then a b c cs next f g h x y sum = record {
  more = λ t. omega (arith, x.more t, y.more t, sum t);
  single = λ s. y.single (x.single s);
}

-- a message that grants this one
pub granted-so : {E : Type 0} → (r : Result Bool E) (old new : List ℕ) (cs : List Commit) (next : ℕ) (tid : Tid) (m : Msg)
    → m ≡ code.TidGrant tid → IfOk r (λ b. IsTrue b → IsNoted old new cs next tid.0)
    → IfOk r (λ b. IsTrue b → AreNoted old new cs next (λ t. num (passes (Grants t) (msg_of m))))
unfolding passes
granted-so (Ok b) old new cs next tid m e h = λ t. let n = h t in record {
  more = λ u. n.more u ∙ ap (λ x. among u old + num (passes (Grants u) (msg_of x))) (sym e);
  single = n.single;
}
granted-so (Err x) old new cs next tid m e h = tt
