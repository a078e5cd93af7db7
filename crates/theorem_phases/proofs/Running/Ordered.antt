-- What holds along a run by phases, over plain maps: of each core whether it hasn't halted and in which phase it is, the TIDs that were
-- granted, and the commits with their phases.
use Rattle.std.specs.Prelude.{ℕ, zero, suc, ◌≡◌, ◌≢◌, ◌<◌, ◌≤◌, ◌==◌, Bool, true, false, List, [], ◌∷◌}
use Rattle.std.specs.Prelude.{length, nat_lt, slice_index_or, if◌then◌else◌}
use Rattle.std.specs.List.Sorted.{IsNonDecreasing}
use Rattle.std.proofs.Common.{arith, refl, sym, ◌⊎◌, inl, inr}
use Rattle.std.proofs.lemmas.Bool.Decides.{nat_tests}
use Rattle.tcc_base.specs.declared.access.Commit.{Commit}
use Rattle.rules_tcc.specs.Step.{insert_commit}
use Rattle.theorem_serial.specs.Owners.{IsRising}
use Rattle.theorem_phases.proofs.Serial.Inserted.{with_phase, behind_first}

-- lists of phases

unfoldable pub AtMost : (bound : ℕ) → List ℕ → Type 0
AtMost b [] = Unit {0}
AtMost b (r ∷ rs) = (r ≤ b) × AtMost b rs

unfoldable pub AtLeast : (bound : ℕ) → List ℕ → Type 0
AtLeast b [] = Unit {0}
AtLeast b (r ∷ rs) = (b ≤ r) × AtLeast b rs

-- none is above a later one
unfoldable pub Rises : List ℕ → Type 0
Rises [] = Unit {0}
Rises (r ∷ rs) = AtLeast r rs × Rises rs

-- the commits of larger TIDs have at least this phase
unfoldable pub Above : (tid bound : ℕ) → List Commit → List ℕ → Type 0
Above t b (c ∷ cs) (r ∷ rs) = (t < c.tid.0 → b ≤ r) × Above t b cs rs
Above t b _ _ = Unit {0}

-- the commits of the core have smaller TIDs
unfoldable pub NoneFrom : (core tid : ℕ) → List Commit → Type 0
NoneFrom x t [] = Unit {0}
NoneFrom x t (c ∷ cs) = (c.core.0 ≡ x → c.tid.0 < t) × NoneFrom x t cs

at-most-more : (a b : ℕ) (rs : List ℕ) → a ≤ b → AtMost a rs → AtMost b rs
unfolding AtMost
at-most-more a b [] l k = tt
at-most-more a b (r ∷ rs) l k = (omega (arith, l, k.0), at-most-more a b rs l (k.1))

at-most-with : (b t q : ℕ) (cs : List Commit) (rs : List ℕ) → q ≤ b → AtMost b rs → AtMost b (with_phase t q cs rs)
unfolding AtMost with_phase
at-most-with b t q [] rs l k = (l, k)
at-most-with b t q (c ∷ cs) rs l k = go (nat_lt t c.tid.0) rs k (λ rs k. at-most-with b t q cs rs l k)
  where
    go : (z : Bool) (rs : List ℕ) → AtMost b rs → ((rs : List ℕ) → AtMost b rs → AtMost b (with_phase t q cs rs))
        → AtMost b (if z then q ∷ rs else behind_first (with_phase t q cs) rs)
    go true rs k f = (l, k)
    go false [] k f = tt
    go false (r ∷ rs) k f = (k.0, f rs (k.1))

at-least-with : (b t q : ℕ) (cs : List Commit) (rs : List ℕ) → b ≤ q → AtLeast b rs → AtLeast b (with_phase t q cs rs)
unfolding AtLeast with_phase
at-least-with b t q [] rs l k = (l, k)
at-least-with b t q (c ∷ cs) rs l k = go (nat_lt t c.tid.0) rs k (λ rs k. at-least-with b t q cs rs l k)
  where
    go : (z : Bool) (rs : List ℕ) → AtLeast b rs → ((rs : List ℕ) → AtLeast b rs → AtLeast b (with_phase t q cs rs))
        → AtLeast b (if z then q ∷ rs else behind_first (with_phase t q cs) rs)
    go true rs k f = (l, k)
    go false [] k f = tt
    go false (r ∷ rs) k f = (k.0, f rs (k.1))

-- where all have larger TIDs
above-all : (t b last : ℕ) (cs : List Commit) (rs : List ℕ) → t ≤ last → length rs ≡ length cs → IsRising last cs
    → Above t b cs rs → AtLeast b rs
unfolding IsRising Above AtLeast
above-all t b last cs [] l e r k = tt
above-all t b last [] (a ∷ rs) l e r k = absurd (omega (arith, e))
above-all t b last (c ∷ cs) (a ∷ rs) l e r k =
    ((k.0) (omega (arith, l, r.0)), above-all t b c.tid.0 cs rs (omega (arith, l, r.0)) (omega (arith, e)) (r.1) (k.1))

above-with : (t b : ℕ) (x : Commit) (q : ℕ) (cs : List Commit) (rs : List ℕ) → (t < x.tid.0 → b ≤ q) → Above t b cs rs
    → Above t b (insert_commit x cs) (with_phase x.tid.0 q cs rs)
unfolding Above insert_commit with_phase
above-with t b x q [] rs l k = (l, tt)
above-with t b x q (c ∷ cs) rs l k = go (nat_lt x.tid.0 c.tid.0) rs k (λ rs k. above-with t b x q cs rs l k)
  where
    go : (z : Bool) (rs : List ℕ) → Above t b (c ∷ cs) rs
        → ((rs : List ℕ) → Above t b cs rs → Above t b (insert_commit x cs) (with_phase x.tid.0 q cs rs))
        → Above t b (if z then x ∷ c ∷ cs else c ∷ insert_commit x cs)
        (if z then q ∷ rs else behind_first (with_phase x.tid.0 q cs) rs)
    go true rs k f = (l, k)
    go false [] k f = tt
    go false (r ∷ rs) k f = (k.0, f rs (k.1))

rises-with : (x : Commit) (q last : ℕ) (cs : List Commit) (rs : List ℕ) → length rs ≡ length cs → IsRising last cs → AtMost q rs
    → Above x.tid.0 q cs rs → Rises rs → Rises (with_phase x.tid.0 q cs rs)
unfolding Rises AtLeast AtMost Above IsRising with_phase
rises-with x q last [] [] e i m a r = (tt, tt)
rises-with x q last [] (b ∷ rs) e i m a r = absurd (omega (arith, e))
rises-with x q last (c ∷ cs) [] e i m a r = absurd (omega (arith, e))
rises-with x q last (c ∷ cs) (b ∷ rs) e i m a r =
    go (nat_lt x.tid.0 c.tid.0) refl (rises-with x q c.tid.0 cs rs (omega (arith, e)) (i.1) (m.1) (a.1) (r.1))
  where
    go : (z : Bool) → nat_lt x.tid.0 c.tid.0 ≡ z → Rises (with_phase x.tid.0 q cs rs)
        → Rises (if z then q ∷ b ∷ rs else b ∷ with_phase x.tid.0 q cs rs)
    go true y f =
        let l : x.tid.0 < c.tid.0 = grind (arith, nat_tests) in
        (((a.0) l, above-all x.tid.0 q c.tid.0 cs rs (omega (arith, l)) (omega (arith, e)) (i.1) (a.1)), r)
    go false y f = (at-least-with b x.tid.0 q cs rs (m.0) (r.0), f)

none-from : (c t : ℕ) (x : Commit) (cs : List Commit) → NoneFrom c t (insert_commit x cs)
    → (x.core.0 ≡ c → x.tid.0 < t) × NoneFrom c t cs
unfolding NoneFrom insert_commit
none-from c t x [] k = (k.0, tt)
none-from c t x (d ∷ cs) k = go (nat_lt x.tid.0 d.tid.0) k (none-from c t x cs)
  where
    go : (z : Bool) → NoneFrom c t (if z then x ∷ d ∷ cs else d ∷ insert_commit x cs)
        → (NoneFrom c t (insert_commit x cs) → (x.core.0 ≡ c → x.tid.0 < t) × NoneFrom c t cs)
        → (x.core.0 ≡ c → x.tid.0 < t) × NoneFrom c t (d ∷ cs)
    go true k f = (k.0, k.1)
    go false k f = let r = f (k.1) in (r.0, (k.0, r.1))

-- a list that rises is one whose numbers never fall

at-least-get : (b : ℕ) (rs : List ℕ) (j d : ℕ) → j < length rs → AtLeast b rs → b ≤ slice_index_or rs j d
unfolding AtLeast
at-least-get b [] j d l k = absurd (omega arith)
at-least-get b (r ∷ rs) zero d l k = k.0
at-least-get b (r ∷ rs) (suc j) d l k = at-least-get b rs j d (omega arith) (k.1)

rising-get : (rs : List ℕ) → Rises rs → (i j d : ℕ) → i ≤ j → j < length rs
    → slice_index_or rs i d ≤ slice_index_or rs j d
unfolding Rises
rising-get [] k i j d l n = absurd (omega arith)
rising-get (r ∷ rs) k zero zero d l n = omega arith
rising-get (r ∷ rs) k zero (suc j) d l n = at-least-get r rs j d (omega arith) (k.0)
rising-get (r ∷ rs) k (suc i) zero d l n = absurd (omega arith)
rising-get (r ∷ rs) k (suc i) (suc j) d l n = rising-get rs (k.1) i j d (omega arith) (omega arith)

pub never-falls : (rs : List ℕ) → Rises rs → IsNonDecreasing rs
never-falls rs k i j d l n = rising-get rs k i j d l n

-- which cores, and which TIDs of which cores
abbrev pub Cores : Type 1
Cores = (core : ℕ) → Type 0

abbrev pub Tids : Type 1
Tids = (tid core : ℕ) → Type 0

-- the state of a run by phases. A TID of which its core has no commit, and no later one, may still commit.

pub record Ordered (cores : ℕ) (going : Cores) (given : Tids) (phase : ℕ → ℕ) (cs : List Commit) (qs : List ℕ) : Type 0 where
  -- No commit is in a phase that is later than that of a core that goes on.
  pub behind : (c : ℕ) → c < cores → going c → AtMost (phase c) qs
  -- A core with a TID that may commit is in no later phase than one that goes on,
  pub first : (c t j : ℕ) → c < cores → given t c → NoneFrom c t cs → j < cores → going j → phase c ≤ phase j
  -- nor than a commit of a larger TID.
  pub above : (c t : ℕ) → c < cores → given t c → NoneFrom c t cs → Above t (phase c) cs qs
  -- Phases rise along the commits.
  pub rise : Rises qs

-- a TID that is granted, where its core isn't late, is above those of the commits
pub record Fresh (cores : ℕ) (going : Cores) (phase : ℕ → ℕ) (cs : List Commit) (qs : List ℕ) (t c : ℕ) : Type 0 where
  pub first : (j : ℕ) → j < cores → going j → phase c ≤ phase j
  pub above : Above t (phase c) cs qs

-- an event that notes no commit
pub silent-keeps : (cores : ℕ) (going still : Cores) (given more : Tids) (old new : ℕ → ℕ) (cs : List Commit) (qs : List ℕ)
    → Ordered cores going given old cs qs
    → ((c : ℕ) → c < cores → new c ≡ old c) → ((c : ℕ) → still c → going c)
    → ((t c : ℕ) → c < cores → more t c → given t c ⊎ Fresh cores going old cs qs t c)
    → Ordered cores still more new cs qs
silent-keeps cores going still given more old new cs qs k e g f = record {
  behind = λ c l n. rw (e c l) (k.behind c l (g c n));
  first = λ c t j l m n i s. rw (e c l, e j i) (first c t j l (f t c l m) n i (g j s));
  above = λ c t l m n. rw (e c l) (above c t l (f t c l m) n);
  rise = k.rise;
}
  where
    first : (c t j : ℕ) → c < cores → given t c ⊎ Fresh cores going old cs qs t c → NoneFrom c t cs → j < cores → going j
        → old c ≤ old j
    first c t j l (inl m) n i s = k.first c t j l m n i s
    first c t j l (inr x) n i s = x.first j i s

    above : (c t : ℕ) → c < cores → given t c ⊎ Fresh cores going old cs qs t c → NoneFrom c t cs → Above t (old c) cs qs
    above c t l (inl m) n = k.above c t l m n
    above c t l (inr x) n = x.above

-- a commit of a core that goes on, of the last TID that was granted to it
pub noted-keeps : (cores : ℕ) (going still : Cores) (given more : Tids) (old new : ℕ → ℕ) (cs : List Commit) (qs : List ℕ)
    (x : Commit) → Ordered cores going given old cs qs → length qs ≡ length cs → IsRising 0 cs
    → x.core.0 < cores → going x.core.0 → given x.tid.0 x.core.0 → NoneFrom x.core.0 x.tid.0 cs
    → ((t : ℕ) → given t x.core.0 → t ≤ x.tid.0)
    → old x.core.0 ≤ new x.core.0 → ((c : ℕ) → c < cores → c ≢ x.core.0 → new c ≡ old c)
    → ((c : ℕ) → still c → going c)
    → ((t c : ℕ) → more t c → given t c)
    → Ordered cores still more new (insert_commit x cs) (with_phase x.tid.0 (old x.core.0) cs qs)
noted-keeps cores going still given more old new cs qs x k len rising own on has none last up e g f = record {
  behind = λ c l n. at-most-with (new c) x.tid.0 q cs qs (omega (arith, mine c l (g c n), grows c l))
      (at-most-more (old c) (new c) qs (grows c l) (k.behind c l (g c n)));
  first = λ c t j l m n i s. first c t j l (f t c m) (none-from c t x cs n) i (g j s);
  above = λ c t l m n. above c t l (f t c m) (none-from c t x cs n);
  rise = rises-with x q 0 cs qs len rising (k.behind x.core.0 own on) (k.above x.core.0 x.tid.0 own has none) k.rise;
}
  where
    q : ℕ
    q = old x.core.0

    mine : (c : ℕ) → c < cores → going c → q ≤ old c
    mine c l n = k.first x.core.0 x.tid.0 c own has none l n

    grows : (c : ℕ) → c < cores → old c ≤ new c
    grows c l = go (c == x.core.0) refl
      where
        go : (z : Bool) → (c == x.core.0) ≡ z → old c ≤ new c
        go true y = let r : c ≡ x.core.0 = grind (arith, nat_tests) in rw r up
        go false y =
            let d : c ≢ x.core.0 = λ r. absurd (let w : (c == x.core.0) ≡ true = grind (arith, nat_tests) in cc) in
            omega (arith, e c l d)

    other : (c t : ℕ) → given t c → (x.core.0 ≡ c → x.tid.0 < t) → c ≢ x.core.0
    other c t m n r = let l : t ≤ x.tid.0 = last t (rw r at m) in absurd (omega (arith, l, n (sym r)))

    first : (c t j : ℕ) → c < cores → given t c → (x.core.0 ≡ c → x.tid.0 < t) × NoneFrom c t cs → j < cores → going j
        → new c ≤ new j
    first c t j l m n i s = omega (arith, e c l (other c t m (n.0)), k.first c t j l m (n.1) i s, grows j i)

    above : (c t : ℕ) → c < cores → given t c → (x.core.0 ≡ c → x.tid.0 < t) × NoneFrom c t cs
        → Above t (new c) (insert_commit x cs) (with_phase x.tid.0 q cs qs)
    above c t l m n = rw (e c l (other c t m (n.0)))
        (above-with t (old c) x q cs qs (λ y. k.first c t x.core.0 l m (n.1) own on) (k.above c t l m (n.1)))
