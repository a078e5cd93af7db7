-- Each kind of event keeps that a TID is with one core at most, or on its way to it, or committed once, or not granted yet.
use Rattle.theorem_serial.proofs
use proofs.Names
use Names.{ℕ, ◌+◌, ◌≡◌, ◌≢◌, ◌<◌, ◌≤◌, ◌==◌, ◌⊎◌, inl, inr, List, Option, Some, None, IfSome, nat_le, slice_index_or, arith, refl, ap}
use Names.{subst, nats}
use Names.{got, cases_eq, num, Core, Dir, Vendor, Event, Msg, TidGrant, Shape, World, Out, Program, Noted, and_noted, Answer, Waits, Drops}
use Names.{Asks}
use Names.{Takes, in_flight, nothing, step, core_moves, core_takes, dir_takes, dir_asks, vendor_gives, grant, dir_deliver, Pair, pair}
use Names.{share, sum_of}
use Names.{after_move, grant_taken, holder, times, among, passes, Grants, FromDir}
use proofs.Counts.{live-sends, live-takes, total-le, total-same, OfAnswer, step_cases, sum_move, sum_grant, sum_back, sum_back_away}
use proofs.Counts.{sum_vendor, Ask, asking, Gift, gift, gift_of, gift-counts, gives_to, after_gift, after_other_gift}
use proofs.Tids.{times-insert, KeepsHolder, noted_tid, none, holder-exec, holder-evict, holder-grant, holder-back}

-- a core's part after its step
pub holder-moved : (v : Pair) {o : Out} (d t : ℕ) {c : ℕ} → KeepsHolder c none v.core o
    → holder t (after_move v o d) + noted_tid t o.commit ≤ holder t v
unfolding holder
holder-moved v d t k = omega (arith, k.holds)

pub holder-granted : (v : Pair) {o : Out} (d t : ℕ) {c : ℕ} (k : ℕ) {u : ℕ} → slice_index_or v.grants k None ≡ Some (TidGrant u)
    → KeepsHolder c (λ t. num (u == t)) v.core o → holder t (after_move (grant_taken v k) o d) + noted_tid t o.commit ≤ holder t v
unfolding holder passes
holder-granted v d t k {u} e h = omega (arith, h.holds t, live-takes (Grants t) v.grants k (TidGrant u) e)

-- the commits after a step of core c
pub times-noted : (t : ℕ) (n : Option Noted) (cs : List Noted) → times t (and_noted n cs) ≡ times t cs + noted_tid t n
times-noted t a cs = grind (nats, times-insert)

-- A TID is with one core at most, or on its way to it, or committed once, or not granted yet.
abbrev pub Once : Shape → World → List Noted → Type 0
Once sh w cs = (t : ℕ) → sum_of (holder t) sh.cores w 0 + times t cs + num (nat_le w.next t) ≤ 1

-- what a core commits was its TID, which no commit has yet
pub anew : (sh : Shape) (w : World) (cs : List Noted) (c : ℕ) (n : Option Noted) → Once sh w cs → c < sh.cores
    → ((t : ℕ) → noted_tid t n ≤ holder t (pair w c 0)) → IfSome n (λ x. times x.tid.0 cs ≡ 0)
unfolding share
anew sh w cs c None k l h = tt
anew sh w cs c (Some n) k l h =
    let one : num (n.tid.0 == n.tid.0) ≡ 1 = grind nats in
    omega (arith, one, h n.tid.0, k n.tid.0, total-le (share (holder n.tid.0) w 0) sh.cores c l)

-- f: the core's part after its step
moved-once : (sh : Shape) (w v : World) (cs : List Noted) (c : ℕ) (n : Option Noted) (f : ℕ → ℕ) → Once sh w cs → v.next ≡ w.next
    → ((t : ℕ) → sum_of (holder t) sh.cores v 0 + holder t (pair w c 0) ≡ sum_of (holder t) sh.cores w 0 + f t)
    → ((t : ℕ) → f t + noted_tid t n ≤ holder t (pair w c 0)) → Once sh v (and_noted n cs)
moved-once sh w v cs c n f k e s h t =
    let q : num (nat_le v.next t) ≡ num (nat_le w.next t) = ap (λ x. num (nat_le x t)) e in
    omega (arith, k, s, h, times-noted)

swap : (a b : ℕ) → a + b ≡ b + a
swap a b = omega arith

-- what a core that makes o of its own, or of a message, commits was its TID
pub noted-moved : (v : Pair) {o : Out} {c : ℕ} → KeepsHolder c none v.core o → (t : ℕ) → noted_tid t o.commit ≤ holder t v
noted-moved v k t = omega (arith, holder-moved v 0 t k)

pub noted-granted : (v : Pair) {o : Out} {c : ℕ} (k : ℕ) {u : ℕ} → slice_index_or v.grants k None ≡ Some (TidGrant u)
    → KeepsHolder c (λ t. num (u == t)) v.core o → (t : ℕ) → noted_tid t o.commit ≤ holder t v
noted-granted v k e h t = omega (arith, holder-granted v 0 t k e h)

pub move-once : (sh : Shape) (w : World) (cs : List Noted) (c : ℕ) (o : Out) → Once sh w cs → c < sh.cores
    → KeepsHolder c none (w.cores c) o → Once sh (core_moves w c o) (and_noted o.commit cs)
unfolding pair core_moves
move-once sh w cs c o k l h = moved-once sh w (core_moves w c o) cs c o.commit (λ t. holder t (after_move (pair w c 0) o 0)) k refl
    (λ t. sum_move (holder t) sh.cores w c o 0 (holder t (pair w c 0)) (holder t (after_move (pair w c 0) o 0)) l
    (swap (holder t (after_move (pair w c 0) o 0)) (holder t (pair w c 0)))) (λ t. holder-moved (pair w c 0) 0 t h)

pub grant-once : (sh : Shape) (w : World) (cs : List Noted) (c k u : ℕ) {o : Out} → Once sh w cs → c < sh.cores
    → in_flight w.net Vendor (Core c) k ≡ Some (TidGrant u) → KeepsHolder c (λ t. num (u == t)) (w.cores c) o
    → Once sh (core_takes w Vendor c k o) (and_noted o.commit cs)
unfolding pair core_takes
grant-once sh w cs c k u {o} h l i y = moved-once sh w (core_takes w Vendor c k o) cs c o.commit
    (λ t. holder t (after_move (grant_taken (pair w c 0) k) o 0)) h refl
    (λ t. sum_grant (holder t) sh.cores w c k o 0 (holder t (pair w c 0)) (holder t (after_move (grant_taken (pair w c 0) k) o 0)) l
    (swap (holder t (after_move (grant_taken (pair w c 0) k) o 0)) (holder t (pair w c 0)))) (λ t. holder-granted (pair w c 0) 0 t k i y)

pub back-once : (sh : Shape) (w : World) (cs : List Noted) (e c k : ℕ) (o : Out) → Once sh w cs → c < sh.cores
    → KeepsHolder c none (w.cores c) o → Once sh (core_takes w (Dir e) c k o) (and_noted o.commit cs)
unfolding pair core_takes holder
back-once sh w cs e c k o h l y = moved-once sh w (core_takes w (Dir e) c k o) cs c o.commit
    (λ t. holder t (after_move (pair w c 0) o 0)) h refl
    (λ t. sum t (cases_eq 0 e)) (λ t. holder-moved (pair w c 0) 0 t y)
  where
    sum : (t : ℕ) → (0 ≡ e) ⊎ (0 ≢ e) → sum_of (holder t) sh.cores (core_takes w (Dir e) c k o) 0 + holder t (pair w c 0) ≡ sum_of
        (holder t) sh.cores w 0 + holder t (after_move (pair w c 0) o 0)
    sum t (inl q) = subst (λ e. sum_of (holder t) sh.cores (core_takes w (Dir e) c k o) 0 + holder t (pair w c 0) ≡ sum_of
        (holder t) sh.cores w 0 + holder t (after_move (pair w c 0) o 0)) q
        (sum_back (holder t) sh.cores w c k o 0 (holder t (pair w c 0)) (holder t (after_move (pair w c 0) o 0)) l
        (swap (holder t (after_move (pair w c 0) o 0)) (holder t (pair w c 0))))
    sum t (inr q) = sum_back_away (holder t) sh.cores w e c k o 0 (holder t (pair w c 0)) (holder t (after_move (pair w c 0) o 0)) q l
        (swap (holder t (after_move (pair w c 0) o 0)) (holder t (pair w c 0)))

-- where no core's part changes
pub same-once : (sh : Shape) (w v : World) (cs : List Noted) → Once sh w cs → v.next ≡ w.next
    → ((t j d : ℕ) → holder t (pair v j d) ≡ holder t (pair w j d)) → Once sh v cs
unfolding share
same-once sh w v cs k e h t =
    let q : num (nat_le v.next t) ≡ num (nat_le w.next t) = ap (λ x. num (nat_le x t)) e in
    omega (arith, k, total-same (share (holder t) v 0) (share (holder t) w 0) sh.cores (λ j l. h t j 0))

-- the vendor gives
pub holder-given : (v : Pair) (k t : ℕ) (g : Gift) → holder t (after_gift v k g) + 0 ≡ holder t v + among (Grants t) (gift_of g v.next)
unfolding holder
holder-given v k t g = omega (arith, live-sends)

pub holder-next : (v : Pair) (t : ℕ) (g : Gift) → holder t (after_other_gift v g) ≡ holder t v
unfolding holder
holder-next v t g = refl

pub vendor-once : (sh : Shape) (w : World) (cs : List Noted) (c k : ℕ) (a : Ask) → Once sh w cs → c < sh.cores
    → Once sh (gives_to w c k a) cs
unfolding vendor_gives pair
vendor-once sh w cs c k a h l t =
    let s = sum_vendor (holder t) sh.cores w c k a 0 0 (among (Grants t) (gift_of (gift a) w.next)) l
    (holder-given (pair w c 0) k t (gift a)) (λ j n. holder-next (pair w j 0) t (gift a)) in
    omega (arith, h, gift-counts (gift a) w.next t)

-- the cores that messages come from and go to are of the machine
pub record FromCores (sh : Shape) (w : World) : Type 0 where
  pub grants : (c k : ℕ) (m : Msg) → in_flight w.net Vendor (Core c) k ≡ Some m → c < sh.cores
  pub back : (c d k : ℕ) (m : Msg) → FromDir w d c k m → c < sh.cores
  pub asks : (c k : ℕ) (m : Msg) → in_flight w.net (Core c) Vendor k ≡ Some m → c < sh.cores

-- every event keeps that a TID is in one place, whatever was granted before
pub step-once : (sh : Shape) (p : Program) (w : World) (cs : List Noted) (e : Event) → FromCores sh w → Once sh w cs
    → IfSome (step sh p w e) (λ o. Once sh o.world (and_noted o.noted cs))
unfolding pair dir_takes dir_asks holder
step-once sh p w cs e z h = step_cases sh p w e (λ g o. Once sh o.world (and_noted o.noted cs))
    (λ c o eq l. move-once sh w cs c o h l (got _ eq (holder-exec sh p c (w.cores c))))
    (λ c x y o eq l. move-once sh w cs c o h l (got _ eq (holder-evict sh x y c (w.cores c))))
    (λ c k t i. grant-once sh w cs c k t h (z.grants c k (TidGrant t) i) i (holder-grant sh t c (w.cores c)))
    (λ c d k m o eq i. back-once sh w cs d c k o h (z.back c d k m i) (got _ eq (holder-back sh d c (w.cores c) m)))
    (λ c d k m i. answered c d k (dir_deliver sh (w.dirs d) c m)) (λ c k a i. vendor-once sh w cs c k a h (z.asks c k (asking a) i))
  where
    answered : (c d k : ℕ) (a : Answer) → OfAnswer w c d k (λ v. Once sh v cs) a
    answered c d k Waits = tt
    answered c d k Drops = same-once sh w (dir_takes w c d k (w.dirs d) nothing) cs h refl (λ t j d. refl)
    answered c d k (Asks s sends) = same-once sh w (dir_asks w d s sends) cs h refl (λ t j d. refl)
    answered c d k (Takes s sends) = same-once sh w (dir_takes w c d k s sends) cs h refl (λ t j d. refl)

-- and no commit that it notes is of a TID that was committed before
pub step-anew : (sh : Shape) (p : Program) (w : World) (cs : List Noted) (e : Event) → FromCores sh w → Once sh w cs
    → IfSome (step sh p w e) (λ o. IfSome o.noted (λ x. times x.tid.0 cs ≡ 0))
unfolding pair
step-anew sh p w cs e z h = step_cases sh p w e (λ g o. IfSome o.noted (λ x. times x.tid.0 cs ≡ 0))
    (λ c o eq l. anew sh w cs c o.commit h l (noted-moved (pair w c 0) (got _ eq (holder-exec sh p c (w.cores c)))))
    (λ c x y o eq l. anew sh w cs c o.commit h l (noted-moved (pair w c 0) (got _ eq (holder-evict sh x y c (w.cores c)))))
    (λ c k t i. anew sh w cs c (grant sh t (w.cores c)).commit h (z.grants c k (TidGrant t) i)
    (noted-granted (pair w c 0) k i (holder-grant sh t c (w.cores c))))
    (λ c d k m o eq i. anew sh w cs c o.commit h (z.back c d k m i)
    (noted-moved (pair w c 0) (got _ eq (holder-back sh d c (w.cores c) m))))
    (λ c d k m i. answered c d k (dir_deliver sh (w.dirs d) c m)) (λ c k a i. tt)
  where
    answered : (c d k : ℕ) (a : Answer) → OfAnswer w c d k (λ v. Unit {0}) a
    answered c d k Waits = tt
    answered c d k _ = tt
