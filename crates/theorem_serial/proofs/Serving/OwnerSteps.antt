-- Each kind of event keeps who has which TID, and the list of commits; then the TID that is committing.
use Rattle.theorem_serial.proofs
use proofs.Names
use Names.{got, nothing, Contains-append_right, Contains-append_cases, Contains-append_left, slice_index_or}
use Names.{length-append, waits_for_tid, vendor_start, vendor_gives, dir_deliver, grant_taken, LastGranted, append-nil}
use Names.{core_start, core_moves, core_takes, after_move, granted_by, IsNumbered, AreGranted, KeptOwners, in_flight, dir_takes, and_noted}
use Names.{RequestOf, Contains, cases_eq, TidGrant, DirState, dir_asks, KeptTids, IsRising, AnyGrant, Program, has_tid, AsksTid, Option}
use Names.{IfSome, nat_le, Vendor, TidReq, Answer, Grants, passes, holder, false, arith, Noted, Local, Event, Shape, World}
use Names.{start, Sends, grant, Waits, Drops, Takes, among, share, Grant, times, Phase, ◌==◌, List, ◌++◌, Some, None, refl, Core, Asks}
use Names.{step, live, Pair, pair, true, Link, ◌+◌, ◌≡◌, ◌<◌, ◌≤◌, ◌∷◌, sym, ◌∙◌, ◌⊎◌, inl, inr, num, Dir, Out, Msg, [], ap, ℕ, nats}
use Names.{grant_to, ◌≢◌, tested, eq-self, CommitsAreServed, SparesCommitter, KeptCommitting, grant_in_phase, CommitsAbove, after_answer}
use Names.{CommittingOf, cases_order, Overflowing, back_taken, out_taken, CoreState, DoomedTid, Resolves, cases_lt, AwaitTid, sent_all}
use Names.{KeptTold, SparedOf, Commits, handled, Running, Probing, nat_lt, Halted, Ready, part, Kept, Solo, Invs, Acks, due, tid_at, to_dir}
use Names.{to_core, FromCore, FromDir}
use proofs.Counts.{live-sends, live-takes, total-le, total-zero, live-fewer, OfAnswer, step_cases, pairs_move}
use proofs.Counts.{pairs_grant, pairs_back, pairs_vendor, pairs_dir, pairs_asks}
use proofs.Serving.KeptSteps.{core_of_grant, core_of_back, core_of_ask, marks_home, acks_owed, invs-few, core_of_out, once_at}
use proofs.Serving.OnceSteps.{holder-moved, holder-granted, Once, anew, noted-moved, noted-granted, move-once, grant-once}
use proofs.Serving.OnceSteps.{back-once, same-once, holder-given, holder-next, vendor-once}
use proofs.Tids.{insert-rising, insert-granted, granted-more, numbered-more, numbered-least, numbered-most}
use proofs.Tids.{KeepsHolder, noted_tid, none, holder-exec, holder-evict, holder-grant, holder-back, granted-once}
use proofs.Serving.CoreDue.{CommitsNoted, noted-exec, noted-evict, noted-grant, noted-back, Served, served-exec, served-evict, served-grant}
use proofs.Serving.CoreDue.{served-back, fewer-commits}
use proofs.Serving.DirDue.{Due, DueBy, dir-due, still-due, none-quiet, SparesOwn, SparesBy, dir-spares, Rises, RisesBy, dir-rises}
use proofs.Serving.DirDue.{rises-still}
use Names.{length}
use proofs.Counts.{Ask, asking, Gift, gift, gift_of, next_after, gift_grants, per-gift, gift-tid}
use proofs.Counts.{gift-is, gift-gives, gift-granted, asks-tid, gives_to, after_gift, after_other_gift}

commits_after : {sh : Shape} {gs : List Grant} {w : World} {cs : List Noted} (c : ℕ) (n : Option Noted) → KeptOwners sh gs w cs
    → c < sh.cores → ((t : ℕ) → noted_tid t n ≤ holder t (pair w c 0)) → IfSome n (λ x. x.core.0 ≡ c)
    → AreGranted gs (and_noted n cs) × IsRising 0 (and_noted n cs)
commits_after c None k l h o = (k.granted, k.rising)
commits_after {sh} {gs} {w} {cs} c (Some n) k l h o =
    let one : num (n.tid.0 == n.tid.0) ≡ 1 = grind nats in
    let mine : 1 ≤ holder n.tid.0 (pair w c 0) = omega (arith, h) in
    let has : Contains gs (grant_to n.tid.0 c) = k.held c 0 n.tid.0 mine in
    let least : 1 ≤ n.tid.0 = numbered-least 1 gs (grant_to n.tid.0 c) k.numbered has in
    (insert-granted gs n cs k.granted (rw o has), insert-rising 0 n cs k.rising least (anew sh w cs c (Some n) k.once l h))

-- all that a step of core c owes
moved-owners : {sh : Shape} {gs : List Grant} {w v : World} {cs : List Noted} (c : ℕ) (n : Option Noted) → KeptOwners sh gs w cs
    → c < sh.cores → v.next ≡ w.next → Once sh v (and_noted n cs) → ((t : ℕ) → noted_tid t n ≤ holder t (pair w c 0))
    → IfSome n (λ x. x.core.0 ≡ c) → ((j d t : ℕ) → 1 ≤ holder t (pair v j d) → Contains gs (grant_to t j))
    → KeptOwners sh gs v (and_noted n cs)
moved-owners c n k l e once h o held =
    let a = commits_after c n k l h o in
    record { once = once; held = held; numbered = k.numbered; next = e ∙ k.next; granted = a.0; rising = a.1 }

abbrev HeldBy : List Grant → (core dir : ℕ) → Pair → Type 0
HeldBy gs c d v = (t : ℕ) → 1 ≤ holder t v → Contains gs (grant_to t c)

move-owners : {sh : Shape} {gs : List Grant} (w : World) {cs : List Noted} (c : ℕ) (o : Out) → KeptOwners sh gs w cs → c < sh.cores
    → KeepsHolder c none (w.cores c) o → KeptOwners sh gs (core_moves w c o) (and_noted o.commit cs)
unfolding pair core_moves
move-owners {sh} {gs} w {cs} c o k l h = moved-owners c o.commit k l refl (move-once sh w cs c o k.once l h)
    (noted-moved (pair w c 0) h) h.own
    (pairs_move (HeldBy gs) w c o (λ d t x. k.held c d t (omega (arith, holder-moved (pair w c d) d t h))) k.held)

grant-owners : {sh : Shape} {gs : List Grant} (w : World) {cs : List Noted} (c k u : ℕ) {o : Out} → KeptOwners sh gs w cs → c < sh.cores
    → in_flight w.net Vendor (Core c) k ≡ Some (TidGrant u) → KeepsHolder c (λ t. num (u == t)) (w.cores c) o
    → KeptOwners sh gs (core_takes w Vendor c k o) (and_noted o.commit cs)
unfolding pair core_takes
grant-owners {sh} {gs} w {cs} c k u {o} h l i y = moved-owners c o.commit h l refl (grant-once sh w cs c k u h.once l i y)
    (noted-granted (pair w c 0) k i y) y.own
    (pairs_grant (HeldBy gs) w c k o (λ d t x. h.held c d t (omega (arith, holder-granted (pair w c d) d t k i y))) h.held)

back-owners : {sh : Shape} {gs : List Grant} (w : World) {cs : List Noted} (e c k : ℕ) (o : Out) → KeptOwners sh gs w cs → c < sh.cores
    → KeepsHolder c none (w.cores c) o → KeptOwners sh gs (core_takes w (Dir e) c k o) (and_noted o.commit cs)
unfolding pair core_takes holder
back-owners {sh} {gs} w {cs} e c k o h l y = moved-owners c o.commit h l refl (back-once sh w cs e c k o h.once l y)
    (noted-moved (pair w c 0) y) y.own
    (pairs_back (HeldBy gs) w e c k o (λ t x. h.held c e t (omega (arith, holder-moved (pair w c e) e t y)))
    (λ d n t x. h.held c d t (omega (arith, holder-moved (pair w c d) d t y))) h.held)

-- where no core's part changes
same-owners : {sh : Shape} {gs : List Grant} {w v : World} {cs : List Noted} → KeptOwners sh gs w cs → v.next ≡ w.next
    → ((t j d : ℕ) → holder t (pair v j d) ≡ holder t (pair w j d)) → KeptOwners sh gs v cs
same-owners {sh} {w} {v} {cs} k e h = record {
  once = same-once sh w v cs k.once e h;
  held = λ c d t l. k.held c d t (rw (sym (h t c d)) l);
  numbered = k.numbered;
  next = e ∙ k.next;
  granted = k.granted;
  rising = k.rising;
}

dir-owners : {sh : Shape} {gs : List Grant} {w : World} {cs : List Noted} (c e k : ℕ) (s : DirState) (sends : Sends) → KeptOwners sh gs w cs
    → KeptOwners sh gs (dir_takes w c e k s sends) cs
unfolding dir_takes pair holder
dir-owners c e k s sends h = same-owners h refl (λ t j d. refl)

asks-owners : {sh : Shape} {gs : List Grant} {w : World} {cs : List Noted} (e : ℕ) (s : DirState) (sends : Sends) → KeptOwners sh gs w cs
    → KeptOwners sh gs (dir_asks w e s sends) cs
unfolding dir_asks pair holder
asks-owners e s sends h = same-owners h refl (λ t j d. refl)

-- a TID that the core has afterwards it had, or it was given
pub had-or-given : (v : Pair) (k t : ℕ) (g : Gift) → 1 ≤ holder t (after_gift v k g)
    → (1 ≤ holder t v) ⊎ (1 ≤ among (Grants t) (gift_of g v.next))
had-or-given v k t g x = elim (cases_eq (holder t v) 0) [
  | inl z ↦ inr (omega (arith, x, z, holder-given v k t g))
  | inr n ↦ inl (omega arith)
]

numbered-gift : (g : Gift) (gs : List Grant) (n c : ℕ) → IsNumbered 1 gs → n ≡ length gs + 1
    → IsNumbered 1 (gs ++ gift_grants g n c) × (next_after g n ≡ length (gs ++ gift_grants g n c) + 1)
numbered-gift g gs n c h e = per-gift g n c (λ hs m. IsNumbered 1 (gs ++ hs) × (m ≡ length (gs ++ hs) + 1))
    (numbered-more 1 gs (grant_to n c) h (omega arith), omega (arith, length-append gs (grant_to n c ∷ [])))
    (rw append-nil h, rw append-nil e)

vendor-owners : (sh : Shape) (gs : List Grant) (w : World) (cs : List Noted) (c k : ℕ) (a : Ask) → KeptOwners sh gs w cs → c < sh.cores
    → KeptOwners sh (gs ++ gift_grants (gift a) w.next c) (gives_to w c k a) cs
unfolding vendor_gives pair
vendor-owners sh gs w cs c k a h l = record {
  once = vendor-once sh w cs c k a h.once l;
  held = pairs_vendor (HeldBy (gs ++ new)) w c k a (λ d t x. own d t (had-or-given (pair w c d) k t (gift a) x))
      (λ j d n t x. Contains-append_left gs new (grant_to t j) (h.held j d t (rw (sym (holder-next (pair w j d) t (gift a))) x)));
  numbered = (numbered-gift (gift a) gs w.next c h.numbered h.next).0;
  next = (numbered-gift (gift a) gs w.next c h.numbered h.next).1;
  granted = granted-more gs new cs h.granted;
  rising = h.rising;
}
  where
    new : List Grant
    new = gift_grants (gift a) w.next c

    own : (d t : ℕ) → (1 ≤ holder t (pair w c d)) ⊎ (1 ≤ among (Grants t) (gift_of (gift a) w.next)) → Contains (gs ++ new) (grant_to t c)
    own d t (inl x) = Contains-append_left gs new (grant_to t c) (h.held c d t x)
    own d t (inr x) = Contains-append_right gs new (grant_to t c) (gift-granted (gift a) w.next c t x)

share-start : (entries : ℕ → Local) (ram : ℕ → ℕ) (t j : ℕ) → share (holder t) (start entries ram) 0 j ≡ 0
unfolding share holder start core_start pair live has_tid
share-start entries ram t j = refl

pub start-owners : (sh : Shape) (entries : ℕ → Local) (ram : ℕ → ℕ) → KeptOwners sh [] (start entries ram) []
unfolding start vendor_start pair core_start live holder has_tid IsNumbered IsRising AreGranted times
start-owners sh entries ram = record {
  once = λ t. let z = total-zero (share (holder t) (start entries ram) 0) sh.cores (λ j l. share-start entries ram t j) in
      let b : num (nat_le 1 t) ≤ 1 = grind nats in omega arith;
  held = λ c d t l. absurd (omega arith);
  numbered = tt;
  next = refl;
  granted = tt;
  rising = tt;
}

-- every event keeps who has which TID
pub step-owners : {sh : Shape} (p : Program) {gs : List Grant} {w : World} {cs : List Noted} (e : Event) → KeptTids sh w
    → KeptOwners sh gs w cs → IfSome (step sh p w e) (λ o. KeptOwners sh (gs ++ granted_by w e) o.world (and_noted o.noted cs))
step-owners {sh} p {gs} {w} {cs} e z h = step_cases sh p w e (λ g o. KeptOwners sh (gs ++ g) o.world (and_noted o.noted cs))
    (λ c o eq l. moved c l o (got _ eq (holder-exec sh p c (w.cores c))))
    (λ c x y o eq l. moved c l o (got _ eq (holder-evict sh x y c (w.cores c))))
    (λ c k t i. rw append-nil (grant-owners w c k t h (core_of_grant c k z i) i (holder-grant sh t c (w.cores c))))
    (λ c d k m o eq i. backs c d k (core_of_back c d k z i) o (got _ eq (holder-back sh d c (w.cores c) m)))
    (λ c d k m i. answered c d k (dir_deliver sh (w.dirs d) c m)) (λ c k a i. vendor-owners sh gs w cs c k a h (core_of_ask c k z i))
  where
    moved : (c : ℕ) → c < sh.cores → (o : Out) → KeepsHolder c none (w.cores c) o
        → KeptOwners sh (gs ++ []) (core_moves w c o) (and_noted o.commit cs)
    moved c l o y = rw append-nil (move-owners w c o h l y)

    backs : (c d k : ℕ) → c < sh.cores → (o : Out) → KeepsHolder c none (w.cores c) o
        → KeptOwners sh (gs ++ []) (core_takes w (Dir d) c k o) (and_noted o.commit cs)
    backs c d k l o y = rw append-nil (back-owners w d c k o h l y)

    answered : (c d k : ℕ) (a : Answer) → OfAnswer w c d k (λ v. KeptOwners sh (gs ++ []) v cs) a
    answered c d k Waits = tt
    answered c d k Drops = rw append-nil (dir-owners c d k (w.dirs d) nothing h)
    answered c d k (Asks s sends) = rw append-nil (asks-owners d s sends h)
    answered c d k (Takes s sends) = rw append-nil (dir-owners c d k s sends h)

-- a grant in flight is the only one of its TID
pub grant-alone : {sh : Shape} {gs : List Grant} {w : World} {cs : List Noted} (c t : ℕ) → KeptOwners sh gs w cs → c < sh.cores
    → num (nat_le w.next t) + live (Grants t) (w.net Vendor (Core c)) ≤ 1
unfolding share holder pair
grant-alone {sh} {w} c t k l = omega (arith, k.once t, total-le (share (holder t) w 0) sh.cores c l)

-- Every event keeps that a core's TID is the last that was granted to it.
abbrev LastOf : List Grant → (core dir : ℕ) → Pair → Type 0
LastOf gs c d v = (t u : ℕ) → 1 ≤ holder t v → Contains gs (grant_to u c) → u ≤ t

-- a core that waits has no TID
waits-none : (q : Phase) (t : ℕ) → waits_for_tid q ≡ true → has_tid q t ≡ false
unfolding waits_for_tid has_tid
waits-none a t h = grind nats

grants-any : (t : ℕ) (m : Msg) → num (passes (Grants t) m) ≤ num (passes AnyGrant m)
unfolding passes
grants-any t m = grind nats

pub grant-any : (t : ℕ) (l : Link) → live (Grants t) l ≤ live AnyGrant l
grant-any t l = live-fewer (Grants t) AnyGrant (grants-any t) l

-- a core that has a request in flight has no TID, and none is on its way to it
pub asking-none : (v : Pair) (k t : ℕ) → slice_index_or v.asks k None ≡ Some TidReq → RequestOf v → holder t v ≡ 0
unfolding holder passes
asking-none v k t i r = elim (tested (waits_for_tid v.core.phase)) [
  | inl q ↦ let a : num (waits_for_tid v.core.phase) ≡ 1 = ap num q in let n : num (has_tid v.core.phase t) ≡ 0 =
      ap num (waits-none v.core.phase t q) in omega (arith, live-takes AsksTid v.asks k TidReq i, grant-any)
  | inr q ↦ let a : num (waits_for_tid v.core.phase) ≡ 0 = ap num q in absurd (omega (arith, live-takes AsksTid v.asks k TidReq i))
]

pub step-last : {sh : Shape} (p : Program) {gs : List Grant} {w : World} {cs : List Noted} (e : Event) → KeptTids sh w
    → KeptOwners sh gs w cs → LastGranted gs w → IfSome (step sh p w e) (λ o. LastGranted (gs ++ granted_by w e) o.world)
unfolding pair holder
step-last {sh} p {gs} {w} e z y h = step_cases sh p w e (λ g o. LastGranted (gs ++ g) o.world)
    (λ c o eq l. moved c o (got _ eq (holder-exec sh p c (w.cores c))))
    (λ c a b o eq l. moved c o (got _ eq (holder-evict sh a b c (w.cores c)))) (λ c k u i. rw append-nil
    (pairs_grant (LastOf gs) w c k (grant sh u (w.cores c)) (λ d t x q. h c d t x (omega
    (arith, q, holder-granted (pair w c d) d t k i (holder-grant sh u c (w.cores c))))) h))
    (λ c d k m o eq i. taken c d k o (got _ eq (holder-back sh d c (w.cores c) m)))
    (λ c d k m i. answered c d k (dir_deliver sh (w.dirs d) c m)) (λ c k a i. pairs_vendor (LastOf (gs ++ new a c)) w c k a
    (λ d t x q m. own c k a d t x i (had-or-given (pair w c d) k t (gift a) q) (Contains-append_cases gs (new a c) (grant_to x c) m))
    (λ j d n t x q m. other a c j d t x n q (Contains-append_cases gs (new a c) (grant_to x j) m)))
  where
    new : Ask → ℕ → List Grant
    new a c = gift_grants (gift a) w.next c

    moved : (c : ℕ) (o : Out) → KeepsHolder c none (w.cores c) o → LastGranted (gs ++ []) (core_moves w c o)
    moved c o k =
        rw append-nil (pairs_move (LastOf gs) w c o (λ d t x q. h c d t x (omega (arith, holder-moved (pair w c d) d t k))) h)

    taken : (c d i : ℕ) (o : Out) → KeepsHolder c none (w.cores c) o → LastGranted (gs ++ []) (core_takes w (Dir d) c i o)
    taken c d i o k =
        rw append-nil (pairs_back (LastOf gs) w d c i o (λ t x q. h c d t x (omega (arith, holder-moved (pair w c d) d t k)))
        (λ e n t x q. h c e t x (omega (arith, holder-moved (pair w c e) e t k))) h)

    answered : (c d i : ℕ) (a : Answer) → OfAnswer w c d i (LastGranted (gs ++ [])) a
    answered c d i Waits = tt
    answered c d i Drops = rw append-nil (pairs_dir (LastOf gs) w c d i (w.dirs d) nothing (h c d) (λ j n. h j d) h)
    answered c d i (Asks s sends) = rw append-nil (pairs_asks (LastOf gs) w d s sends (λ j. h j d) h)
    answered c d i (Takes s sends) = rw append-nil (pairs_dir (LastOf gs) w c d i s sends (h c d) (λ j n. h j d) h)

    -- where a TID is given, the core had none
    own : (c k : ℕ) (a : Ask) (d t x : ℕ) → in_flight w.net (Core c) Vendor k ≡ Some (asking a)
        → (1 ≤ holder t (pair w c d)) ⊎ (1 ≤ among (Grants t) (gift_of (gift a) w.next))
        → Contains gs (grant_to x c) ⊎ Contains (new a c) (grant_to x c) → x ≤ t
    own c k a d t x i (inl q) (inl m) = h c d t x q m
    own c k a d t x i (inl q) (inr m) =
        absurd (omega (
          arith,
          asking-none (pair w c d) k t (i ∙ ap Some (asks-tid a (gift-gives (gift a) w.next c (grant_to x c) m)))
              (z.requests c d),
          q,
        ))
    own c k a d t x i (inr q) (inl m) =
        omega (arith, (gift-tid (gift a) w.next t q).1, numbered-most 1 gs (grant_to x c) y.numbered m)
    own c k a d t x i (inr q) (inr m) =
        omega (arith, (gift-tid (gift a) w.next t q).1, ap (λ r. r.tid) (gift-is (gift a) w.next c (grant_to x c) m))

    other : (a : Ask) (c j d t x : ℕ) → j ≢ c → 1 ≤ holder t (after_other_gift (pair w j d) (gift a)) → Contains gs (grant_to x j)
        ⊎ Contains (new a c) (grant_to x j) → x ≤ t
    other a c j d t x n q (inl m) = h j d t x q m
    other a c j d t x n q (inr m) = absurd (n (sym (ap (λ r. r.core) (gift-is (gift a) w.next c (grant_to x j) m))))

-- Every event keeps that a Commit in flight is of the served TID, and that no invalidation goes to the core that committed.

-- Every event keeps that a Commit in flight is of the served TID, and so does every run.
committing-moved : (v : Pair) (o : Out) (d : ℕ) → Served d v.dir.serving.serving o → CommittingOf v → CommittingOf (after_move v o d)
committing-moved v o d y h = omega (arith, live-sends)

committing-answered : (v : Pair) {s : DirState} {sends : Sends} (ms : List Msg) → Rises v.dir s sends → CommittingOf v
    → CommittingOf (after_answer v s ms)
committing-answered v {s} ms u h = omega (arith, fewer-commits v.dir.serving.serving s.serving.serving v.out u.rises)

committing-taken : (v : Pair) (k : ℕ) (m : Msg) (s : DirState) {sends : Sends} (ms : List Msg) → slice_index_or v.out k None ≡ Some m
    → Rises v.dir s sends → CommittingOf v → CommittingOf (after_answer (out_taken v k) s ms)
committing-taken v k m s ms i u h =
    omega (
      arith,
      fewer-commits v.dir.serving.serving s.serving.serving v.out u.rises,
      live-takes (CommitsAbove s.serving.serving) v.out k m i,
    )

pub step-committing : {sh : Shape} (p : Program) {w : World} (e : Event) → Kept sh w → KeptCommitting w
    → IfSome (step sh p w e) (λ o. KeptCommitting o.world)
unfolding pair
step-committing {sh} p {w} e z h = step_cases sh p w e (λ g o. KeptCommitting o.world)
    (λ c o eq l. moved c o (λ d. got _ eq (served-exec p c (z.probes c d).core)))
    (λ c x y o eq l. moved c o (λ d. got _ eq (served-evict sh x y d (tid_at w d) (w.cores c))))
    (λ c k t i. pairs_grant P w c k (grant sh t (w.cores c)) (λ d. committing-moved (grant_taken (pair w c d) k) (grant sh t (w.cores c)) d
    (served-grant sh t d (tid_at w d) (w.cores c)) (h c d)) h)
    (λ c d k m o eq i. taken c d k o (λ e. got _ eq (served-back sh d e (tid_at w e) (w.cores c) m)))
    (λ c d k m i. answered c d k m i (dir_deliver sh (w.dirs d) c m) (dir-rises sh (w.dirs d) c m))
    (λ c k a i. pairs_vendor P w c k a (h c) (λ j d n. h j d))
  where
    P : ℕ → ℕ → Pair → Type 0
    P c d v = CommittingOf v

    moved : (c : ℕ) (o : Out) → ((d : ℕ) → Served d (tid_at w d) o) → KeptCommitting (core_moves w c o)
    moved c o y = pairs_move P w c o (λ d. committing-moved (pair w c d) o d (y d) (h c d)) h

    taken : (c e k : ℕ) (o : Out) → ((d : ℕ) → Served d (tid_at w d) o) → KeptCommitting (core_takes w (Dir e) c k o)
    taken c e k o y = pairs_back P w e c k o (committing-moved (back_taken (pair w c e) k) o e (y e) (h c e))
        (λ d n. committing-moved (pair w c d) o d (y d) (h c d)) h

    dir : (c d k : ℕ) {m : Msg} {s : DirState} {sends : Sends} → FromCore w c d k m → Rises (w.dirs d) s sends
        → KeptCommitting (dir_takes w c d k s sends)
    dir c d k {m} {s} {sends} i u = pairs_dir P w c d k s sends (committing-taken (pair w c d) k m s (sends (Core c)) i u (h c d))
        (λ j n. committing-answered (pair w j d) (sends (Core j)) u (h j d)) h

    answered : (c d k : ℕ) (m : Msg) → FromCore w c d k m → (a : Answer) → RisesBy (w.dirs d) a → OfAnswer w c d k KeptCommitting a
    answered c d k m i Waits u = tt
    answered c d k m i Drops u = dir c d k i (rises-still (w.dirs d))
    answered c d k m i (Asks s sends) u = pairs_asks P w d s sends (λ j. committing-answered (pair w j d) (sends (Core j)) u (h j d)) h
    answered c d k m i (Takes s sends) u = dir c d k i u

pub start-committing : (entries : ℕ → Local) (ram : ℕ → ℕ) → KeptCommitting (start entries ram)
unfolding start pair live
start-committing entries ram c d = refl

-- a Commit of a larger TID would be above the served one
pub of-above : (s t : ℕ) (m : Msg) → s < t → num (passes (Commits t) m) ≤ num (passes (CommitsAbove s) m)
unfolding passes
of-above s t m l = grind nats

ofs-above : (s t : ℕ) (l : Link) → s < t → live (Commits t) l ≤ live (CommitsAbove s) l
ofs-above s t l h = live-fewer (Commits t) (CommitsAbove s) (λ m. of-above s t m h) l

pub of-resolves : (t : ℕ) (m : Msg) → num (passes (Commits t) m) ≤ num (passes (Resolves t) m)
unfolding passes
of-resolves t m = grind nats

-- a Commit is a word on its TID
pub ofs-resolve : (t : ℕ) (l : Link) → live (Commits t) l ≤ live (Resolves t) l
ofs-resolve t l = live-fewer (Commits t) (Resolves t) (of-resolves t) l

pub commits_served : {sh : Shape} {w : World} → Kept sh w → KeptCommitting w → CommitsAreServed sh w
unfolding handled share part pair
commits_served {sh} {w} z k c d t l x o = go (cases_order (tid_at w d) t)
  where
    go : (tid_at w d ≡ t) ⊎ ((tid_at w d < t) ⊎ (t < tid_at w d)) → tid_at w d ≡ t
    go (inl e) = e
    go (inr (inl e)) = absurd (omega (arith, ofs-above (tid_at w d) t (to_dir w c d) e, k))
    go (inr (inr e)) =
        let b : num (nat_lt t (tid_at w d)) ≡ 1 = grind nats in
        absurd (omega (arith, z.told.tids.resolved, total-le (share (part sh d t) w d) sh.cores c l, ofs-resolve))

-- Every event keeps that no invalidation goes to the core that committed.

-- where nothing is owed, no invalidation is in flight
no-invs : {sh : Shape} {w : World} (d j : ℕ) → KeptTold sh w → (w.dirs d).owed ≡ 0 → live Invs (to_core w d j) ≡ 0
unfolding share due pair
no-invs {sh} {w} d j k z = elim (cases_lt j sh.cores) [
  | inl l ↦ omega (arith, k.owed.owed d, total-le (share due w d) sh.cores j l)
  | inr l ↦ omega (arith, (k.tids.inside j d).back l, invs-few)
]

-- a core's step sends Commits of the TID that it had
spared-moved : (sh : Shape) (gs : List Grant) (c d : ℕ) (v : Pair) (o : Out) → CommitsNoted o
    → ((t : ℕ) → 1 ≤ noted_tid t o.commit → Contains gs (grant_to t c)) → SparedOf sh gs c d v → SparedOf sh gs c d (after_move v o d)
spared-moved sh gs c d v o n f h = record { owner = λ t l. owner t l (cases_lt 0 (live (Commits t) v.out)); own = h.own }
  where
    owner : (t : ℕ) → 1 ≤ live (Commits t) (v.out ++ sent_all (o.sends (Dir d)))
        → (0 < live (Commits t) v.out) ⊎ (live (Commits t) v.out ≤ 0) → Contains gs (grant_to t c)
    owner t l (inl a) = h.owner t (omega arith)
    owner t l (inr a) = f t (omega (arith, live-sends, n))

-- a directory answers
spared-answered : (sh : Shape) (gs : List Grant) (j d : ℕ) (v : Pair) (s : DirState) (ms : List Msg)
    → (d < sh.dirs → Contains gs (grant_to s.serving.serving j) → live Invs (v.back ++ sent_all ms) ≡ 0)
    → ((t : ℕ) → 1 ≤ live (Commits t) v.out → Contains gs (grant_to t j)) → SparedOf sh gs j d (after_answer v s ms)
spared-answered sh gs j d v s ms f o = record { owner = o; own = f }

-- what a directory has sent and sends to a core that its served TID was granted to
spared-back : {sh : Shape} {gs : List Grant} (w : World) (c e k j : ℕ) {ack : ℕ} (m : Msg) (s : DirState) {sends : Sends} → IsNumbered 1 gs
    → SparesCommitter sh gs w → FromCore w c e k m → Due sh e (w.dirs e) ack s sends → SparesOwn (w.dirs e) c m sends
    → (s.owed ≡ 0 → live Invs (to_core w e j ++ sent_all (sends (Core j))) ≡ 0) → e < sh.dirs → Contains gs (grant_to s.serving.serving j)
    → live Invs (to_core w e j ++ sent_all (sends (Core j))) ≡ 0
unfolding pair
spared-back {gs} w c e k j m s {sends} y h i u p z l g = elim u.served [ inl q ↦ stays q.0 | inr q ↦ z q ]
  where
    taken : passes (Commits (tid_at w e)) m ≡ true → 1 ≤ live (Commits (tid_at w e)) (to_dir w c e)
    taken q = let n : num (passes (Commits (tid_at w e)) m) ≡ 1 = ap num q in
        omega (arith, live-takes (Commits (tid_at w e)) (to_dir w c e) k m i)

    sent : Contains gs (grant_to (tid_at w e) j) → SparesOwn (w.dirs e) c m sends → among Invs (sends (Core j)) ≡ 0
    sent a (inl q) = q j
    sent a (inr q) = let x : c ≡ j = granted-once 1 gs (tid_at w e) c j y ((h c e).owner (tid_at w e) (taken q.1)) a in
        ap (λ b. among Invs (sends (Core b))) (sym x) ∙ q.0

    stays : s.serving.serving ≡ tid_at w e → live Invs (to_core w e j ++ sent_all (sends (Core j))) ≡ 0
    stays q = let a : Contains gs (grant_to (tid_at w e) j) = rw q at g in
        omega (arith, (h j e).own l a, sent, live-sends)

dir-spared : {sh : Shape} {gs : List Grant} (w : World) (c e k : ℕ) {m : Msg} (s : DirState) (sends : Sends) → IsNumbered 1 gs
    → SparesCommitter sh gs w → KeptTold sh (dir_takes w c e k s sends) → FromCore w c e k m
    → Due sh e (w.dirs e) (num (passes Acks m)) s sends → SparesOwn (w.dirs e) c m sends → SparesCommitter sh gs (dir_takes w c e k s sends)
unfolding dir_takes pair
dir-spared {sh} {gs} w c e k {m} s sends y h z i u p = pairs_dir (SparedOf sh gs) w c e k s sends
    (spared-answered sh gs c e (out_taken (pair w c e) k) s (sends (Core c)) (back c)
    (λ t l. (h c e).owner t (omega (arith, live-takes (Commits t) (to_dir w c e) k m i))))
    (λ j n. spared-answered sh gs j e (pair w j e) s (sends (Core j)) (back j) (h j e).owner) h
  where
    v : World
    v = dir_takes w c e k s sends

    back : (j : ℕ) → e < sh.dirs → Contains gs (grant_to s.serving.serving j) → live Invs (to_core w e j ++ sent_all (sends (Core j))) ≡ 0
    back j = spared-back w c e k j m s y h i u p (λ x. rw (eq-self e) at (no-invs e j z (rw (eq-self e) x)))

asks-spared : {sh : Shape} {gs : List Grant} (w : World) (e : ℕ) (s : DirState) {sends : Sends} → SparesCommitter sh gs w
    → KeptTold sh (dir_asks w e s sends) → Due sh e (w.dirs e) 0 s sends → ((j : ℕ) → among Invs (sends (Core j)) ≡ 0)
    → SparesCommitter sh gs (dir_asks w e s sends)
unfolding dir_asks pair
asks-spared {sh} {gs} w e s {sends} h z u p =
    pairs_asks (SparedOf sh gs) w e s sends (λ j. spared-answered sh gs j e (pair w j e) s (sends (Core j)) (back j) (h j e).owner) h
  where
    v : World
    v = dir_asks w e s sends

    back : (j : ℕ) → e < sh.dirs → Contains gs (grant_to s.serving.serving j) → live Invs (to_core w e j ++ sent_all (sends (Core j))) ≡ 0
    back j l g = elim u.served [
      | inl q ↦ omega (arith, (h j e).own l (rw q.0 at g), p, live-sends)
      | inr q ↦ rw (eq-self e) at (no-invs e j z (rw (eq-self e) q))
    ]

-- a directory whose TID isn't granted yet is owed nothing
next-quiet : (sh : Shape) (w : World) (d j : ℕ) → KeptTold sh w → d < sh.dirs → tid_at w d ≡ w.next → live Invs (to_core w d j) ≡ 0
unfolding handled
next-quiet sh w d j k l e = elim (cases_eq (w.dirs d).owed 0) [
  | inl z ↦ no-invs d j k z
  | inr n ↦ let r = k.tids.resolved d (tid_at w d) l in absurd (grind nats)
]

vendor-spared : (sh : Shape) (gs : List Grant) (w : World) (c k : ℕ) (a : Ask) → SparesCommitter sh gs w → KeptTold sh w
    → SparesCommitter sh (gs ++ gift_grants (gift a) w.next c) (gives_to w c k a)
unfolding pair
vendor-spared sh gs w c k a h z = pairs_vendor (SparedOf sh (gs ++ new)) w c k a
    (λ d. record {
      owner = λ t l. Contains-append_left gs new (grant_to t c) ((h c d).owner t l);
      own = λ l x. own c d l (Contains-append_cases gs new (grant_to (tid_at w d) c) x);
    })
    (λ j d n. record {
      owner = λ t l. Contains-append_left gs new (grant_to t j) ((h j d).owner t l);
      own = λ l x. own j d l (Contains-append_cases gs new (grant_to (tid_at w d) j) x);
    })
  where
    new : List Grant
    new = gift_grants (gift a) w.next c

    own : (j d : ℕ) → d < sh.dirs → Contains gs (grant_to (tid_at w d) j)
        ⊎ Contains new (grant_to (tid_at w d) j) → live Invs (to_core w d j) ≡ 0
    own j d l (inl x) = (h j d).own l x
    own j d l (inr x) = next-quiet sh w d j z l (sym (ap (λ r. r.tid) (gift-is (gift a) w.next c (grant_to (tid_at w d) j) x)))

-- every event, where all else is kept
core-spared : {sh : Shape} {gs : List Grant} {w : World} {cs : List Noted} (c t : ℕ) {got : ℕ → ℕ} {o : Out} → KeptOwners sh gs w cs
    → KeepsHolder c got (w.cores c) o → (got t ≡ 0) → 1 ≤ noted_tid t o.commit → Contains gs (grant_to t c)
unfolding holder pair
core-spared c t y k z l = y.held c 0 t (omega (arith, k.holds t))

-- a grant notes no commit
no-commit : (sh : Shape) (u t : ℕ) (s : CoreState) → 1 ≤ noted_tid t (grant sh u s).commit → ⊥
unfolding grant
no-commit sh u t s = go s.phase
  where
    go : (q : Phase) → 1 ≤ noted_tid t (grant_in_phase sh u s q).commit → ⊥
    go AwaitTid l = omega arith
    go DoomedTid l = omega arith
    go (Overflowing None) l = omega arith
    go (Overflowing (Some v)) l = omega arith
    go Running l = omega arith
    go (Probing v) l = omega arith
    go (Ready v) l = omega arith
    go (Solo v) l = omega arith
    go Halted l = omega arith

pub step-spared : {sh : Shape} (p : Program) {gs : List Grant} {w : World} {cs : List Noted} (e : Event) → Kept sh w → KeptOwners sh gs w cs
    → SparesCommitter sh gs w → IfSome (step sh p w e) (λ o. KeptTold sh o.world → SparesCommitter sh (gs ++ granted_by w e) o.world)
unfolding pair
step-spared {sh} p {gs} {w} e z y h = step_cases sh p w e (λ g o. KeptTold sh o.world → SparesCommitter sh (gs ++ g) o.world)
    (λ c o eq l. moved c o (got _ eq (holder-exec sh p c (w.cores c))) (got _ eq (noted-exec sh p c (w.cores c))))
    (λ c a b o eq l. moved c o (got _ eq (holder-evict sh a b c (w.cores c))) (got _ eq (noted-evict sh a b (w.cores c))))
    (λ c k u i n. rw append-nil (pairs_grant (SparedOf sh gs) w c k (grant sh u (w.cores c))
    (λ d. spared-moved sh gs c d (grant_taken (pair w c d) k) (grant sh u (w.cores c)) (noted-grant sh u (w.cores c))
    (λ t l. absurd (no-commit sh u t (w.cores c) l)) (record { owner = (h c d).owner; own = (h c d).own })) h))
    (λ c d k m o eq i. taken c d k m i o (got _ eq (holder-back sh d c (w.cores c) m)) (got _ eq (noted-back sh d (w.cores c) m)))
    (λ c d k m i. answered c d k i (dir_deliver sh (w.dirs d) c m)
    (dir-due sh d (w.dirs d) c m (once_at c d k z.told i) (z.told.owed.at_home c d).marked (marks_home c d k z.told.owed i)
    (acks_owed c d k z.told.owed (core_of_out c d k z.told.tids i) i)) (dir-spares sh (w.dirs d) c m))
    (λ c k a i n. vendor-spared sh gs w c k a h z.told)
  where
    noted : (c t : ℕ) (o : Out) → KeepsHolder c none (w.cores c) o → 1 ≤ noted_tid t o.commit → Contains gs (grant_to t c)
    noted c t o k l = core-spared c t y k refl l

    moved : (c : ℕ) (o : Out) → KeepsHolder c none (w.cores c) o → CommitsNoted o → KeptTold sh (core_moves w c o)
        → SparesCommitter sh (gs ++ []) (core_moves w c o)
    moved c o a b = λ n. rw append-nil (pairs_move (SparedOf sh gs) w c o
        (λ d. spared-moved sh gs c d (pair w c d) o b (λ t l. noted c t o a l) (h c d)) h)

    taken : (c d k : ℕ) (m : Msg) → FromDir w d c k m → (o : Out) → KeepsHolder c none (w.cores c) o → CommitsNoted o
        → KeptTold sh (core_takes w (Dir d) c k o) → SparesCommitter sh (gs ++ []) (core_takes w (Dir d) c k o)
    taken c d k m i o a b = λ n. rw append-nil (pairs_back (SparedOf sh gs) w d c k o
        (spared-moved sh gs c d (back_taken (pair w c d) k) o b (λ t l. noted c t o a l)
        (record {
          owner = (h c d).owner;
          own = λ l g. omega (arith, (h c d).own l g, live-takes Invs (to_core w d c) k m i);
        }))
        (λ e q. spared-moved sh gs c e (pair w c e) o b (λ t l. noted c t o a l) (h c e)) h)

    answered : (c d k : ℕ) {m : Msg} → FromCore w c d k m → (a : Answer) → DueBy sh d (w.dirs d) (num (passes Acks m)) a
        → SparesBy (w.dirs d) c m a → OfAnswer w c d k (λ v. KeptTold sh v → SparesCommitter sh (gs ++ []) v) a
    answered c d k i Waits u p = tt
    answered c d k i Drops u p = λ n. rw append-nil (dir-spared w c d k (w.dirs d) nothing y.numbered h n i
        (rw u (still-due sh d (w.dirs d) (z.told.owed.at_home c d).marked)) (inl none-quiet))
    answered c d k i (Asks s sends) u p = λ n. rw append-nil (asks-spared w d s h n u p)
    answered c d k i (Takes s sends) u p = λ n. rw append-nil (dir-spared w c d k s sends y.numbered h n i u p)
