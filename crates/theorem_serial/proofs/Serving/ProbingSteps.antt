-- Every event keeps that one probe or reply is in flight for each directory that owes one, and of whose TID it is.
use Rattle.theorem_serial.specs.Probing.{ProbingOf, KeptProbing}
use Rattle.theorem_serial.proofs
use proofs.Names
use Names.{got, nothing, Contains-append_left, slice_index_or, if◌then◌else◌, after_answer, probe_reply, dir_deliver}
use Names.{Overflowing, all_replied, grant_taken, append-nil, ProbeReply, core_moves, core_takes, granted_by, KeptOwners}
use Names.{after_move, back_taken, CoreState, in_flight, marks_for, dir_takes, out_taken, KeptCores, Contains, cases_eq, TidGrant, sent_all}
use Names.{from_dir, DirState, Program, DataReq, ignored, Replies, Probing, has_tid, OneCore, IfSome, Vendor, Answer, Grants, Probes}
use Names.{passes, holder, nat_le, arith, Noted, Local, Event, Shape, World, start, grant, Waits, Drops, Takes, among, Grant, false, subst}
use Names.{Phase, Ready, Sends, ◌==◌, List, ◌++◌, Some, None, refl, Core, Fill, Asks, step, live, Kept, Pair, pair, Bool, true, Solo, ◌+◌}
use Names.{◌≡◌, ◌≤◌, sym, ◌⊎◌, inl, inr, num, Dir, Msg, Inv, Out, ◌∙◌, put, [], ap, ℕ, nats, to_dir, to_core, FromCore, FromDir}
use Names.{grant_to, ◌≢◌}
use proofs.Counts.{live-sends, live-takes, pairs_move, pairs_grant, pairs_back, pairs_dir, pairs_asks, pairs_vendor, OfAnswer, step_cases}
use proofs.OneCore.{fill-steady, data-steady, invalidate-cases, Replied, Ignored, Probed, Left_alone, reply-cases}
use proofs.Serving.DirDue.{RepliesBy, dir-replies, none-replied, Replying}
use proofs.Serving.KeptSteps.{core_of_grant}
use proofs.Serving.OwnerSteps.{grant-alone}
use proofs.Tids.{Unprobed, unprobed-steady, unprobed-exec, unprobed-evict, unprobed-hurt, granted, none-marks, none-to, Granted}
use proofs.Tids.{granted_waits, live-some, is_mine, not_mine}
use proofs.Counts.{Ask, Gift, gift, gift_grants, gift-counts, after_gift, after_other_gift}

-- Every event keeps that a probe or reply in flight is of a TID that was granted to its core.

-- of this core's probes and replies
abbrev pub ProbedOf : List Grant → (core : ℕ) → Pair → Type 0
ProbedOf gs c v = (t : ℕ) → 1 ≤ live (Probes t) v.out + live (Replies t) v.back → Contains gs (grant_to t c)

abbrev pub KeptProbed : List Grant → World → Type 0
KeptProbed gs w = (c d : ℕ) → ProbedOf gs c (pair w c d)

-- no message of a directory makes a core probe
abbrev Quiet : Out → Type 0
Quiet o = (d t : ℕ) → among (Probes t) (o.sends (Dir d)) ≡ 0

nothing-probed : (s : CoreState) (o : Out) → o ≡ ignored s → Quiet o
unfolding among
nothing-probed s o e d t = rw e

nothing-sent : (t : ℕ) → among (Probes t) [] ≡ 0
unfolding among
nothing-sent t = refl

reply-quiet : {sh : Shape} {e u : ℕ} (s : CoreState) {o : Out} → Replied sh e u s o → Quiet o
reply-quiet s {o} (Ignored q f) d t = nothing-probed s o q d t
reply-quiet {sh} {e} {u} s (Probed ph ow ph' ow' ca se cm) d t = rw se
    (none-to t e d (marks_for sh s.cache u e) (none-marks sh s.cache u e t))
reply-quiet s (Left_alone ph ow ph' ow' ca se cm) d t = rw se (nothing-sent t)

back-quiet : (sh : Shape) (e : ℕ) (s : CoreState) (m : Msg) → IfSome (from_dir sh e s m) Quiet
back-quiet sh e s (ProbeReply u v) = reply-quiet s (reply-cases sh e u s)
back-quiet sh e s (Fill l ws) = (unprobed-steady (fill-steady l ws s)).sent
back-quiet sh e s (DataReq l) = (unprobed-steady (data-steady sh l s)).sent
back-quiet sh e s (Inv l m u) = (unprobed-hurt (invalidate-cases sh l m u s)).sent
back-quiet sh e s _ = tt

-- a grant that is taken was on its way to this core
taken-granted : {sh : Shape} {gs : List Grant} (w : World) {cs : List Noted} (c k u : ℕ) → KeptOwners sh gs w cs
    → in_flight w.net Vendor (Core c) k ≡ Some (TidGrant u) → Contains gs (grant_to u c)
unfolding holder pair passes
taken-granted w c k u y i = y.held c 0 u (let n : num (u == u) ≡ 1 = grind nats in
    omega (arith, live-some (Grants u) (w.net Vendor (Core c)) k (TidGrant u) i))

pub step-probed : {sh : Shape} (p : Program) {gs : List Grant} {w : World} {cs : List Noted} (e : Event) → Kept sh w → KeptOwners sh gs w cs
    → KeptProbed gs w → IfSome (step sh p w e) (λ o. KeptProbed (gs ++ granted_by w e) o.world)
unfolding pair
step-probed {sh} p {gs} {w} e z y h = step_cases sh p w e (λ g o. KeptProbed (gs ++ g) o.world)
    (λ c o eq l. moved c o (got _ eq (unprobed-exec sh p c (w.cores c))))
    (λ c a b o eq l. moved c o (got _ eq (unprobed-evict sh a b (w.cores c))))
    (λ c k u i. rw append-nil (pairs_grant P w c k (grant sh u (w.cores c)) (λ d t x. mine c d k u t i x (cases_eq u t)) h))
    (λ c d k m o eq i. taken c d k m i o (got _ eq (back-quiet sh d (w.cores c) m)))
    (λ c d k m i. answered c d k m i (dir_deliver sh (w.dirs d) c m) (dir-replies sh (w.dirs d) c m))
    (λ c k a i. pairs_vendor (λ j d v. ProbedOf (gs ++ gift_grants (gift a) w.next c) j v) w c k a
    (λ d t x. more a c c t (h c d t x)) (λ j d n t x. more a c j t (h j d t x)))
  where
    P : ℕ → ℕ → Pair → Type 0
    P c d v = ProbedOf gs c v

    more : (a : Ask) (c j t : ℕ) → Contains gs (grant_to t j) → Contains (gs ++ gift_grants (gift a) w.next c) (grant_to t j)
    more a c j t q = Contains-append_left gs (gift_grants (gift a) w.next c) (grant_to t j) q

    mine : (c d k u t : ℕ) → in_flight w.net Vendor (Core c) k ≡ Some (TidGrant u)
        → 1 ≤ live (Probes t) (to_dir w c d ++ sent_all ((grant sh u (w.cores c)).sends (Dir d))) + live (Replies t)
        (to_core w d c) → (u ≡ t) ⊎ (u ≢ t) → Contains gs (grant_to t c)
    mine c d k u t i x (inl q) = rw (sym q) (taken-granted w c k u y i)
    mine c d k u t i x (inr q) =
        h c d t (omega (
          arith,
          live-sends,
          (granted sh u (w.cores c) (granted_waits (pair w c d) k i (z.told.tids.requests c d))).sent d t q,
        ))

    moved : (c : ℕ) (o : Out) → Unprobed (w.cores c) o → KeptProbed (gs ++ []) (core_moves w c o)
    moved c o a = rw append-nil (pairs_move P w c o
        (λ d t x. h c d t (omega (arith, a.sent, live-sends))) h)

    taken : (c d k : ℕ) (m : Msg) → FromDir w d c k m → (o : Out) → Quiet o → KeptProbed (gs ++ []) (core_takes w (Dir d) c k o)
    taken c d k m i o a = rw append-nil (pairs_back P w d c k o
        (λ t x. h c d t (omega (arith, a, live-sends, live-takes (Replies t) (to_core w d c) k m i)))
        (λ b n t x. h c b t (omega (arith, a, live-sends))) h)

    answered : (c d k : ℕ) (m : Msg) → FromCore w c d k m → (a : Answer) → RepliesBy m c a
        → OfAnswer w c d k (KeptProbed (gs ++ [])) a
    answered c d k m i Waits u = tt
    answered c d k m i Drops u = rw append-nil (pairs_dir P w c d k (w.dirs d) nothing
        (λ t x. h c d t (omega (arith, none-replied, live-takes (Probes t) (to_dir w c d) k m i, live-sends)))
        (λ j n t x. h j d t (omega (arith, none-replied, live-sends))) h)
    answered c d k m i (Asks s sends) u = rw append-nil (pairs_asks P w d s sends
        (λ j t x. h j d t (omega (arith, u, live-sends))) h)
    answered c d k m i (Takes s sends) u = rw append-nil (pairs_dir P w c d k s sends
        (λ t x. h c d t (omega (arith, u.own, live-takes (Probes t) (to_dir w c d) k m i, live-sends)))
        (λ j n t x. h j d t (omega (arith, u.others, live-sends))) h)

pub start-probed : (entries : ℕ → Local) (ram : ℕ → ℕ) → KeptProbed [] (start entries ram)
unfolding start pair live
start-probed entries ram c d t x = absurd (omega arith)

-- Every event keeps that one probe or reply is in flight for each directory that owes one, and so does every run.
probing-moved : {v : Pair} {o : Out} {d t : ℕ} → Unprobed v.core o → ProbingOf d t v → ProbingOf d t (after_move v o d)
probing-moved {v} {o} {d} {t} y h = record {
  fresh = λ l. omega (arith, h.fresh, live-sends, y.sent);
  held = λ k. let x = y.kept d t k in let q : num (o.core.owing d) ≡ num (v.core.owing d) = ap num x.1 in
      omega (arith, h.held, live-sends, y.sent);
}

-- a core takes its grant, which is the only one of its TID
probing-granted : {v : Pair} {o : Out} (d t k u : ℕ) → slice_index_or v.grants k None ≡ Some (TidGrant u)
    → num (nat_le v.next u) + live (Grants u) v.grants ≤ 1 → Granted u o → ProbingOf d u v → ProbingOf d t v
    → ProbingOf d t (after_move (grant_taken v k) o d)
probing-granted {v} {o} d t k u i one y hu h = elim (cases_eq u t) [
  | inl e ↦ subst (λ x. ProbingOf d x (after_move (grant_taken v k) o d)) e here
  | inr n ↦ record {
    fresh =
        λ l. omega (
          arith,
          h.fresh (omega (arith, live-takes (Grants t) v.grants k (TidGrant u) i, not_mine u t n)),
          live-sends
              (Probes t) v.out (o.sends (Dir d)),
          y.sent d t n,
        );
    held = λ x. absurd (n (y.kept d t x).0);
  }
]
  where
    mine : 1 ≤ live (Grants u) v.grants
    mine = omega (arith, live-takes (Grants u) v.grants k (TidGrant u) i, is_mine)

    here : ProbingOf d u (after_move (grant_taken v k) o d)
    here = record {
      fresh = λ l. absurd (omega (arith, live-takes (Grants u) v.grants k (TidGrant u) i, is_mine));
      held = λ x. omega (arith, hu.fresh (omega (arith, mine)), (y.kept d u x).1, live-sends);
    }

-- a core takes a reply
has-one : (b : Bool) (x y : Phase) (u t : ℕ) → has_tid x t ≡ (u == t) → has_tid y t ≡ (u == t) → has_tid (if b then x else y) t ≡ true
    → u ≡ t
has-one a x y u t e f h = grind nats

-- no directory owes a reply to a core that has the TID without waiting
abbrev Idle : (dir tid : ℕ) → CoreState → Type 0
Idle d t s = has_tid s.phase t ≡ true → ((s.phase ≡ Probing t) ⊎ (s.phase ≡ Overflowing (Some t))) ⊎ (s.owing d ≡ false)

-- one reply less is in flight, and the core's TID is u only where it counts
probing-taken : (v : Pair) (o : Out) (e k u x t : ℕ) → slice_index_or v.back k None ≡ Some (ProbeReply u x)
    → ((d t : ℕ) → among (Probes t) (o.sends (Dir d)) ≡ 0)
    → (has_tid o.core.phase t ≡ true → (has_tid v.core.phase t ≡ true) × (num (v.core.owing e) ≡ num (o.core.owing e) + num (u == t)))
    → ProbingOf e t v → ProbingOf e t (after_move (back_taken v k) o e)
unfolding passes
probing-taken v o e k u x t i n f h = record {
  fresh = λ l. omega (arith, h.fresh l, live-takes (Replies t) v.back k (ProbeReply u x) i, live-sends, n e t);
  held = λ y. let z = f y in
      omega (arith, h.held z.0, live-takes (Replies t) v.back k (ProbeReply u x) i, live-sends, n e t);
}

-- elsewhere the replies owed stay
probing-away : {v : Pair} (o : Out) (d t : ℕ) → ((d t : ℕ) → among (Probes t) (o.sends (Dir d)) ≡ 0)
    → (has_tid o.core.phase t ≡ true → (has_tid v.core.phase t ≡ true) × (o.core.owing d ≡ v.core.owing d)) → ProbingOf d t v
    → ProbingOf d t (after_move v o d)
probing-away {v} o d t n f h = record {
  fresh = λ l. omega (arith, h.fresh, live-sends, n);
  held = λ y. let z = f y in let q : num (o.core.owing d) ≡ num (v.core.owing d) = ap num z.1 in
      omega (arith, h.held, live-sends, n);
}

-- what a reply does to the replies owed
record Counts (e u : ℕ) (s : CoreState) (o : Out) : Type 0 where
  sent : (d t : ℕ) → among (Probes t) (o.sends (Dir d)) ≡ 0
  here : (t : ℕ) → has_tid o.core.phase t ≡ true
      → (has_tid s.phase t ≡ true) × ((num (s.owing e) ≡ num (o.core.owing e) + num (u == t)) ⊎ ((u ≡ t) × (s.owing e ≡ false)))
  away : (d t : ℕ) → d ≢ e → has_tid o.core.phase t ≡ true → (has_tid s.phase t ≡ true) × (o.core.owing d ≡ s.owing d)

put-here : (f : ℕ → Bool) (e : ℕ) → num (put f e false e) ≡ 0
put-here f e = let b : (e == e) ≡ true = grind nats in rw b

put-away : (f : ℕ → Bool) (e d : ℕ) → d ≢ e → put f e false d ≡ f d
put-away f e d n = let b : (d == e) ≡ false = grind nats in rw b

one-less : {s : CoreState} {o : Out} {e u : ℕ} (x y : Phase) (b : Bool) → o.core.phase ≡ (if b then x else y)
    → o.core.owing ≡ put s.owing e false → s.owing e ≡ true → ((t : ℕ) → has_tid x t ≡ (u == t)) → ((t : ℕ) → has_tid y t ≡ (u == t))
    → ((t : ℕ) → has_tid s.phase t ≡ (u == t)) → ((d t : ℕ) → among (Probes t) (o.sends (Dir d)) ≡ 0) → Counts e u s o
one-less {s} {e} {u} x y b p w f hx hy hs n = record {
  sent = n;
  here = λ t k. let q : u ≡ t = has-one b x y u t (hx t) (hy t) (rw p at k) in let r : (u == t) ≡ true = grind nats in
      (hs t ∙ r, inl (rw (f, w) (omega (arith, put-here, ap num r))));
  away = λ d t m k. let q : u ≡ t = has-one b x y u t (hx t) (hy t) (rw p at k) in let r : (u == t) ≡ true = grind nats in
      (hs t ∙ r, ap (λ g. g d) w ∙ put-away s.owing e d m);
}

counts : (sh : Shape) (e u : ℕ) (s : CoreState) (o : Out) → ((t : ℕ) → Idle e t s) → Replied sh e u s o → Counts e u s o
unfolding has_tid among
counts sh e u s o idle (Ignored q n) = rw q (record {
  sent = λ d t. refl;
  here = λ t k. (k, still t k (cases_eq u t) (idle t k));
  away = λ d t m k. (k, refl);
})
  where
    still : (t : ℕ) → has_tid s.phase t ≡ true → (u ≡ t) ⊎ (u ≢ t) → ((s.phase ≡ Probing t) ⊎ (s.phase ≡ Overflowing (Some t)))
        ⊎ (s.owing e ≡ false) → (num (s.owing e) ≡ num (s.owing e) + num (u == t)) ⊎ ((u ≡ t) × (s.owing e ≡ false))
    still t k (inr m) z = let b : (u == t) ≡ false = grind nats in inl (rw b (omega arith))
    still t k (inl i) (inr z) = inr (i, z)
    still t k (inl i) (inl z) = inr (i, n (subst (λ y. (s.phase ≡ Probing y) ⊎ (s.phase ≡ Overflowing (Some y))) (sym i) z))
counts sh e u s o idle (Probed g f ph ow ca se cm) = one-less (Ready u) (Probing u) (all_replied sh (put s.owing e false)) ph ow f
    (λ t. refl) (λ t. refl) (λ t. rw g) (λ d t. rw se (none-to t e d (marks_for sh s.cache u e) (none-marks sh s.cache u e t)))
counts sh e u s o idle (Left_alone g f ph ow mo se cm) =
    one-less (Solo u) (Overflowing (Some u)) (all_replied sh (put s.owing e false)) ph ow f (λ t. refl) (λ t. refl) (λ t. rw g)
    (λ d t. rw se)

probing-replied : {v : Pair} {o : Out} (e k u x t : ℕ) → slice_index_or v.back k None ≡ Some (ProbeReply u x) → Counts e u v.core o
    → ProbingOf e t v → ProbingOf e t (after_move (back_taken v k) o e)
unfolding passes
probing-replied {v} {o} e k u x t i y h = probing-taken v o e k u x t i y.sent (λ z. let w = y.here t z in (w.0, here w.0 w.1)) h
  where
    some : (u ≡ t) → 1 ≤ live (Replies t) v.back
    some q = let r : num (u == t) ≡ 1 = let b : (u == t) ≡ true = grind nats in rw b in
        omega (arith, live-takes (Replies t) v.back k (ProbeReply u x) i)

    here : has_tid v.core.phase t ≡ true → (num (v.core.owing e) ≡ num (o.core.owing e) + num (u == t))
        ⊎ ((u ≡ t) × (v.core.owing e ≡ false)) → num (v.core.owing e) ≡ num (o.core.owing e) + num (u == t)
    here z (inl q) = q
    here z (inr q) = let n : num (v.core.owing e) ≡ 0 = ap num q.1 in absurd (omega (arith, h.held, some))

-- a core that has a TID and waits for no reply is owed none
idle_of : {sh : Shape} {s : CoreState} (e t : ℕ) → OneCore sh s → Idle e t s
unfolding has_tid
idle_of {s} e t h k = go s.phase refl k
  where
    same : (u : ℕ) → (u == t) ≡ true → u ≡ t
    same u q = grind nats

    go : (q : Phase) → s.phase ≡ q → has_tid q t ≡ true → ((s.phase ≡ Probing t) ⊎ (s.phase ≡ Overflowing (Some t))) ⊎ (s.owing e ≡ false)
    go (Probing u) g x = inl (inl (g ∙ ap Probing (same u x)))
    go (Overflowing (Some u)) g x = inl (inr (g ∙ ap (λ y. Overflowing (Some y)) (same u x)))
    go (Ready u) g x = inr (h.owing e (rw g))
    go (Solo u) g x = inr (h.owing e (rw g))
    go _ g x = absurd (cc)

-- a directory answers
probing-answered : {v : Pair} (s : DirState) (ms : List Msg) {d t : ℕ} → among (Replies t) ms ≡ 0 → ProbingOf d t v
    → ProbingOf d t (after_answer v s ms)
probing-answered {v} s ms {t} n h = record {
  fresh = λ l. omega (arith, h.fresh, live-sends);
  held = λ k. omega (arith, h.held, live-sends);
}

probing-exchanged : {v : Pair} (s : DirState) (ms : List Msg) {d : ℕ} (t k : ℕ) (m : Msg) → slice_index_or v.out k None ≡ Some m
    → among (Replies t) ms ≡ num (passes (Probes t) m) → ProbingOf d t v → ProbingOf d t (after_answer (out_taken v k) s ms)
probing-exchanged {v} s ms t k m i n h = record {
  fresh = λ l. omega (arith, h.fresh l, live-sends, live-takes (Probes t) v.out k m i);
  held = λ x. omega (arith, h.held x, live-sends, live-takes (Probes t) v.out k m i);
}

-- the vendor grants
probing-given : (v : Pair) (k d t : ℕ) (g : Gift) → ProbingOf d t v → ProbingOf d t (after_gift v k g)
probing-given v k d t g h = record {
  fresh = λ l. h.fresh (omega (arith, live-sends, gift-counts g v.next t));
  held = h.held;
}

probing-next : {v : Pair} {d : ℕ} (t : ℕ) (g : Gift) → ProbingOf d t v → ProbingOf d t (after_other_gift v g)
probing-next {v} t g h = record {
  fresh = λ l. h.fresh (omega (arith, gift-counts g v.next t));
  held = h.held;
}

no-reply_fill : (l : ℕ) (ws : List ℕ) (t : ℕ) → passes (Replies t) (Fill l ws) ≡ false
unfolding passes
no-reply_fill l ws t = refl

no-reply_data : (l t : ℕ) → passes (Replies t) (DataReq l) ≡ false
unfolding passes
no-reply_data l t = refl

no-reply_inv : (l m u t : ℕ) → passes (Replies t) (Inv l m u) ≡ false
unfolding passes
no-reply_inv l m u t = refl

-- a message that is no reply is taken
dropped : {v : Pair} {e : ℕ} (k : ℕ) (m : Msg) (t : ℕ) → slice_index_or v.back k None ≡ Some m → passes (Replies t) m ≡ false
    → ProbingOf e t v → ProbingOf e t (back_taken v k)
dropped {v} k m t i f h = let n : num (passes (Replies t) m) ≡ 0 = ap num f in record {
  fresh = λ l. omega (arith, h.fresh l, live-takes (Replies t) v.back k m i);
  held = λ x. omega (arith, h.held x, live-takes (Replies t) v.back k m i);
}

pub step-probing : {sh : Shape} (p : Program) {gs : List Grant} {w : World} {cs : List Noted} (e : Event) → Kept sh w
    → KeptOwners sh gs w cs → KeptCores sh w → KeptProbing w → IfSome (step sh p w e) (λ o. KeptProbing o.world)
unfolding pair
step-probing {sh} p {w} e z y x h = step_cases sh p w e (λ g o. KeptProbing o.world)
    (λ c o eq l. moved c o (got _ eq (unprobed-exec sh p c (w.cores c))))
    (λ c a b o eq l. moved c o (got _ eq (unprobed-evict sh a b (w.cores c))))
    (λ c k u i. pairs_grant P w c k (grant sh u (w.cores c)) (λ d t. probing-granted d t k u i
    (grant-alone c u y (core_of_grant c k z.told.tids i))
    (granted sh u (w.cores c) (granted_waits (pair w c d) k i (z.told.tids.requests c d))) (h c d u) (h c d t)) h)
    (λ c d k m o eq i. got _ eq (taken c d k m i))
    (λ c d k m i. answered c d k m i (dir_deliver sh (w.dirs d) c m) (dir-replies sh (w.dirs d) c m))
    (λ c k a i. pairs_vendor P w c k a (λ d t. probing-given (pair w c d) k d t (gift a) (h c d t))
    (λ j d n t. probing-next t (gift a) (h j d t)))
  where
    P : ℕ → ℕ → Pair → Type 0
    P c d v = (t : ℕ) → ProbingOf d t v

    moved : (c : ℕ) (o : Out) → Unprobed (w.cores c) o → KeptProbing (core_moves w c o)
    moved c o u = pairs_move P w c o (λ d t. probing-moved u (h c d t)) h

    quiet : (c e k : ℕ) {m : Msg} {o : Out} → FromDir w e c k m → ((t : ℕ) → passes (Replies t) m ≡ false) → Unprobed (w.cores c) o
        → KeptProbing (core_takes w (Dir e) c k o)
    quiet c e k {m} {o} i f u = pairs_back P w e c k o (λ t. probing-moved u (dropped k m t i (f t) (h c e t)))
        (λ d n t. probing-moved u (h c d t)) h

    reply : (c e k u v : ℕ) → FromDir w e c k (ProbeReply u v) → KeptProbing (core_takes w (Dir e) c k (probe_reply sh e u (w.cores c)))
    reply c e k u v i =
        let a = counts sh e u (w.cores c) (probe_reply sh e u (w.cores c)) (λ t. idle_of e t (x c)) (reply-cases sh e u (w.cores c)) in
        pairs_back P w e c k (probe_reply sh e u (w.cores c)) (λ t. probing-replied e k u v t i a (h c e t))
        (λ d n t. probing-away (probe_reply sh e u (w.cores c)) d t a.sent (a.away d t n) (h c d t)) h

    taken : (c d k : ℕ) (m : Msg) → FromDir w d c k m → IfSome (from_dir sh d (w.cores c) m) (λ o. KeptProbing (core_takes w (Dir d) c k o))
    taken c d k (ProbeReply u v) i = reply c d k u v i
    taken c d k (Fill l ws) i = quiet c d k i (no-reply_fill l ws) (unprobed-steady (fill-steady l ws (w.cores c)))
    taken c d k (DataReq l) i = quiet c d k i (no-reply_data l) (unprobed-steady (data-steady sh l (w.cores c)))
    taken c d k (Inv l m u) i = quiet c d k i (no-reply_inv l m u) (unprobed-hurt (invalidate-cases sh l m u (w.cores c)))
    taken c d k _ i = tt

    dir : (c d k : ℕ) (m : Msg) (s : DirState) (sends : Sends) → FromCore w c d k m → Replying m c sends
        → KeptProbing (dir_takes w c d k s sends)
    dir c d k m s sends i u = pairs_dir P w c d k s sends (λ t. probing-exchanged s (sends (Core c)) t k m i (u.own t) (h c d t))
        (λ j n t. probing-answered s (sends (Core j)) (u.others j t n) (h j d t)) h

    answered : (c d k : ℕ) (m : Msg) → FromCore w c d k m → (a : Answer) → RepliesBy m c a → OfAnswer w c d k KeptProbing a
    answered c d k m i Waits u = tt
    answered c d k m i Drops u =
        dir c d k m (w.dirs d) nothing i (record { own = λ t. none-replied t ∙ sym (u t); others = λ j t n. none-replied t })
    answered c d k m i (Asks s sends) u = pairs_asks P w d s sends (λ j t. probing-answered s (sends (Core j)) (u j t) (h j d t)) h
    answered c d k m i (Takes s sends) u = dir c d k m s sends i u
