-- Every event keeps what is known of TIDs in flight, at cores and at directories.
use Rattle.theorem_serial.proofs
use proofs.Names
use Names.{eq-self, ℕ, ◌+◌, ◌≡◌, ◌<◌, ◌≤◌, Bool, true, false, ◌==◌, nat_lt, if◌then◌else◌, arith, refl, num, count_below, has_mark}
use Names.{Serving, advance, kept, is_skipped, Msg, Skip, Commit, Abort, Shape, lines, advance-rises, advance-past, advance-stops}
use Names.{advance-keeps, kept-skips, DirState, Answer, Waits, Drops, Asks, Takes, dir_deliver, invalidation_count, Resolves, passes}
use Names.{handled, nats, slice_index_or, first_serving, waits_for_tid, vendor_start, vendor_gives, after_answer}
use Names.{first-skips, grant_taken, core_start, core_moves, core_takes, after_move, back_taken, ResolvedAt, dir_start}
use Names.{in_flight, sum_below, dir_takes, out_taken, RequestOf, cases_lt, cases_eq, no_lines, TidGrant, dir_asks, AnyGrant, InsideOf}
use Names.{KeptTids, AsksTid, nat_le, Vendor, Grants, subst, Local, World, start, Sends, grant, among, share, opens, List, Some}
use Names.{None, Core, Link, Kind, live, Pair, pair, part, sym, ◌⊎◌, inl, inr, Dir, Out, Any, [], to_dir, to_core, FromCore, FromDir, ◌≢◌}
use proofs.Counts.{Outcome, Waiting, Spent, TakesSkip, TakesAbort, TakesCommit, TakesAck, TakesCopy, IsSpent, SkipPassed, AbortPassed}
use proofs.Counts.{CopyPassed, outcome, live-sends, live-takes, total-le, total-zero, sum_back_away, pairs_vendor, sum_dir_away}
use proofs.Counts.{pairs_grant, pairs_move, pairs_back, pairs_asks, sum_vendor, pairs_dir, sum_grant, sum_move, sum_back, sum_asks, sum_dir}
use proofs.Counts.{differ}
use proofs.Tids.Commits.{KeepsRequests, requests-grant, KeepsPart, part-grant}
use proofs.Counts.{Ask, asking, Gift, gift, gift_of, gift-counts, asks-once, gives_to, after_gift, after_other_gift}

-- What a directory's rules do to the TIDs that it has handled.

pub skipped-above : (s : Serving) (t : ℕ) → is_skipped s t ≡ true → s.serving < t
unfolding is_skipped
skipped-above s t h = grind nats

advance-stops_at : (s : Serving) (t : ℕ) → t ≡ (advance s).serving → is_skipped s t ≡ false
advance-stops_at s t e = rw e (advance-stops s)

-- to move on is to have passed one more TID
pub advance-count : (s : Serving) (t : ℕ)
    → num (nat_lt t (advance s).serving) + num (is_skipped (advance s) t) ≡ num (nat_lt t (s.serving + 1)) + num (is_skipped s t)
advance-count s t = grind (nats, advance-rises, advance-past, advance-stops_at, advance-keeps, skipped-above)

-- to keep a larger TID is to have handled it
kept-count : (s : Serving) (t u : ℕ) → s.serving < u → is_skipped s u ≡ false
    → num (is_skipped (kept u s) t) ≡ num (is_skipped s t) + num (u == t)
kept-count s t u l e = grind (nats, kept-skips)

-- what an answer makes of the TIDs handled, where none is handled and on its way at once
abbrev pub HandledMore : DirState → Msg → (tid : ℕ) → DirState → Type 0
HandledMore s m t new = handled new.serving new.owed t ≡ handled s.serving s.owed t + num (passes (Resolves t) m)

abbrev pub HandledBy : DirState → Msg → (tid : ℕ) → Answer → Type 0
HandledBy s m t Waits = Unit {0}
HandledBy s m t Drops = num (passes (Resolves t) m) ≡ 0
HandledBy s m t (Asks new sends) = handled new.serving new.owed t ≡ handled s.serving s.owed t
HandledBy s m t (Takes new sends) = HandledMore s m t new

abbrev pub OnceAt : DirState → Msg → Type 0
OnceAt s m = (t : ℕ) → num (passes (Resolves t) m) + handled s.serving s.owed t ≤ 1

-- nothing is owed and the served TID is on its way: the directory moves on
moved_on-handled : (s : Serving) (t : ℕ) → handled (advance s) 0 t ≡ handled s 0 t + num (s.serving == t)
unfolding handled
moved_on-handled s t = let a = advance-count s t in grind nats

pub unserved : (s : DirState) (m : Msg) → OnceAt s m → passes (Resolves s.serving.serving) m ≡ true → s.owed ≡ 0
unfolding handled
unserved s m h e = let o = h s.serving.serving in grind nats

-- a TID that is on its way hasn't been passed, and isn't kept
passed_twice : (s : DirState) (m : Msg) (u : ℕ) → OnceAt s m → passes (Resolves u) m ≡ true → u < s.serving.serving → ⊥
unfolding handled
passed_twice s m u h e l = let o = h u in grind nats

not_kept : (s : DirState) (m : Msg) (u : ℕ) → OnceAt s m → passes (Resolves u) m ≡ true → is_skipped s.serving u ≡ false
unfolding handled
not_kept s m u h e = let o = h u in grind nats

-- the served TID is resolved: the directory moves on
resolved_served : (s : DirState) (m : Msg) (u t : ℕ) → OnceAt s m → s.serving.serving ≡ u → passes (Resolves u) m ≡ true
    → num (passes (Resolves t) m) ≡ num (u == t)
    → handled (advance s.serving) s.owed t ≡ handled s.serving s.owed t + num (passes (Resolves t) m)
resolved_served s m u t h e f g =
    let o : s.owed ≡ 0 = unserved s m h (rw e f) in
    rw (o, g, moved_on-handled s.serving t, e)

-- a larger TID is resolved: it is kept
resolved_ahead : (s : DirState) (m : Msg) (u t : ℕ) → OnceAt s m → s.serving.serving < u → passes (Resolves u) m ≡ true
    → num (passes (Resolves t) m) ≡ num (u == t)
    → handled (kept u s.serving) s.owed t ≡ handled s.serving s.owed t + num (passes (Resolves t) m)
unfolding handled kept
resolved_ahead s m u t h l f g = omega (arith, kept-count s.serving t u l (not_kept s m u h f))

owed-handled : (s : Serving) (n t : ℕ) → 0 < n → handled s n t ≡ handled s 0 t + num (s.serving == t)
unfolding handled
owed-handled s n t l = grind nats

pub dir-handled : (sh : Shape) (s : DirState) (c : ℕ) (m : Msg) (t : ℕ) → OnceAt s m → HandledBy s m t (dir_deliver sh s c m)
unfolding passes
dir-handled sh s c m t = go (outcome sh s c m)
  where
    -- what is owed for a commit settles it
    settled : (b : Bool) (n : ℕ) → (n == 0) ≡ b → handled (if b then advance s.serving else s.serving) n t ≡ handled s.serving 0 t + num
        (s.serving.serving == t)
    settled a n e = grind (nats, moved_on-handled, owed-handled)

    spent : {m : Msg} → IsSpent s c m → OnceAt s m → num (passes (Resolves t) m) ≡ 0
    spent (SkipPassed u l) h = absurd (passed_twice s (Skip u) u h (eq-self u) l)
    spent (AbortPassed u l) h = absurd (passed_twice s (Abort u) u h (eq-self u) l)
    spent (CopyPassed m l k ws g y i e) h = rw (y.alike (Resolves t))
    spent _ h = refl

    resolved : (m : Msg) (u : ℕ) (b : Bool) → (s.serving.serving == u) ≡ b → s.serving.serving ≤ u → passes (Resolves u) m ≡ true
        → num (passes (Resolves t) m) ≡ num (u == t) → OnceAt s m
        → handled (if b then advance s.serving else kept u s.serving) s.owed t ≡ handled s.serving s.owed t + num (passes (Resolves t) m)
    resolved m u true e l p q h = resolved_served s m u t h (grind nats) p q
    resolved m u false e l p q h = resolved_ahead s m u t h (grind nats) p q

    go : {m : Msg} {a : Answer} → Outcome sh s c m a → OnceAt s m → HandledBy s m t a
    go (Waiting m) h = tt
    go (Spent m i) h = spent i h
    go (TakesSkip u b e l) h = resolved (Skip u) u b e l (eq-self u) refl h
    go (TakesAbort u b e l) h = resolved (Abort u) u b e l (eq-self u) refl h
    go (TakesCommit b e) h = let o : s.owed ≡ 0 = unserved s (Commit s.serving.serving (count_below (has_mark s.lines) (lines sh))) h
        (eq-self s.serving.serving) in rw o (settled b (invalidation_count sh s.lines c) e)
    go (TakesAck l k b i e) h = omega (arith, settled, owed-handled)
    go (TakesCopy m l k ws g y e o) h = rw (y.alike (Resolves t)) (omega arith)
    go _ h = omega arith

-- Each kind of event keeps the invariants.

-- a message in flight is counted
pub live-some : (k : Kind) (l : Link) (i : ℕ) (m : Msg) → slice_index_or l i None ≡ Some m → num (passes k m) ≤ live k l
live-some k l i m e = omega (arith, live-takes k l i m e)

pub any-one : (l : Link) (i : ℕ) {m : Msg} → slice_index_or l i None ≡ Some m → 1 ≤ live Any l
unfolding passes
any-one l i {m} e = live-some Any l i m e

-- a grant is one of its TID, and of no other
pub is_mine : (u : ℕ) → num (passes (Grants u) (TidGrant u)) ≡ 1
unfolding passes
is_mine u = grind nats

pub not_mine : (u t : ℕ) → u ≢ t → num (passes (Grants t) (TidGrant u)) ≡ 0
unfolding passes
not_mine u t n = let b : (u == t) ≡ false = grind nats in rw b

-- a core that a message comes from or goes to is one of the machine
pub inside_from : (sh : Shape) (c n : ℕ) → (sh.cores ≤ c → n ≡ 0) → 1 ≤ n → c < sh.cores
inside_from sh c n h l = elim (cases_lt c sh.cores) [ inl x ↦ x | inr x ↦ absurd (omega (arith, h)) ]

-- for a core of the machine only the owners matter
within : (sh : Shape) (c : ℕ) (v : Pair) → c < sh.cores → ((l o : ℕ) → v.dir.lines.owner l ≡ Some o → o < sh.cores) → InsideOf sh c v
within sh c v l h = record {
  out = λ x. absurd (omega arith);
  back = λ x. absurd (omega arith);
  asks = λ x. absurd (omega arith);
  grants = λ x. absurd (omega arith);
  owners = h;
}

request-moved : (v : Pair) (o : Out) (d : ℕ) → KeepsRequests 0 v.core o → RequestOf v → RequestOf (after_move v o d)
request-moved v o d k r = omega (arith, live-sends)

part-moved : (sh : Shape) (d t : ℕ) (v : Pair) (o : Out) → KeepsPart sh d t 0 v.core o
    → part sh d t (after_move v o d) + 0 ≡ part sh d t v + 0
unfolding part
part-moved sh d t v o k = omega (arith, live-sends)

-- a core moves
pub move-kept : (sh : Shape) (w : World) (c : ℕ) (o : Out) → KeptTids sh w → c < sh.cores → KeepsRequests 0 (w.cores c) o
    → ((d t : ℕ) → d < sh.dirs → KeepsPart sh d t 0 (w.cores c) o) → KeptTids sh (core_moves w c o)
unfolding pair core_moves
move-kept sh w c o k l r p = record {
  inside = pairs_move (λ c d v. InsideOf sh c v) w c o (λ d. within sh c _ l (k.inside c d).owners) k.inside;
  requests = pairs_move (λ c d v. RequestOf v) w c o (λ d. request-moved (pair w c d) o d r (k.requests c d)) k.requests;
  resolved = λ d t h. let e = sum_move (part sh d t) sh.cores w c o d 0 0 l (part-moved sh d t (pair w c d) o (p d t h)) in
      omega (arith, k.resolved);
}

-- a core takes a grant
request-granted : (v : Pair) (k u : ℕ) (o : Out) (d : ℕ) → slice_index_or v.grants k None ≡ Some (TidGrant u) → KeepsRequests 1 v.core o
    → RequestOf v → RequestOf (after_move (grant_taken v k) o d)
unfolding passes
request-granted v k u o d e r q = omega (arith, live-sends, live-takes AnyGrant v.grants k (TidGrant u) e)

part-granted : (sh : Shape) (d t k u : ℕ) (v : Pair) (o : Out) → slice_index_or v.grants k None ≡ Some (TidGrant u)
    → KeepsPart sh d t (num (u == t)) v.core o → part sh d t (after_move (grant_taken v k) o d) + 0 ≡ part sh d t v + 0
unfolding part passes
part-granted sh d t k u v o e q =
    omega (arith, live-sends, live-takes (Grants t) v.grants k (TidGrant u) e)

pub granted_waits : (v : Pair) (k : ℕ) {u : ℕ} → slice_index_or v.grants k None ≡ Some (TidGrant u) → RequestOf v
    → waits_for_tid v.core.phase ≡ true
unfolding passes
granted_waits v k {u} e r = go (waits_for_tid v.core.phase) refl (live-some AnyGrant v.grants k (TidGrant u) e)
  where
    go : (b : Bool) → waits_for_tid v.core.phase ≡ b → 1 ≤ live AnyGrant v.grants → waits_for_tid v.core.phase ≡ true
    go a q l = grind nats

pub grant-kept : (sh : Shape) (w : World) (c k u : ℕ) → KeptTids sh w → in_flight w.net Vendor (Core c) k ≡ Some (TidGrant u)
    → KeptTids sh (core_takes w Vendor c k (grant sh u (w.cores c)))
unfolding pair core_takes
grant-kept sh w c k u h e =
    let l : c < sh.cores = inside_from sh c (live Any (w.net Vendor (Core c))) (h.inside c 0).grants
    (any-one (w.net Vendor (Core c)) k e) in
    let wt : waits_for_tid (w.cores c).phase ≡ true = granted_waits (pair w c 0) k e (h.requests c 0) in
    let o : Out = grant sh u (w.cores c) in
    record {
      inside = pairs_grant (λ c d v. InsideOf sh c v) w c k o (λ d. within sh c _ l (h.inside c d).owners) h.inside;
      requests = pairs_grant (λ c d v. RequestOf v) w c k o
          (λ d. request-granted (pair w c d) k u o d e (requests-grant sh u (w.cores c) wt) (h.requests c d)) h.requests;
      resolved = λ d t x. let e =
          sum_grant (part sh d t) sh.cores w c k o d 0 0 l (part-granted sh d t k u (pair w c d) o e (part-grant sh u d t (w.cores c) x wt))
          in omega (arith, h.resolved);
    }

-- a core takes a message of a directory
pub back-kept : (sh : Shape) (w : World) (e c k : ℕ) (m : Msg) (o : Out) → KeptTids sh w → FromDir w e c k m → KeepsRequests 0 (w.cores c) o
    → ((d t : ℕ) → d < sh.dirs → KeepsPart sh d t 0 (w.cores c) o) → KeptTids sh (core_takes w (Dir e) c k o)
unfolding pair core_takes part
back-kept sh w e c k m o h i r p =
    let l : c < sh.cores = inside_from sh c (live Any (to_core w e c)) (h.inside c e).back (any-one (to_core w e c) k i) in
    record {
      inside = pairs_back (λ c d v. InsideOf sh c v) w e c k o (within sh c _ l (h.inside c e).owners)
          (λ d n. within sh c _ l (h.inside c d).owners) h.inside;
      requests = pairs_back (λ c d v. RequestOf v) w e c k o (request-moved (back_taken (pair w c e) k) o e r (h.requests c e))
          (λ d n. request-moved (pair w c d) o d r (h.requests c d)) h.requests;
      resolved = λ d t x. resolved l d t x (cases_eq d e);
    }
  where
    resolved : c < sh.cores → (d t : ℕ) → d < sh.dirs → (d ≡ e) ⊎ (d ≢ e) → ResolvedAt sh (core_takes w (Dir e) c k o) d t
    resolved l d t x (inr n) = let q = sum_back_away (part sh d t) sh.cores w e c k o d 0 0 n l (part-moved sh d t (pair w c d) o (p d t x))
        in omega (arith, h.resolved)
    resolved l d t x (inl n) = subst (λ e. ResolvedAt sh (core_takes w (Dir e) c k o) d t) n (here l d t x)
      where
        here : c < sh.cores → (d t : ℕ) → d < sh.dirs → ResolvedAt sh (core_takes w (Dir d) c k o) d t
        here l d t x = let q = sum_back (part sh d t) sh.cores w c k o d 0 0 l (part-moved sh d t (back_taken (pair w c d) k) o (p d t x))
            in omega (arith, h.resolved)

-- a directory takes a message of a core
part-answered : (sh : Shape) (d t k : ℕ) (m : Msg) (v : Pair) (s : DirState) (ms : List Msg) → slice_index_or v.out k None ≡ Some m
    → part sh d t (after_answer (out_taken v k) s ms) + num (passes (Resolves t) m) ≡ part sh d t v + 0 + 0
unfolding part
part-answered sh d t k m v s ms e = omega (arith, live-takes (Resolves t) v.out k m e)

pub once-there : (sh : Shape) (w : World) (c d k t : ℕ) (m : Msg) → c < sh.cores → FromCore w c d k m
    → ResolvedAt sh w d t → num (passes (Resolves t) m) + handled (w.dirs d).serving (w.dirs d).owed t ≤ 1
unfolding part pair share
once-there sh w c d k t m l e r =
    omega (arith, total-le (share (part sh d t) w d) sh.cores c l, live-some (Resolves t) (to_dir w c d) k m e)

inside-answered : {sh : Shape} {j : ℕ} {v : Pair} (s : DirState) (ms : List Msg) → (sh.cores ≤ j → among Any ms ≡ 0)
    → ((l o : ℕ) → s.lines.owner l ≡ Some o → o < sh.cores) → InsideOf sh j v → InsideOf sh j (after_answer v s ms)
inside-answered {v} s ms q h i = record {
  out = i.out;
  back = λ x. omega (arith, live-sends, i.back, q);
  asks = i.asks;
  grants = i.grants;
  owners = h;
}

part-still : (sh : Shape) (d t : ℕ) (v : Pair) (s : DirState) (ms : List Msg) → part sh d t (after_answer v s ms) ≡ part sh d t v + 0
unfolding part
part-still sh d t v s ms = omega arith

part-same : (sh : Shape) (d t : ℕ) (v : Pair) (s : DirState) (ms : List Msg) → part sh d t (after_answer v s ms) ≡ part sh d t v
unfolding part
part-same sh d t v s ms = refl

part-next : (sh : Shape) (d t : ℕ) (v : Pair) (g : Gift) → part sh d t (after_other_gift v g) ≡ part sh d t v
unfolding part
part-next sh d t v g = refl

part-given : (sh : Shape) (d t : ℕ) (v : Pair) (k : ℕ) (g : Gift)
    → part sh d t (after_gift v k g) + 0 ≡ part sh d t v + among (Grants t) (gift_of g v.next)
unfolding part
part-given sh d t v k g = omega (arith, live-sends)

request-given : (v : Pair) (k : ℕ) (a : Ask) → slice_index_or v.asks k None ≡ Some (asking a) → RequestOf v
    → RequestOf (after_gift v k (gift a))
request-given v k a e r = omega (arith, r, live-sends, live-takes AsksTid v.asks k (asking a) e, asks-once a v.next)

inside-next : {sh : Shape} {j : ℕ} {v : Pair} (g : Gift) → InsideOf sh j v → InsideOf sh j (after_other_gift v g)
inside-next g i = record { out = i.out; back = i.back; asks = i.asks; grants = i.grants; owners = i.owners }

start-handled : (t : ℕ) → num (nat_le 1 t) + handled first_serving 0 t ≡ 1
unfolding handled first_serving
start-handled t = let f = first-skips t in grind nats

part-start : (sh : Shape) (entries : ℕ → Local) (ram : ℕ → ℕ) (d t j : ℕ) → share (part sh d t) (start entries ram) d j ≡ 0
unfolding share part pair start core_start live opens
part-start sh entries ram d t j = refl

pub no_sends : among Any [] ≡ 0
unfolding among
no_sends = refl

pub dir-kept : {sh : Shape} {w : World} (c e k : ℕ) {m : Msg} (s : DirState) (sends : Sends) → KeptTids sh w → FromCore w c e k m
    → ((j : ℕ) → sh.cores ≤ j → among Any (sends (Core j)) ≡ 0) → ((l o : ℕ) → s.lines.owner l ≡ Some o → o < sh.cores)
    → ((t : ℕ) → e < sh.dirs → handled s.serving s.owed t ≡ handled (w.dirs e).serving (w.dirs e).owed t + num (passes (Resolves t) m))
    → KeptTids sh (dir_takes w c e k s sends)
unfolding pair dir_takes
dir-kept {sh} {w} c e k {m} s sends h i q ow hd =
    let l : c < sh.cores = inside_from sh c (live Any (to_dir w c e)) (h.inside c e).out (any-one (to_dir w c e) k i) in
    record {
      inside = pairs_dir (λ c d v. InsideOf sh c v) w c e k s sends (within sh c _ l ow)
          (λ j n. inside-answered s (sends (Core j)) (q j) ow (h.inside j e)) h.inside;
      requests = pairs_dir (λ c d v. RequestOf v) w c e k s sends (h.requests c e) (λ j n. h.requests j e) h.requests;
      resolved = λ d t x. resolved l d t x (cases_eq d e);
    }
  where
    here : c < sh.cores → (d t : ℕ) → d < sh.dirs → FromCore w c d k m
        → handled s.serving s.owed t ≡ handled (w.dirs d).serving (w.dirs d).owed t + num (passes (Resolves t) m)
        → ResolvedAt sh (dir_takes w c d k s sends) d t
    here l d t x i hd =
        let z : sum_below (λ j. 0) sh.cores ≡ 0 = total-zero (λ j. 0) sh.cores (λ j y. refl) in
        let p = sum_dir (part sh d t) (λ j. 0) sh.cores w c k s sends d (num (passes (Resolves t) m)) 0 l
        (part-answered sh d t k m (pair w c d) s (sends (Core c)) i) (λ j n. part-still sh d t (pair w j d) s (sends (Core j))) in
        rw (eq-self d) (omega (arith, h.resolved))

    resolved : c < sh.cores → (d t : ℕ) → d < sh.dirs → (d ≡ e) ⊎ (d ≢ e) → ResolvedAt sh (dir_takes w c e k s sends) d t
    resolved l d t x (inr n) = let p = sum_dir_away (part sh d t) sh.cores w c e k s sends d n in
        rw (differ d e n) (omega (arith, h.resolved))
    resolved l d t x (inl n) = subst (λ y. ResolvedAt sh (dir_takes w c y k s sends) d t) n (here l d t x (rw (sym n) at i)
        (subst (λ y. handled s.serving s.owed t ≡ handled (w.dirs y).serving (w.dirs y).owed t + num (passes (Resolves t) m)) (sym n)
        (hd t (rw n at x))))

-- a directory asks an owner
pub asks-kept : (sh : Shape) (w : World) (e : ℕ) (s : DirState) (sends : Sends) → KeptTids sh w
    → ((j : ℕ) → sh.cores ≤ j → among Any (sends (Core j)) ≡ 0) → ((l o : ℕ) → s.lines.owner l ≡ Some o → o < sh.cores)
    → ((t : ℕ) → e < sh.dirs → handled s.serving s.owed t ≡ handled (w.dirs e).serving (w.dirs e).owed t)
    → KeptTids sh (dir_asks w e s sends)
unfolding pair dir_asks
asks-kept sh w e s sends h q ow hd = record {
  inside = pairs_asks (λ c d v. InsideOf sh c v) w e s sends (λ j. inside-answered s (sends (Core j)) (q j) ow (h.inside j e)) h.inside;
  requests = pairs_asks (λ c d v. RequestOf v) w e s sends (λ j. h.requests j e) h.requests;
  resolved = λ d t x. resolved d t x (cases_eq d e);
}
  where
    resolved : (d t : ℕ) → d < sh.dirs → (d ≡ e) ⊎ (d ≢ e) → ResolvedAt sh (dir_asks w e s sends) d t
    resolved d t x (inr n) = let p = sum_asks (part sh d t) (λ j. 0) sh.cores w e s sends d
        (λ j. part-same sh d t (pair w j d) s (sends (Core j))) in rw (differ d e n) (omega (arith, h.resolved))
    resolved d t x (inl n) =
        let p = sum_asks (part sh d t) (λ j. 0) sh.cores w e s sends d (λ j. part-same sh d t (pair w j d) s (sends (Core j))) in
        let y : handled s.serving s.owed t ≡ handled (w.dirs d).serving (w.dirs d).owed t =
        subst (λ y. handled s.serving s.owed t ≡ handled (w.dirs y).serving (w.dirs y).owed t) (sym n) (hd t (rw n at x)) in
        let b : (d == e) ≡ true = rw n (eq-self e) in
        rw b (omega (arith, h.resolved))

-- the vendor gives
pub vendor-kept : (sh : Shape) (w : World) (c k : ℕ) (a : Ask) → KeptTids sh w → in_flight w.net (Core c) Vendor k ≡ Some (asking a)
    → KeptTids sh (gives_to w c k a)
unfolding pair vendor_gives
vendor-kept sh w c k a h i =
    let l : c < sh.cores = inside_from sh c (live Any (w.net (Core c) Vendor)) (h.inside c 0).asks (any-one (w.net (Core c) Vendor) k i) in
    record {
      inside = pairs_vendor (λ c d v. InsideOf sh c v) w c k a (λ d. within sh c _ l (h.inside c d).owners)
          (λ j d n. inside-next (gift a) (h.inside j d));
      requests = pairs_vendor (λ c d v. RequestOf v) w c k a (λ d. request-given (pair w c d) k a i (h.requests c d))
          (λ j d n. h.requests j d);
      resolved = λ d t x.
          let p = sum_vendor (part sh d t) sh.cores w c k a d 0 (among (Grants t) (gift_of (gift a) w.next)) l
          (part-given sh d t (pair w c d) k (gift a)) (λ j n. part-next sh d t (pair w j d) (gift a)) in
          omega (arith, h.resolved, gift-counts (gift a) w.next t);
    }

pub start-kept : (sh : Shape) (entries : ℕ → Local) (ram : ℕ → ℕ) → KeptTids sh (start entries ram)
unfolding start core_start dir_start vendor_start pair live waits_for_tid no_lines
start-kept sh entries ram = record {
  inside = λ c d. record { out = λ x. refl; back = λ x. refl; asks = λ x. refl; grants = λ x. refl; owners = λ l o e. absurd (cc) };
  requests = λ c d. refl;
  resolved = λ d t x. resolved d t;
}
  where
    resolved : (d t : ℕ) → ResolvedAt sh (start entries ram) d t
    resolved d t = omega (
      arith,
      total-zero (share (part sh d t) (start entries ram) d) sh.cores
          (λ j l. part-start sh entries ram d t j),
      start-handled,
    )
